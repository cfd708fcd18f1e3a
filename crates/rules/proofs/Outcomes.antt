-- What a turn comes to as a step or a block on its way sees it: it stops in there, or it passes the end with a shorter turn left. If two
-- instructions run alike, an outcome for the one is an outcome for the other, which is how an outcome is carried from a part to the whole.
use Prim.Native.Nat.{ℕ, suc, ◌≤◌, ◌<◌}
use mathlib.Core.Path.{◌≡◌, sym, ap, subst, ◌∙◌}
use mathlib.Core.List.{List, [], ◌++◌, append-nil}
use native.Mathlib.Omega.{arith}
use Rattle.kinds.specs.declared.Kind.{Kind}
use Rattle.kinds.specs.declared.Counts.{Counts}
use Rattle.kinds.specs.Steps.{steps_in}
use Rattle.round.specs.declared.Ending.{Ending}
use Rattle.round.specs.declared.Position.{Position}
use Rattle.round.specs.declared.Effect.TheVariants.{Nothing}
use Rattle.round.specs.declared.Act.TheVariants.{Goes}
use Rattle.round.specs.State.{State}
use Rattle.round.specs.Ticks.{Tick, tick_with, tick, fresh, effect_on}
use Rattle.round.specs.Answers.{marks_in}
use Rattle.rules.specs.Instructions.{Status, TERM, Instruction, nothing}
use Rattle.rules.specs.Rules.{⟨◌&◌⟩⟶[◌]⟨◌&◌⟩}
use Rattle.rules.specs.Residual.{instruction, ◌⇝◌, same}
use Rattle.rules.specs.Scheduled.{scheduler_in}
use Rattle.rules.proofs.Walks.{Marks, HaltsAs, Ends, halts, goes}
use Rattle.rules.proofs.Leaves.{Halted, stays, leaves, ByRule}

abbrev pub Run : Instruction → State → Marks → Status → Instruction → State → Marks → Type 0
Run i s ms α t v vs = ⟨ i & scheduler_in s ms ⟩⟶[ α ]⟨ t & scheduler_in v vs ⟩

-- whatever i does, i' does
abbrev pub RunsAs : Instruction → State → Marks → Instruction → State → Marks → Type 0
RunsAs i s ms i' s' ms' = (α : Status) (t : Instruction) (v : State) (vs : Marks) → Run i s ms α t v vs → Run i' s' ms' α t v vs

module _ (counts : Counts) (r : ℕ) (steps : List ℕ) (h : Ending) (y : Position) (u : State) (us : Marks) where
  -- at most n steps from state s and marks ms on, where i is to be run of a step from place p up to place e
  pub data OfStep (i : Instruction) (left : Position → Instruction) (p e n : ℕ) (s : State) (ms : Marks) : Type 0 where
    stops :
        {t : Instruction} {α : Status} →
        Run i s ms α t u us → HaltsAs (steps_in steps) y h α → t ⇝ left y → p ≤ y.place → y.place < e →
        OfStep i left p e n s ms
    rests :
        {t : Instruction} {α : Status} →
        Run i s ms α t u us → HaltsAs (steps_in steps) y h α → t ⇝ nothing → y ≡ fresh e →
        OfStep i left p e n s ms
    over :
        (m : ℕ) (v : State) (vs : Marks) →
        Run i s ms TERM nothing v vs → m < n → Ends counts r steps h y u us m (fresh e) v vs →
        OfStep i left p e n s ms

  -- the same for a block, whose end is a place of it
  pub data OfBlock (i : Instruction) (left : Position → Instruction) (p e n : ℕ) (s : State) (ms : Marks) : Type 0 where
    within :
        {t : Instruction} {α : Status} →
        Run i s ms α t u us → HaltsAs (steps_in steps) y h α → t ⇝ left y → p ≤ y.place → y.place ≤ e →
        OfBlock i left p e n s ms
    passes :
        (m : ℕ) (x : Position) (v : State) (vs : Marks) →
        Run i s ms TERM nothing v vs → m ≤ n → x.place ≡ e → Ends counts r steps h y u us m x v vs →
        OfBlock i left p e n s ms

module _ {counts : Counts} {r : ℕ} {steps : List ℕ} {h : Ending} {y : Position} {u : State} {us : Marks} where
  -- a step that changes nothing, and leads to q
  pub onward :
      {n q : ℕ} {x : Position} {s : State} {ms : Marks} →
      Ends counts r steps h y u us n x s ms → tick counts r steps x s ≡ tick_with (Goes q Nothing) [] →
      (m : ℕ) × (m < n) × Ends counts r steps h y u us m (fresh q) s ms
  unfolding effect_on marks_in
  onward (halts e) g =
      let same = ap (λ (a : Tick). a.act) (sym e ∙ g) in
      let z : ◌≡◌ {A = ℕ} 0 1 = cc in
      absurd (omega arith)
  onward {q = q} {ms = ms} (goes {n = n} {q = p} {e = c} {events = events} f e t) g =
      let same = ap (λ (a : Tick). a.act) (sym e ∙ g) in
      let none : events ≡ [] = ap (λ (a : Tick). a.events) (sym e ∙ g) in
      let a : p ≡ q = cc in
      let b : c ≡ Nothing = cc in
      (n, omega arith, rw (a, b, none, append-nil ms) at t)

  -- a step that holds no block, and goes by its rule
  leaf_halts :
      {p n : ℕ} {k : Kind} {x : Position} →
      x.place ≡ p → Halted (steps_in steps) r k x u us h y →
      OfStep counts r steps h y u us (instruction r x k) (λ z. instruction r z k) p (suc p) n u us
  leaf_halts l (stays run on m) = stops run on same (omega arith) (omega arith)
  leaf_halts l (leaves run on m) = rests run on same (m ∙ ap (λ (q : ℕ). fresh (suc q)) l)

  pub leaf_ends :
      {p n : ℕ} (k : Kind) {x : Position} {s : State} {ms : Marks} →
      x.place ≡ p → ByRule counts r steps k x s ms (tick counts r steps x s) → Ends counts r steps h y u us n x s ms →
      OfStep counts r steps h y u us (instruction r x k) (λ z. instruction r z k) p (suc p) n s ms
  leaf_ends k {x} l by (halts e) = leaf_halts l (subst (λ (a : Tick). ByRule counts r steps k x u us a) e by)
  leaf_ends k {x} {s} {ms} l by (goes {n = n} {e = c} {events = events} f e t) =
      let rule = subst (λ (a : Tick). ByRule counts r steps k x s ms a) e by in
      over n (effect_on c s) (ms ++ marks_in events) (rule.1 f) (omega arith) (rw (rule.0, l) at t)

  -- for another instruction that runs as i does, in a turn at least as long
  pub block_as :
      {i i' : Instruction} {left left' : Position → Instruction} {p p' e n n' : ℕ} {s s' : State} {ms ms' : Marks} →
      RunsAs i s ms i' s' ms' → ((z : Position) → p ≤ z.place → left' z ≡ left z) → p' ≤ p → n ≤ n' →
      OfBlock counts r steps h y u us i left p e n s ms → OfBlock counts r steps h y u us i' left' p' e n' s' ms'
  block_as f g lp ln (within run on w l m) = within (f _ _ _ _ run) on (rw (g y l) w) (omega arith) m
  block_as f g lp ln (passes k x v vs run l m t) = passes k x v vs (f _ _ _ _ run) (omega arith) m t

  pub step_as :
      {i i' : Instruction} {left : Position → Instruction} {p e n n' : ℕ} {s s' : State} {ms ms' : Marks} →
      RunsAs i s ms i' s' ms' → n ≤ n' →
      OfStep counts r steps h y u us i left p e n s ms → OfStep counts r steps h y u us i' left p e n' s' ms'
  step_as f ln (stops run on w l m) = stops (f _ _ _ _ run) on w l m
  step_as f ln (rests run on w m) = rests (f _ _ _ _ run) on w m
  step_as f ln (over m v vs run l t) = over m v vs (f _ _ _ _ run) (omega arith) t
