-- A step that holds no block: what its tick comes to is an instance of its rule. Where the turn goes on, by what its effect does to the
-- scheduler; where it may wait, by what a try comes to.
use Prim.Native.Nat.{ℕ, suc, ◌+◌, ◌-◌, ◌<◌, ◌≤◌}
use mathlib.Core.Path.{◌≡◌, refl, sym, ap, ◌∙◌}
use mathlib.Core.Bool.{true, false, ◌&&◌, not, and-true}
use mathlib.Core.List.{List, [], ◌++◌, append-nil}
use mathlib.Core.Logic.{◌⊎◌, inl, inr}
use native.Mathlib.Omega.{arith}
use native.Mathlib.Decide.{dec_le}
use native.Mathlib.Numerals.{add-one}
use borrow.Author.Tests.{eqb-true, eqb-false}
use lib.Dec.{eqb}
use Rattle.std.specs.Prelude.{Some}
use Rattle.numbers.specs.Numbers.{sum_of}
use Rattle.numbers.proofs.Sums.{adds_up}
use Rattle.numbers.proofs.Tests.{clash, and_both, by_test}
use Rattle.layout.specs.Layout.{most_routines}
use Rattle.kinds.specs.declared.Kind.{Kind}
use Rattle.kinds.specs.declared.Kind.TheVariants as kind
use Rattle.kinds.specs.declared.Counts.{Counts}
use Rattle.forms.specs.declared.Form.{Form}
use Rattle.forms.specs.declared.Form.TheVariants.{Plain, Pausing}
use Rattle.kinds.specs.Steps.{step_at, steps_in}
use Rattle.forms.specs.Forms.{form_of}
use Rattle.game.specs.Game.{counter_at}
use Rattle.blocks.specs.Blocks.{stands}
use Rattle.round.specs.declared.Ending.{Ending}
use Rattle.round.specs.declared.Ending.TheVariants.{Missed, Continued}
use Rattle.round.specs.declared.Position.{Position}
use Rattle.round.specs.declared.Effect.{Effect}
use Rattle.round.specs.declared.Effect.TheVariants.{Nothing, Put, Add, Give, GiveNumber, Start, Stop, Suspend, Resume}
use Rattle.round.specs.declared.Act.{Act}
use Rattle.round.specs.declared.Act.TheVariants.{Goes, Halts}
use Rattle.round.specs.State.{State, Thing, signal, end, number, number_at, is_there}
use Rattle.round.specs.Ticks.{Tick, tick_with, fresh, begun_at, count_at, onward, tries, rests_for, waits_for, reads, tick_of, effect_on}
use Rattle.round.specs.Answers.{marks_in}
use Rattle.round.proofs.Leads.{form_at}
use Rattle.round.proofs.Forms.{leaf_there}
use Rattle.round.proofs.Fields.{FieldsRight, fields_right}
use Rattle.rules.specs.Instructions.{Pause, misses, misses_for, unread, Status, TERM, nothing}
use Rattle.rules.specs.Schedulers.{Scheduler, writes, becomes, adds, takes, returned}
use Rattle.rules.specs.Rules.{⟨◌&◌⟩⟶[◌]⟨◌&◌⟩, rule1, rule11, rule12, rule13, rule19, rule20, rule21, rule22, rule23, rule24, rule25}
use Rattle.rules.specs.Rules.{rule28, rule30, rule31, rule32}
use Rattle.rules.specs.Residual.{instruction}
use Rattle.rules.specs.Positions.{paused_at}
use Rattle.rules.specs.Scheduled.{scheduler_in}
use Rattle.rules.proofs.Walks.{Marks, HasRoom, HaltsAs, rests_as, misses_as, continues_as}
use Rattle.rules.proofs.Effects.{nothing_view, mark_view, count_view, add_view, give_view, give_number_view, start_view, stop_view}
use Rattle.rules.proofs.Effects.{suspend_view, resume_view}
use Rattle.rules.proofs.Tries.{coop_term, cont_term, values_numbers, number_given_lem, number_missing, Idle, Tried, tried_wait}
use Rattle.rules.proofs.Tries.{tried_wait_for, tried_join, tried_join_for}

-- the form of a step that holds no block, and another one
abbrev Leaf : Form → Type 0
Leaf f = (f ≡ Plain) ⊎ (f ≡ Pausing)

no_leaf : {f : Form} {A : Type 0} → Leaf f → (f ≡ Plain → true ≡ false) → (f ≡ Pausing → true ≡ false) → A
no_leaf (inl e) p q = clash refl (p e)
no_leaf (inr e) p q = clash refl (q e)

-- a step that ends the turn is kept, with the count left, or is behind the routine
pub data Halted (size r : ℕ) (k : Kind) (x : Position) (s : State) (ms : Marks) (h : Ending) (y : Position) : Type 0 where
  stays :
      {α : Status} →
      ⟨ instruction r x k & scheduler_in s ms ⟩⟶[ α ]⟨ instruction r y k & scheduler_in s ms ⟩ →
      HaltsAs size y h α → y.place ≡ x.place →
      Halted size r k x s ms h y
  leaves :
      {α : Status} →
      ⟨ instruction r x k & scheduler_in s ms ⟩⟶[ α ]⟨ nothing & scheduler_in s ms ⟩ →
      HaltsAs size y h α → y ≡ fresh (suc x.place) →
      Halted size r k x s ms h y

module _ (counts : Counts) (r : ℕ) (steps : List ℕ) where
  -- what a step comes to, with these marks, is what the rule of its kind says
  abbrev ActByRule : Kind → Position → State → Marks → Act → Marks → Type 0
  ActByRule k x s ms (Goes q e) new =
      (q ≡ suc x.place)
      × (HasRoom counts.routines s →
      ⟨ instruction r x k & scheduler_in s ms ⟩⟶[ TERM ]⟨ nothing & scheduler_in (effect_on e s) (ms ++ new) ⟩)
  ActByRule k x s ms (Halts h y) new = Halted (steps_in steps) r k x s ms h y

  abbrev pub ByRule : Kind → Position → State → Marks → Tick → Type 0
  ByRule k x s ms t = ActByRule k x s ms t.act (marks_in t.events)

  module _ (k : Kind) (x : Position) (s : State) (ms : Marks) where
    -- the turn goes on behind an effect, with no mark
    changes :
        (e : Effect) {σ : Scheduler} →
        (HasRoom counts.routines s → scheduler_in (effect_on e s) ms ≡ σ) →
        ⟨ instruction r x k & scheduler_in s ms ⟩⟶[ TERM ]⟨ nothing & σ ⟩ →
        ActByRule k x s ms (onward r steps x s e) []
    changes e same h = (add-one x.place, λ f. rw (append-nil, same f) h)

    passes : Idle s ms (instruction r x k) TERM nothing → ActByRule k x s ms (onward r steps x s Nothing) []
    passes h = changes Nothing (λ f. nothing_view s ms) h

    -- a try, by what its thing's test says
    attempts :
        (t : Thing) (e : Effect) (y : Position) →
        (is_there s t ≡ true → ActByRule k x s ms (onward r steps x s e) []) →
        (is_there s t ≡ false → s.eoi ≡ true → Halted (steps_in steps) r k x s ms Missed y) →
        (is_there s t ≡ false → s.eoi ≡ false → Halted (steps_in steps) r k x s ms Continued x) →
        ByRule k x s ms (tries r steps x s t e y)
    unfolding marks_in
    attempts t e y found rests again =
        by_test (ByRule k x s ms) (is_there s t) found (λ none.
        by_test (λ (a : Act). ActByRule k x s ms a []) s.eoi (rests none) (again none))

    -- a try of a step that stays at position y
    waiting :
        (t : Thing) (w : Pause) → Tried s ms (is_there s t) (instruction r x k) (instruction r (paused_at w) k) w →
        (paused_at w).place ≡ x.place →
        ByRule k x s ms (tries r steps x s t Nothing (paused_at w))
    waiting t w tried e =
        attempts t Nothing (paused_at w) (λ h. passes (tried.found h))
        (λ h o. stays (tried.rests h o) (coop_term, misses_as w refl) e)
        (λ h o. stays (tried.again h o) (cont_term, continues_as) refl)

    -- the same with a count, which may be over
    waiting_for_lem :
        (t : Thing) (count : ℕ) → (count ≤ 0 → Idle s ms (instruction r x k) TERM nothing) →
        (let w = misses_for x.place (count - 1) in
        0 < count → Tried s ms (is_there s t) (instruction r x k) (instruction r (paused_at w) k) w) →
        ByRule k x s ms (waits_for r steps x s t count)
    unfolding waits_for marks_in
    waiting_for_lem t count over w =
        by_test (ByRule k x s ms) (eqb count 0 && not (is_there s t))
        (λ h. passes (over (omega (arith, eqb-true count 0 (and_both (eqb count 0) (not (is_there s t)) h).0))))
        (λ h.
        let goes_on_lem : is_there s t ≡ false → 0 < count = λ e. omega (arith, eqb-false count 0 (sym (and-true _) ∙ (rw e at h))) in
        attempts t Nothing (begun_at x.place (count - 1))
        (λ e. passes (elim (dec_le count 0) [ yes z ↦ over z | no p ↦ (w (omega arith)).found e ]))
        (λ e o. stays ((w (goes_on_lem e)).rests e o) (coop_term, misses_as _ refl) refl)
        (λ e o. stays ((w (goes_on_lem e)).again e o) (cont_term, continues_as) refl))

  module _ (x : Position) (s : State) (ms : Marks) where
    rests_for_lem : (n : ℕ) → ByRule (kind.RestFor n) x s ms (tick_with (rests_for r steps x s (count_at x n)) [])
    unfolding marks_in
    rests_for_lem n =
        by_test (λ (a : Act). ActByRule (kind.RestFor n) x s ms a []) (eqb (count_at x n) 0)
        (λ h. passes (kind.RestFor n) x s ms (rule23 (omega (arith, eqb-true (count_at x n) 0 h))))
        (λ h. stays (rule24 (omega (arith, eqb-false (count_at x n) 0 h))) (coop_term, rests_as _ refl) refl)

    -- the state behind a reading
    taken : (e c k : ℕ) → scheduler_in (effect_on (Put c (number_at s e k)) s) ms ≡ returned e c k (scheduler_in s ms)
    unfolding scheduler_in
    taken e c k = count_view s ms c (number_at s e k) ∙ rw (values_numbers e s.numbers)

    reads_number : (e c k : ℕ) → ByRule (kind.Read e c k) x s ms (reads r steps x s e c k)
    unfolding scheduler_in
    reads_number e c k =
        attempts (kind.Read e c k) x s ms (number e k) (Put c (number_at s e k)) (fresh (x.place + 1))
        (λ h. changes (kind.Read e c k) x s ms (Put c (number_at s e k)) (λ f. taken e c k) (rule30 (number_given_lem s ms e k h)))
        (λ h o.
        leaves (rule32 (number_missing s ms e k h) o) (coop_term, misses_as (unread x.place) refl) (ap fresh (add-one x.place)))
        (λ h o. stays (rule31 (number_missing s ms e k h) o) (cont_term, continues_as) refl)

  leaf_by_rule :
      (k : Kind) → Leaf (form_of k) → FieldsRight counts k → counts.routines ≤ most_routines →
      (x : Position) (s : State) (ms : Marks) → ByRule k x s ms (tick_of r steps x s k)
  unfolding tick_of scheduler_in marks_in
  leaf_by_rule (kind.Mark n) l b few x s ms = (add-one x.place, λ f. rw mark_view (rule1 writes))
  leaf_by_rule (kind.Set c n) l b few x s ms = changes (kind.Set c n) x s ms (Put c n) (λ f. count_view s ms c n) (rule1 becomes)
  leaf_by_rule (kind.Add c n) l b few x s ms =
      let v = counter_at s.game c in
      changes (kind.Add c n) x s ms (Add c (sum_of v n)) (λ f. add_view s ms c (sum_of v n)) (rule1 (adds (adds_up v n)))
  leaf_by_rule (kind.Take c d) l b few x s ms =
      let v = counter_at s.game c in
      let n = counter_at s.game d in
      changes (kind.Take c d) x s ms (Add c (sum_of v n)) (λ f. add_view s ms c (sum_of v n)) (rule1 (takes (adds_up v n)))
  leaf_by_rule (kind.Signal e) l b few x s ms = changes (kind.Signal e) x s ms (Give e) (λ f. give_view s ms e) rule12
  leaf_by_rule (kind.SignalNumber e c) l b few x s ms =
      let v = counter_at s.game c in
      changes (kind.SignalNumber e c) x s ms (GiveNumber e v) (λ f. give_number_view s ms e v) rule13
  leaf_by_rule kind.Rest l b few x s ms = leaves rule11 (coop_term, rests_as _ refl) (ap fresh (add-one x.place))
  leaf_by_rule (kind.RestFor n) l b few x s ms = rests_for_lem x s ms n
  leaf_by_rule (kind.Wait e) l b few x s ms =
      waiting (kind.Wait e) x s ms (signal e) (misses x.place) (tried_wait s ms x.place e) refl
  leaf_by_rule (kind.WaitFor e n) l b few x s ms =
      waiting_for_lem (kind.WaitFor e n) x s ms (signal e) (count_at x n) (λ z. rule25 (inr z)) (tried_wait_for s ms x.place e (count_at x n))
  leaf_by_rule (kind.Join t) l b few x s ms = waiting (kind.Join t) x s ms (end t) (misses x.place) (tried_join s ms x.place t) refl
  leaf_by_rule (kind.JoinFor t n) l b few x s ms =
      waiting_for_lem (kind.JoinFor t n) x s ms (end t) (count_at x n) (λ z. rule28 (inr z)) (tried_join_for s ms x.place t (count_at x n))
  leaf_by_rule (kind.Read e c k) l b few x s ms = reads_number x s ms e c k
  leaf_by_rule (kind.Start t) l b few x s ms =
      changes (kind.Start t) x s ms (Start t) (λ f. start_view s ms t f b few) rule19
  leaf_by_rule (kind.Stop t) l b few x s ms = changes (kind.Stop t) x s ms (Stop t) (λ f. stop_view s ms t) rule20
  leaf_by_rule (kind.Suspend t) l b few x s ms =
      changes (kind.Suspend t) x s ms (Suspend t) (λ f. suspend_view s ms t) rule21
  leaf_by_rule (kind.Resume t) l b few x s ms = changes (kind.Resume t) x s ms (Resume t) (λ f. resume_view s ms t) rule22
  leaf_by_rule (kind.If c relation n) l b few x s ms = no_leaf l (λ e. cc) (λ e. cc)
  leaf_by_rule kind.Else l b few x s ms = no_leaf l (λ e. cc) (λ e. cc)
  leaf_by_rule (kind.While c relation n) l b few x s ms = no_leaf l (λ e. cc) (λ e. cc)
  leaf_by_rule kind.End l b few x s ms = no_leaf l (λ e. cc) (λ e. cc)

  -- where such a step stands, by its rule
  pub leaf_at :
      counts.routines ≤ most_routines →
      (p : ℕ) → (form_at counts steps p ≡ stands Plain) ⊎ (form_at counts steps p ≡ stands Pausing) →
      (k : Kind)
      × (step_at counts steps p ≡ Some k)
      × ((x : Position) (s : State) (ms : Marks) → ByRule k x s ms (tick_of r steps x s k))
  leaf_at few p h =
      let (k, e, leaf) = leaf_there counts steps p h in
      (k, e, leaf_by_rule k leaf (fields_right counts steps p k e) few)
