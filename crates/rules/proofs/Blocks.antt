-- What a turn comes to from any place of any block: by induction over the parse, a claim for each constructor from the claims for its
-- parts. The claim for a while needs a second induction, on the steps that the turn has left, since its end leads back to its test.
use Prim.Native.Nat.{ℕ, zero, suc, ◌≤◌, ◌<◌}
use mathlib.Core.Path.{◌≡◌, refl, sym, ap, subst, ◌∙◌}
use mathlib.Core.Bool.{Bool, true, false}
use mathlib.Core.List.{List, []}
use mathlib.Core.Logic.{◌⊎◌, inl, inr}
use native.Mathlib.Decide.{dec_lt}
use native.Mathlib.Numerals.{add-one}
use native.Mathlib.Omega.{arith}
use lib.Dec.{eqb}
use lib.IntN.{ℤ}
use Rattle.std.specs.Prelude.{if◌then◌else◌, Option, Some}
use Rattle.numbers.specs.Numbers.{relation_of}
use Rattle.numbers.proofs.Relations.{relation_holds, relation_fails}
use Rattle.kinds.specs.declared.Kind.{Kind}
use Rattle.kinds.specs.declared.Counts.{Counts}
use Rattle.forms.specs.declared.Form.TheVariants.{Plain, Pausing, IfOpening, ElseMarker, WhileOpening, EndMarker}
use Rattle.kinds.specs.Steps.{step_at}
use Rattle.blocks.specs.Blocks.{View, stands}
use Rattle.blocks.specs.Parse.{ParsedBlock, empty, more, ParsedStep, plain, pausing, if_only, if_else, loop}
use Rattle.blocks.proofs.Parses.{block_goes, step_goes}
use Rattle.layout.specs.Layout.{most_routines}
use Rattle.game.specs.Game.{counter_at}
use Rattle.round.specs.declared.Ending.{Ending}
use Rattle.round.specs.declared.Position.{Position}
use Rattle.round.specs.declared.Effect.TheVariants.{Nothing}
use Rattle.round.specs.declared.Act.TheVariants.{Goes}
use Rattle.round.specs.State.{State}
use Rattle.round.specs.Jumps.{past_partner, from_end}
use Rattle.round.specs.Ticks.{Tick, tick_with, fresh, tick, tick_of, tick_at}
use Rattle.round.proofs.Leads.{form_at}
use Rattle.round.proofs.Forms.{form_there}
use Rattle.round.proofs.Jumps.{past_partner_lem, from_if, from_else, from_while}
use Rattle.rules.specs.Instructions.{TERM, Instruction, nothing, ◌then◌, while, while_inst}
use Rattle.rules.specs.Instructions as paper
use Rattle.rules.specs.Rules.{IsTrue, rule2, rule3, rule4, rule5, rule6, rule7, rule8, rule9, rule10}
use Rattle.rules.specs.Residual.{instruction_of, test_of, of_block, left_of_block, left_of_step, same, drop, first, body}
use Rattle.rules.specs.Scheduled.{scheduler_in}
use Rattle.rules.proofs.Walks.{Marks, Ends}
use Rattle.rules.proofs.Leaves.{ByRule, leaf_at}
use Rattle.rules.proofs.Places.{block_start, more_first, more_behind, only_at, only_in, loop_at, loop_in}
use Rattle.rules.proofs.Places.{both_at, both_first, both_second}
use Rattle.rules.proofs.Outcomes.{Run, OfStep, stops, rests, over, OfBlock, within, passes, onward, leaf_ends, block_as, step_as}

module _ (counts : Counts) (r : ℕ) (steps : List ℕ) (few : counts.routines ≤ most_routines) where
  abbrev step_of : ℕ → Option Kind
  step_of = step_at counts steps

  abbrev at : ℕ → View
  at = form_at counts steps

  tick_at_lem :
      {k : Kind} {p : ℕ} (x : Position) (s : State) → x.place ≡ p → step_of p ≡ Some k → tick counts r steps x s ≡ tick_of r steps x s k
  unfolding tick
  tick_at_lem x s l e = ap (λ (a : Option Kind). tick_at r steps x s a) (ap step_of l ∙ e)

  -- the step at x leads to q, and changes nothing and has no event
  abbrev JustLeads : Position → State → ℕ → Type 0
  JustLeads x s q = tick counts r steps x s ≡ tick_with (Goes q Nothing) []

  -- an else and an end lead on
  else_leads :
      (x : Position) (s : State) {p q : ℕ} → x.place ≡ p → at p ≡ stands ElseMarker → past_partner steps p ≡ q → JustLeads x s q
  unfolding tick_of
  else_leads x s {p} l k e = tick_at_lem x s l (form_there counts steps p k) ∙ rw (l, e)

  end_leads :
      (x : Position) (s : State) {p q : ℕ} → x.place ≡ p → at p ≡ stands EndMarker → from_end steps p ≡ q → JustLeads x s q
  unfolding tick_of
  end_leads x s {p} l k e = tick_at_lem x s l (form_there counts steps p k) ∙ rw (l, e)

  -- the outcome of the turn is fixed
  module _ (h : Ending) (y : Position) (u : State) (us : Marks) where
    abbrev Turn : ℕ → Position → State → Marks → Type 0
    Turn = Ends counts r steps h y u us

    abbrev StepEnds : Instruction → (Position → Instruction) → ℕ → ℕ → ℕ → State → Marks → Type 0
    StepEnds = OfStep counts r steps h y u us

    -- a block where i is to be run of it
    abbrev BlockEnds : {d p e : ℕ} → ParsedBlock at d p e → Instruction → ℕ → State → Marks → Type 0
    BlockEnds {p = p} {e = e} b i n s ms = OfBlock counts r steps h y u us i (left_of_block r step_of b) p e n s ms

    abbrev BlockClaim : {d p e : ℕ} → ParsedBlock at d p e → Type 0
    BlockClaim {p = p} {e = e} b =
        (n : ℕ) (x : Position) (s : State) (ms : Marks) →
        p ≤ x.place → x.place ≤ e → Turn n x s ms → BlockEnds b (left_of_block r step_of b x) n s ms

    abbrev StepClaim : {d p e : ℕ} → ParsedStep at d p e → Type 0
    StepClaim {p = p} {e = e} a =
        (n : ℕ) (x : Position) (s : State) (ms : Marks) →
        p ≤ x.place → x.place < e → Turn n x s ms → StepEnds (left_of_step r step_of a x) (left_of_step r step_of a) p e n s ms

    -- blocks
    empty_claim : (d p : ℕ) → BlockClaim (empty {d = d} {p = p})
    empty_claim d p n x s ms l m t = passes n x s ms rule2 (omega arith) (omega arith) t

    from_start :
        {d p e : ℕ} (b : ParsedBlock at d p e) → BlockClaim b →
        {n : ℕ} {s : State} {ms : Marks} → Turn n (fresh p) s ms → BlockEnds b (of_block r step_of b) n s ms
    from_start {p = p} b B {n} {s} {ms} t =
        rw (block_start r step_of b) at (B n (fresh p) s ms (omega arith) (block_goes at 0 b) t)

    module _ {d p q e : ℕ} (a : ParsedStep at d p q) (b : ParsedBlock at d q e) (B : BlockClaim b) where
      first_ends :
          {n : ℕ} {i : Instruction} {s : State} {ms : Marks} →
          StepEnds i (left_of_step r step_of a) p q n s ms → BlockEnds (more a b) (i then of_block r step_of b) n s ms
      first_ends (stops run on w l m) =
          within (rule4 run on.0) on (rw (more_first r step_of a b y m) (first w)) l (omega (arith, block_goes at 0 b))
      first_ends (rests run on w m) =
          let l : y.place ≡ q = ap (λ (z : Position). z.place) m in
          let left : left_of_block r step_of (more a b) y ≡ of_block r step_of b =
          more_behind r step_of a b y (omega arith) ∙ ap (left_of_block r step_of b) m ∙ block_start r step_of b in
          within (rule4 run on.0) on (rw left (drop w same)) (omega (arith, step_goes at 0 a)) (omega (arith, block_goes at 0 b))
      first_ends (over m v vs run l t) =
          block_as (λ α j w ws next. rule3 run next) (more_behind r step_of a b) (omega (arith, step_goes at 0 a)) (omega arith)
          (from_start b B t)

      more_claim : StepClaim a → BlockClaim (more a b)
      more_claim A n x s ms l m t = elim (dec_lt x.place q) [
        | yes c ↦ rw (more_first r step_of a b x c) (first_ends (A n x s ms l c t))
        | no c ↦
            rw (more_behind r step_of a b x (omega arith))
            (block_as (λ α i w ws run. run) (more_behind r step_of a b) (omega (arith, step_goes at 0 a)) (omega arith)
            (B n x s ms (omega arith) m t))
      ]

    -- a step that holds no block
    leaf_claim :
        (p : ℕ) → (at p ≡ stands Plain) ⊎ (at p ≡ stands Pausing) → (n : ℕ) (x : Position) (s : State) (ms : Marks) →
        p ≤ x.place → x.place < suc p → Turn n x s ms →
        StepEnds (instruction_of r x (step_of p)) (λ z. instruction_of r z (step_of p)) p (suc p) n s ms
    leaf_claim p o n x s ms l m t =
        let (k, e, by) = leaf_at counts r steps few p o in
        let here : x.place ≡ p = omega arith in
        rw e (leaf_ends k here (subst (λ (a : Tick). ByRule counts r steps k x s ms a) (sym (tick_at_lem x s here e)) (by x s ms)) t)

    -- The test of the opening at p is made, and the turn is in the block behind it, or past its partner.
    data Tested (p n : ℕ) (s : State) (ms : Marks) : Type 0 where
      enters : (m : ℕ) → m < n → IsTrue (test_of (step_of p)) (scheduler_in s ms) → Turn m (fresh (suc p)) s ms → Tested p n s ms
      skips :
          (m : ℕ) → m < n → (IsTrue (test_of (step_of p)) (scheduler_in s ms) → ⊥) → Turn m (fresh (past_partner steps p)) s ms →
          Tested p n s ms

    test_by :
        {p n : ℕ} {s : State} {ms : Marks} (c relation : ℕ) (k : ℤ) (b : Bool) →
        test_of (step_of p) ≡ record { counter = c; relation = relation; number = k } →
        eqb (relation_of relation (counter_at s.game c) k) 1 ≡ b →
        (m : ℕ) × (m < n) × Turn m (fresh (if b then suc p else past_partner steps p)) s ms → Tested p n s ms
    unfolding scheduler_in
    test_by {s = s} c relation k true t e (m, l, next) = enters m l (rw t ((relation_holds relation (counter_at s.game c) k).0 e)) next
    test_by {s = s} c relation k false t e (m, l, next) = skips m l (rw t (relation_fails relation (counter_at s.game c) k e)) next

    tested :
        (p : ℕ) → (at p ≡ stands IfOpening) ⊎ (at p ≡ stands WhileOpening) →
        {n : ℕ} {x : Position} {s : State} {ms : Marks} → x.place ≡ p → Turn n x s ms → Tested p n s ms
    unfolding tick_of
    tested p (inl o) {x = x} {s = s} l t =
        let (c, relation, k, e) = form_there counts steps p o in
        test_by c relation k _ (ap test_of e) refl (onward t (tick_at_lem x s l e ∙ rw (l, add-one)))
    tested p (inr o) {x = x} {s = s} l t =
        let (c, relation, k, e) = form_there counts steps p o in
        test_by c relation k _ (ap test_of e) refl (onward t (tick_at_lem x s l e ∙ rw (l, add-one)))

    -- the test of a step that holds one block: i goes into the block, or is over
    one_tested :
        {d p q : ℕ} (b : ParsedBlock at d (suc p) q) → at q ≡ stands EndMarker → BlockClaim b →
        {n : ℕ} {i : Instruction} {left : Position → Instruction} {s : State} {ms : Marks} →
        ((m : ℕ) → m < n → IsTrue (test_of (step_of p)) (scheduler_in s ms) → BlockEnds b (of_block r step_of b) m s ms →
        StepEnds i left p (suc q) m s ms) →
        ((IsTrue (test_of (step_of p)) (scheduler_in s ms) → ⊥) → Run i s ms TERM nothing s ms) →
        Tested p n s ms → StepEnds i left p (suc q) n s ms
    one_tested b k B into out (enters m l holds t) = step_as (λ α i w ws run. run) (omega arith) (into m l holds (from_start b B t))
    one_tested b k B {s = s} {ms = ms} into out (skips m l fails t) =
        over m s ms (out fails) l (rw (past_partner_lem counts steps b (inr k)) at t)

    -- a block of an if, whose end leads behind the if
    leaves_block :
        {d p q : ℕ} (b : ParsedBlock at d p q) (left : Position → Instruction) {f e n : ℕ} {i : Instruction} {s : State} {ms : Marks} →
        ((z : Position) → p ≤ z.place → z.place ≤ q → left z ≡ left_of_block r step_of b z) → f ≤ p → q < e →
        ((x : Position) (v : State) → x.place ≡ q → JustLeads x v e) → BlockEnds b i n s ms → StepEnds i left f e n s ms
    leaves_block b left g lf le jump (within run on w l m) = stops run on (rw (g y l m) w) (omega arith) (omega arith)
    leaves_block b left g lf le jump (passes k x v vs run l m t) =
        let next = onward t (jump x v m) in
        over next.0 v vs run (omega (arith, next.1)) next.2

    module _
        {d p q : ℕ} (o : at p ≡ stands IfOpening) (b : ParsedBlock at d (suc p) q) (k : at q ≡ stands EndMarker) (B : BlockClaim b)
      where
        in_block :
            {n : ℕ} {i : Instruction} {s : State} {ms : Marks} →
            BlockEnds b i n s ms → StepEnds i (left_of_step r step_of (if_only o b k)) p (suc q) n s ms
        in_block =
            leaves_block b (left_of_step r step_of (if_only o b k)) (λ z l m. only_in r step_of o b k z l) (omega arith) (omega arith)
            (λ x v l. end_leads x v l k (from_if counts steps o b))

        only_claim : StepClaim (if_only o b k)
        only_claim n x s ms l m t = elim (dec_lt p x.place) [
          | yes c ↦ rw (only_in r step_of o b k x c) (in_block (B n x s ms c (omega arith) t))
          | no c ↦
              let here : x.place ≡ p = omega arith in
              rw (only_at r step_of o b k x here)
              (one_tested b k B (λ f g holds ends. step_as (λ α i w ws run. rule9 holds run) (omega arith) (in_block ends))
              (λ fails. rule10 fails rule2) (tested p (inl o) here t))
        ]

    module _
        {d p q e : ℕ} (o : at p ≡ stands IfOpening) (b : ParsedBlock at d (suc p) q) (k : at q ≡ stands ElseMarker)
        (c : ParsedBlock at d (suc q) e) (j : at e ≡ stands EndMarker) (B : BlockClaim b) (C : BlockClaim c)
      where
        in_first :
            {n : ℕ} {i : Instruction} {s : State} {ms : Marks} →
            BlockEnds b i n s ms → StepEnds i (left_of_step r step_of (if_else o b k c j)) p (suc e) n s ms
        in_first =
            leaves_block b (left_of_step r step_of (if_else o b k c j)) (both_first r step_of o b k c j) (omega arith)
            (omega (arith, block_goes at 0 c)) (λ x v l. else_leads x v l k (past_partner_lem counts steps c (inr j)))

        in_second :
            {n : ℕ} {i : Instruction} {s : State} {ms : Marks} →
            BlockEnds c i n s ms → StepEnds i (left_of_step r step_of (if_else o b k c j)) p (suc e) n s ms
        in_second =
            leaves_block c (left_of_step r step_of (if_else o b k c j)) (λ z l m. both_second r step_of o b k c j z l)
            (omega (arith, block_goes at 0 b)) (omega arith) (λ x v l. end_leads x v l j (from_else counts steps o b k c))

        both_tested :
            {n : ℕ} {s : State} {ms : Marks} →
            Tested p n s ms →
            StepEnds (paper.if_else (test_of (step_of p)) (of_block r step_of b) (of_block r step_of c)) (left_of_step r step_of (if_else o b k c j))
            p (suc e) n s ms
        both_tested (enters m l holds t) = step_as (λ α i w ws run. rule9 holds run) (omega arith) (in_first (from_start b B t))
        both_tested (skips m l fails t) =
            step_as (λ α i w ws run. rule10 fails run) (omega arith)
            (in_second (from_start c C (rw (past_partner_lem counts steps b (inl k)) at t)))

        both_claim : StepClaim (if_else o b k c j)
        both_claim n x s ms l m t = elim (dec_lt q x.place) [
          | yes f ↦ rw (both_second r step_of o b k c j x f) (in_second (C n x s ms f (omega arith) t))
          | no f ↦ elim (dec_lt p x.place) [
            | yes g ↦ rw (both_first r step_of o b k c j x g (omega arith)) (in_first (B n x s ms g (omega arith) t))
            | no g ↦
                let here : x.place ≡ p = omega arith in
                rw (both_at r step_of o b k c j x here) (both_tested (tested p (inl o) here t))
          ]
        ]

    module _
        {d p q : ℕ} (o : at p ≡ stands WhileOpening) (b : ParsedBlock at d (suc p) q) (k : at q ≡ stands EndMarker) (B : BlockClaim b)
      where
        -- the while at its test
        abbrev FromTest : ℕ → State → Marks → Type 0
        FromTest n s ms = StepEnds (while (test_of (step_of p)) (of_block r step_of b)) (left_of_step r step_of (loop o b k)) p (suc q) n s ms

        in_body :
            {n : ℕ} {i : Instruction} {s : State} {ms : Marks} →
            ((m : ℕ) (v : State) (vs : Marks) → m < n → Turn m (fresh p) v vs → FromTest m v vs) → BlockEnds b i n s ms →
            StepEnds (while_inst (test_of (step_of p)) i (of_block r step_of b)) (left_of_step r step_of (loop o b k)) p (suc q) n s ms
        in_body again (within run on w l m) =
            stops (rule8 run on.0) on (rw (loop_in r step_of o b k y l) (body w)) (omega arith) (omega arith)
        in_body again (passes n x v vs run l m t) =
            let next = onward t (end_leads x v m k (from_while counts steps o b)) in
            step_as (λ α i w ws rest. rule7 run rest) (omega (arith, next.1)) (again next.0 v vs (omega (arith, next.1)) next.2)

        loop_tested :
            {n : ℕ} {s : State} {ms : Marks} →
            ((m : ℕ) (v : State) (vs : Marks) → suc m < n → Turn m (fresh p) v vs → FromTest m v vs) → Tested p n s ms → FromTest n s ms
        loop_tested again =
            one_tested b k B
            (λ f g holds ends.
            step_as (λ α i w ws run. rule6 holds run) (omega arith) (in_body (λ m v vs a. again m v vs (omega arith)) ends))
            rule5

        -- by a bound on the steps left
        from_test : (bound n : ℕ) (x : Position) (s : State) (ms : Marks) → n ≤ bound → x.place ≡ p → Turn n x s ms → FromTest n s ms
        from_test zero n x s ms l here t = loop_tested (λ m v vs a. absurd (omega arith)) (tested p (inr o) here t)
        from_test (suc bound) n x s ms l here t =
            loop_tested (λ m v vs a. from_test bound m (fresh p) v vs (omega arith) refl) (tested p (inr o) here t)

        loop_claim : StepClaim (loop o b k)
        loop_claim n x s ms l m t = elim (dec_lt p x.place) [
          | yes c ↦
              rw (loop_in r step_of o b k x c)
              (in_body (λ f v vs a. from_test f f (fresh p) v vs (omega arith) refl) (B n x s ms c (omega arith) t))
          | no c ↦
              let here : x.place ≡ p = omega arith in
              rw (loop_at r step_of o b k x here) (from_test n n x s ms (omega arith) here t)
        ]

    mutual
      pub block_claim : {d p e : ℕ} (b : ParsedBlock at d p e) → BlockClaim b
      block_claim (empty {d = d} {p = p}) = empty_claim d p
      block_claim (more a b) = more_claim a b (block_claim b) (step_claim a)

      step_claim : {d p e : ℕ} (a : ParsedStep at d p e) → StepClaim a
      step_claim (plain {p = p} o) = leaf_claim p (inl o)
      step_claim (pausing {p = p} o) = leaf_claim p (inr o)
      step_claim (if_only o b k) = only_claim o b k (block_claim b)
      step_claim (if_else o b k c j) = both_claim o b k c j (block_claim b) (block_claim c)
      step_claim (loop o b k) = loop_claim o b k (block_claim b)
