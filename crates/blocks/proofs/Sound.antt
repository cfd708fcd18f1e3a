-- The reader of Blocks is right: what it is past is a parse, and a fault that it answers with is a misplaced or an unreadable step.
-- By the depth left and the steps left, from a place that is reached with the openings still open: behind what is parsed that is so again.
use Prim.Native.Nat.{ℕ, zero, suc, ◌+◌, ◌≤◌, ◌<◌, min, ◌-◌}
use mathlib.Core.Path.{◌≡◌, refl, sym, ap₂, subst, ◌∙◌}
use mathlib.Core.Bool.{Bool, false, ◌&&◌, ◌||◌, or-false, or_assoc}
use mathlib.Core.List.{List, [], ◌∷◌}
use native.Mathlib.Numerals.{add-one}
use native.Mathlib.Omega.{arith}
use lib.Dec.{ltb}
use lib.ListN.{length}
use borrow.Author.Tests.{ltb-true, ltb-false}
use Rattle.std.specs.Prelude.{Err, if◌then◌else◌}
use Rattle.numbers.proofs.Tests.{clash, by_test}
use Rattle.forms.specs.declared.Form.{Form}
use Rattle.forms.specs.declared.Form.TheVariants.{Plain, Pausing, IfOpening, ElseMarker, WhileOpening, EndMarker}
use Rattle.blocks.specs.declared.Fault.{Fault}
use Rattle.blocks.specs.declared.Fault.TheVariants.{Unreadable, Misnested}
use Rattle.forms.specs.Forms.{is_else, is_end}
use Rattle.blocks.specs.Blocks.{Walk, past, View, beyond, unreadable, stands, else_at, and_then, closed, deepest}
use Rattle.blocks.specs.Blocks.{else_by, if_by, while_by, step_by, block_step, block_by, step_of, block_of, routine_of}
use Rattle.blocks.specs.Parse.{ParsedBlock, ParsedStep, empty, more, plain, pausing, if_only, if_else, loop, block_pauses, step_pauses}
use Rattle.blocks.specs.Parse.{Open, open_if, open_else, open_while, opening_of, Reached, Misplaced}
use Rattle.blocks.proofs.Views.{Stops, by_stop, within, stands_within, unreadable_not_beyond, Says, says_more, says_then, says_fault}
use Rattle.blocks.proofs.Parses.{lowest, lowest_of, from_none, step_goes, block_reached, step_reached}

module _ (at : ℕ → View) (n : ℕ) (out : (p : ℕ) → n ≤ p → at p ≡ beyond) where
  -- a place that is reached lies in the routine or right behind it
  pub reached_within : {os : List Open} {p : ℕ} → Reached at os p → p ≤ n
  reached_within Reached.start = omega arith
  reached_within (Reached.plain {p = p} r h) = stands_within at n out p h
  reached_within (Reached.pausing {p = p} r h) = stands_within at n out p h
  reached_within (Reached.if {p = p} r h l) = stands_within at n out p h
  reached_within (Reached.else {p = p} r h) = stands_within at n out p h
  reached_within (Reached.while {p = p} r h l) = stands_within at n out p h
  reached_within (Reached.end {p = p} r h) = stands_within at n out p h

  -- What the answers say. Of a fault: what is wrong at its place.
  abbrev FaultIs : Fault → Type 0
  FaultIs (Misnested q) = Misplaced at q × (q < n)
  FaultIs (Unreadable q) = ((os : List Open) × Reached at os q × (at q ≡ unreadable)) × (q < n)

  -- Of what is past: a parse up to the place behind, which pauses as told and has the lowest while told.
  abbrev StepIs : ℕ → ℕ → ℕ → Bool → ℕ → Type 0
  StepIs d p q v m = (s : ParsedStep at d p q) × (step_pauses at s ≡ v) × (lowest_of at n s ≡ m)

  abbrev ParseIs : ℕ → ℕ → ℕ → Bool → ℕ → Type 0
  ParseIs d p q v m = (b : ParsedBlock at d p q) × (block_pauses at b ≡ v) × (lowest at n b ≡ m)

  abbrev BlockIs : ℕ → ℕ → ℕ → Bool → ℕ → Type 0
  BlockIs d p q v m = ParseIs d p q v m × Stops (at q)

  -- the rest of a block goes on with what is told of the steps before it
  abbrev RestIs : ℕ → ℕ → Bool → ℕ → ℕ → Bool → ℕ → Type 0
  RestIs d p u l q v m = (b : ParsedBlock at d p q) × ((u || block_pauses at b) ≡ v) × (min l (lowest at n b) ≡ m) × Stops (at q)

  -- a reader of steps that are no markers, with the depth d left
  abbrev StepsAre : List Open → ℕ → (Form → ℕ → Walk) → Type 0
  StepsAre os d step =
      (f : Form) (p : ℕ) → at p ≡ stands f → (is_else f || is_end f) ≡ false → Reached at os p → Says (StepIs d p) FaultIs (step f p)

  -- a reader of the rest of a block; the k steps left go up to the routine's end
  abbrev RestsAre : List Open → ℕ → ℕ → (ℕ → Bool → ℕ → Walk) → Type 0
  RestsAre os d k rest =
      (p : ℕ) (u : Bool) (l : ℕ) → Reached at os p → n ≤ p + k → l ≤ n → Says (RestIs d p u l) FaultIs (rest p u l)

  misplaced_at : {f : Form} (p : ℕ) → at p ≡ stands f → Misplaced at p → FaultIs (Misnested p)
  misplaced_at p h w = (w, stands_within at n out p h)

  stopped : (d p : ℕ) (u : Bool) (l : ℕ) → l ≤ n → Stops (at p) → RestIs d p u l p u l
  stopped d p u l i t = (empty, or-false u, omega arith, t)

  onward :
      (d p q : ℕ) (u v : Bool) (l m : ℕ) → StepIs d p q v m → (r : ℕ) (w : Bool) (o : ℕ) →
      RestIs d q (u || v) (min l m) r w o → RestIs d p u l r w o
  onward d p q u v l m s r w o b = (more s.0 b.0, rw s.1 (sym (or_assoc u v _) ∙ b.1), omega arith, b.3)

  module _ (os : List Open) (d : ℕ) (L : length os + d ≡ deepest) (step : Form → ℕ → Walk) (S : StepsAre os d step) where
    block_step_sound :
        (k : ℕ) (rest : ℕ → Bool → ℕ → Walk) → RestsAre os d k rest →
        (x : View) (p : ℕ) (u : Bool) (l : ℕ) → at p ≡ x → Reached at os p → n ≤ p + suc k → l ≤ n →
        Says (RestIs d p u l) FaultIs (block_step at n step rest x p u l)
    block_step_sound k rest R beyond p u l h r j i = stopped d p u l i (rw h tt)
    block_step_sound k rest R unreadable p u l h r j i = ((os, r, h), within at n out p (unreadable_not_beyond h))
    block_step_sound k rest R (stands f) p u l h r j i =
        by_test (Says (RestIs d p u l) FaultIs) (is_else f || is_end f) (λ e. stopped d p u l i (rw h e))
        (λ e. says_then (StepIs d p) (RestIs d p u l) FaultIs (step f p) _ (S f p h e r) (λ q v m s.
        let w = u || v in
        let o = min l m in
        says_more (RestIs d q w o) (RestIs d p u l) FaultIs (rest q w o)
        (R q w o (step_reached at n s.0 r (omega arith)) (omega (arith, step_goes at n s.0)) (omega arith))
        (onward d p q u v l m s)))

    block_by_sound : (k : ℕ) → RestsAre os d k (block_by at n step k)
    unfolding block_by
    block_by_sound zero p u l r j i = stopped d p u l i (rw (out p (omega arith)) tt)
    block_by_sound (suc k) p u l r j i = block_step_sound k (block_by at n step k) (block_by_sound k) (at p) p u l refl r j i

    block_sound : (p : ℕ) → Reached at os p → Says (BlockIs d p) FaultIs (block_by at n step (n - p) p false n)
    block_sound p r =
        says_more (RestIs d p false n) (BlockIs d p) FaultIs (block_by at n step (n - p) p false n)
        (block_by_sound (n - p) p false n r (omega arith) (omega arith))
        (λ q v m b. ((b.0, b.1, sym (from_none at n b.0) ∙ b.2), b.3))

  module _
      (os : List Open) (d : ℕ) (L : length os + suc d ≡ deepest) (block : ℕ → Walk)
      (B : (o : Open) (p : ℕ) → Reached at (o ∷ os) p → Says (BlockIs d p) FaultIs (block p)) where
    -- a block behind a marker or an opening, and then what the reader goes on with
    inner :
        (o : Open) (p s : ℕ) (next : ℕ → Bool → ℕ → Walk) → Reached at (o ∷ os) (suc p) →
        ((q : ℕ) (u : Bool) (l : ℕ) → ParseIs d (suc p) q u l → Stops (at q) → Reached at (o ∷ os) q →
        Says (StepIs (suc d) s) FaultIs (next q u l)) → Says (StepIs (suc d) s) FaultIs (and_then (block (p + 1)) next)
    inner o p s next r k =
        says_then (BlockIs d (suc p)) (StepIs (suc d) s) FaultIs (block (p + 1)) next (rw add-one (B o (suc p) r))
        (λ q u l b. k q u l b.0 b.1 (block_reached at n b.0.0 r (omega arith)))

    -- where a step that holds blocks ends
    closed_sound :
        {f : Form} (o : Open) (q : ℕ) (u : Bool) (l : ℕ) → at (opening_of o) ≡ stands f → Stops (at q) → Reached at (o ∷ os) q →
        (at q ≡ stands ElseMarker → Misplaced at q) → (at q ≡ stands EndMarker → StepIs (suc d) (opening_of o) (suc q) u l) →
        Says (StepIs (suc d) (opening_of o)) FaultIs (closed (at q) (opening_of o) q u l)
    closed_sound o q u l h t r wrong end =
        by_stop (λ x. Says (StepIs (suc d) (opening_of o)) FaultIs (closed x (opening_of o) q u l)) (at q) t
        (λ e. misplaced_at (opening_of o) h (Misplaced.unclosed r e)) (λ e. misplaced_at q e (wrong e)) (λ e. rw add-one (end e))

    else_sound :
        (p q : ℕ) (u : Bool) (l : ℕ) →
        at p ≡ stands IfOpening → ParseIs d (suc p) q u l → Reached at (open_if p ∷ os) q → at q ≡ stands ElseMarker →
        Says (StepIs (suc d) p) FaultIs (else_by at n block p q u l)
    else_sound p q u l h b r k =
        inner (open_else p) q p _ (Reached.else r k) (λ z v m c t s.
        closed_sound (open_else p) z (u && v) (min l m) h t s (Misplaced.second_else s) (λ j.
        (if_else h b.0 k c.0 j, ap₂ ◌&&◌ b.1 c.1, ap₂ min b.2 c.2)))

    if_by_sound : (p : ℕ) → at p ≡ stands IfOpening → Reached at os p → Says (StepIs (suc d) p) FaultIs (if_by at n block p)
    if_by_sound p h r =
        inner (open_if p) p p _ (Reached.if r h (omega arith)) (λ q u l b t s.
        by_stop (λ x. Says (StepIs (suc d) p) FaultIs (if else_at x then else_by at n block p q u l else closed x p q false l)) (at q) t
        (λ e. misplaced_at p h (Misplaced.unclosed s e)) (else_sound p q u l h b s)
        (λ k. rw add-one (if_only h b.0 k, refl, b.2)))

    while_by_sound : (p : ℕ) → at p ≡ stands WhileOpening → Reached at os p → Says (StepIs (suc d) p) FaultIs (while_by at n block p)
    while_by_sound p h r =
        inner (open_while p) p p _ (Reached.while r h (omega arith)) (λ q u l b t s.
        closed_sound (open_while p) q false (if u then l else p) h t s (Misplaced.else_in_while s) (λ k.
        (loop h b.0 k, refl, rw (b.1, b.2))))

  module _ (os : List Open) (d : ℕ) (ifs whiles : ℕ → Walk)
      (I : (p : ℕ) → at p ≡ stands IfOpening → Reached at os p → Says (StepIs d p) FaultIs (ifs p))
      (W : (p : ℕ) → at p ≡ stands WhileOpening → Reached at os p → Says (StepIs d p) FaultIs (whiles p)) where
    step_by_sound : StepsAre os d (step_by at n ifs whiles)
    step_by_sound Plain p h e r = rw add-one (plain h, refl, refl)
    step_by_sound Pausing p h e r = rw add-one (pausing h, refl, refl)
    step_by_sound IfOpening p h e r = I p h r
    step_by_sound ElseMarker p h e r = clash refl e
    step_by_sound WhileOpening p h e r = W p h r
    step_by_sound EndMarker p h e r = clash refl e

  step_of_sound : (d : ℕ) (os : List Open) → length os + d ≡ deepest → StepsAre os d (step_of at n d)
  unfolding step_of
  step_of_sound zero os L =
      step_by_sound os zero _ _ (λ p h r. misplaced_at p h (Misplaced.too_deep_if r h (omega arith)))
      (λ p h r. misplaced_at p h (Misplaced.too_deep_while r h (omega arith)))
  step_of_sound (suc d) os L =
      let B : (o : Open) (p : ℕ) → Reached at (o ∷ os) p → Says (BlockIs d p) FaultIs (block_of at n d p)
      = λ o. block_sound (o ∷ os) d (omega arith) (step_of at n d) (step_of_sound d (o ∷ os) (omega arith)) in
      step_by_sound os (suc d) _ _ (if_by_sound os d L (block_of at n d) B) (while_by_sound os d L (block_of at n d) B)

  abbrev RoutineIs : ℕ → Bool → ℕ → Type 0
  RoutineIs q u l = (q ≡ n) × ParseIs deepest 0 n u l

  -- a routine has a step at each place before n: only so a marker stands where its own block stops before n
  abbrev Inside : Type 0
  Inside = (p : ℕ) → p < n → at p ≡ beyond → ⊥

  abbrev FaultInside : Fault → Type 0
  FaultInside f = Inside → FaultIs f

  alone : (q : ℕ) → Reached at [] q → Stops (at q) → q < n → FaultInside (Misnested q)
  alone q r t i inside =
      (by_stop (λ x. Misplaced at q) (at q) t (λ e. absurd (inside q i e)) (Misplaced.else_alone r) (Misplaced.end_alone r), i)

  routine_says : Says RoutineIs FaultInside (routine_of at n)
  unfolding routine_of
  routine_says =
      let own = block_sound [] deepest (omega arith) (step_of at n deepest) (step_of_sound deepest [] (omega arith)) 0 Reached.start in
      says_then (BlockIs deepest 0) RoutineIs FaultInside (block_of at n deepest 0) _
      (says_fault (BlockIs deepest 0) FaultIs FaultInside (block_of at n deepest 0) own (λ f x inside. x)) (λ q u l b.
      let r = block_reached at n b.0.0 Reached.start (omega arith) in
      by_test (Says RoutineIs FaultInside) (ltb q n) (λ e. alone q r b.1 (ltb-true q n e)) (λ e.
      let k : q ≡ n = omega (arith, ltb-false q n e, reached_within r) in (k, subst (λ x. ParseIs deepest 0 x u l) k b.0)))

  pub routine_sound :
      (q : ℕ) (u : Bool) (l : ℕ) → routine_of at n ≡ past q u l →
      (q ≡ n) × ((b : ParsedBlock at deepest 0 n) × (block_pauses at b ≡ u) × (lowest at n b ≡ l))
  routine_sound q u l e = subst (Says RoutineIs FaultInside) e routine_says

  module _ (inside : Inside) where
    pub misnested : (p : ℕ) → routine_of at n ≡ Err (Misnested p) → Misplaced at p × (p < n)
    misnested p e = subst (Says RoutineIs FaultInside) e routine_says inside

    -- the steps before it are read without a fault
    pub unreadable_reached :
        (p : ℕ) → routine_of at n ≡ Err (Unreadable p) → ((os : List Open) × Reached at os p × (at p ≡ unreadable)) × (p < n)
    unreadable_reached p e = subst (Says RoutineIs FaultInside) e routine_says inside

    pub unreadable_at : (p : ℕ) → routine_of at n ≡ Err (Unreadable p) → (at p ≡ unreadable) × (p < n)
    unreadable_at p e = let u = unreadable_reached p e in (u.0.2, u.1)
