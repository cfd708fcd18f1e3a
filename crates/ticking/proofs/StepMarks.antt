-- A step comes to the same whatever number its routine has, and the marks of its events are those of its effect.
-- Kind by kind; of a try and of a timed step also by whether the thing is there, a count is left and the round is being closed.
use Prim.Native.Nat.{ℕ, ◌+◌, ◌-◌}
use mathlib.Core.Path.{◌≡◌, refl, sym}
use mathlib.Core.Bool.{Bool, true, false, ◌&&◌, not}
use mathlib.Core.List.{List, [], ◌∷◌}
use borrow.Author.Tests.{ltb-true}
use lib.Dec.{eqb, ltb}
use lib.IntN.{ℤ}
use Rattle.std.specs.Prelude.{if◌then◌else◌, Option, Some, None}
use Rattle.numbers.proofs.Tests.{by_test, by_flag}
use Rattle.kinds.specs.declared.Kind.{Kind}
use Rattle.kinds.specs.declared.Kind.TheVariants as kind
use Rattle.kinds.specs.declared.Counts.{Counts}
use Rattle.kinds.specs.Steps.{kind_at, step_at, steps_in}
use Rattle.round.specs.declared.Position.{Position}
use Rattle.round.specs.declared.Effect.{Effect}
use Rattle.round.specs.declared.Effect.TheVariants.{Nothing, Put}
use Rattle.round.specs.declared.Act.{Act}
use Rattle.round.specs.declared.Act.TheVariants.{Goes, Halts}
use Rattle.round.specs.State.{State, Thing, signal, end, number, missing, number_at, is_there}
use Rattle.round.specs.Ticks.{Tick, tick_with, fresh, begun_at, count_at, when_missing, tries, waits_for, tick_of, tick_at, tick}
use Rattle.round.specs.Answers.{marks_in}
use Rattle.ticking.specs.Acts.{Decodes, act_at, mark_by}

-- the marks that routine r leaves by a step that comes to this
abbrev pub marks_by : ℕ → Act → List (ℕ × ℤ)
marks_by r (Goes p e) = mark_by r e
marks_by r (Halts how y) = []

-- a tick of routine r comes to the same as another, and its events have the marks of what it comes to
record Alike (r : ℕ) (t u : Tick) : Type 0 where
  same : t.act ≡ u.act
  marks : marks_in t.events ≡ marks_by r t.act

choose : {r : ℕ} (b : Bool) {t u v w : Tick} → Alike r t v → Alike r u w → Alike r (if b then t else u) (if b then v else w)
choose true p q = p
choose false p q = q

module _ (r : ℕ) (steps : List ℕ) (x : Position) (s : State) where
  when_missing_alike :
      (y : Position) (t : Thing) →
      Alike r (tick_with (when_missing r steps x s y) (missing r x.place t ∷ []))
      (tick_with (when_missing 0 steps x s y) (missing 0 x.place t ∷ []))
  unfolding marks_in
  when_missing_alike y t = record { same = refl; marks = by_test (λ (a : Act). [] ≡ marks_by r a) s.eoi (λ h. refl) (λ h. refl) }

  tries_alike :
      (t : Thing) (e : Effect) (y : Position) → mark_by r e ≡ [] → Alike r (tries r steps x s t e y) (tries 0 steps x s t e y)
  unfolding marks_in
  tries_alike t e y none = choose (is_there s t) (record { same = refl; marks = sym none }) (when_missing_alike y t)

  waits_for_alike : (t : Thing) (k : ℕ) → Alike r (waits_for r steps x s t k) (waits_for 0 steps x s t k)
  unfolding waits_for marks_in
  waits_for_alike t k =
      choose (eqb k 0 && not (is_there s t)) (record { same = refl; marks = refl }) (tries_alike t Nothing (begun_at x.place (k - 1)) refl)

  kind_alike : (k : Kind) → Alike r (tick_of r steps x s k) (tick_of 0 steps x s k)
  unfolding tick_of marks_in
  kind_alike (kind.Mark n) = record { same = refl; marks = refl }
  kind_alike (kind.Set c n) = record { same = refl; marks = refl }
  kind_alike (kind.Add c n) = record { same = refl; marks = refl }
  kind_alike (kind.Take c d) = record { same = refl; marks = refl }
  kind_alike (kind.Signal e) = record { same = refl; marks = refl }
  kind_alike (kind.SignalNumber e c) = record { same = refl; marks = refl }
  kind_alike kind.Rest = record { same = refl; marks = refl }
  kind_alike (kind.RestFor n) =
      record { same = refl; marks = by_test (λ (a : Act). [] ≡ marks_by r a) (eqb (count_at x n) 0) (λ h. refl) (λ h. refl) }
  kind_alike (kind.Wait e) = tries_alike (signal e) Nothing (fresh x.place) refl
  kind_alike (kind.WaitFor e n) = waits_for_alike (signal e) (count_at x n)
  kind_alike (kind.Join t) = tries_alike (end t) Nothing (fresh x.place) refl
  kind_alike (kind.JoinFor t n) = waits_for_alike (end t) (count_at x n)
  kind_alike (kind.Read e c k) = tries_alike (number e k) (Put c (number_at s e k)) (fresh (x.place + 1)) refl
  kind_alike (kind.Start t) = record { same = refl; marks = refl }
  kind_alike (kind.Stop t) = record { same = refl; marks = refl }
  kind_alike (kind.Suspend t) = record { same = refl; marks = refl }
  kind_alike (kind.Resume t) = record { same = refl; marks = refl }
  kind_alike (kind.If c relation n) = record { same = refl; marks = refl }
  kind_alike kind.Else = record { same = refl; marks = refl }
  kind_alike (kind.While c relation n) = record { same = refl; marks = refl }
  kind_alike kind.End = record { same = refl; marks = refl }

  step_marks : (k : Option Kind) → marks_in (tick_at r steps x s k).events ≡ marks_by r (tick_at r steps x s k).act
  unfolding marks_in
  step_marks (Some k) = (kind_alike k).marks
  step_marks None = refl

  module _ (counts : Counts) where
    -- the marks of a step's events are those of what it comes to
    pub marks_in_events : marks_in (tick counts r steps x s).events ≡ marks_by r (tick counts r steps x s).act
    unfolding tick
    marks_in_events = step_marks (step_at counts steps x.place)

    -- no step stands behind the last one
    behind : ltb x.place (steps_in steps) ≡ false → step_at counts steps x.place ≡ None
    unfolding step_at
    behind f = rw f

    -- a step under the book's counts comes to what the step at its place comes to without them
    pub act_same : Decodes counts steps → (tick counts r steps x s).act ≡ act_at steps x s
    unfolding tick act_at
    act_same h =
        by_flag (ltb x.place (steps_in steps))
        (λ t. rw (h x.place (ltb-true _ _ t), t) (kind_alike (kind_at steps x.place)).same)
        (λ f. rw (behind f, f))
