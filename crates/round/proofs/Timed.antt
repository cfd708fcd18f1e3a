-- Document 01: "What timed steps share is shown for all three together." A try of rest n, wait n or join n comes to one of three acts: past
-- the step, at rest on it with one less left, or to be continued there. By the tests that the step makes, as variables: whether its thing
-- is there, whether none is left, whether it pauses.
use Prim.Native.Nat.{ℕ, ◌+◌, ◌-◌, ◌<◌}
use mathlib.Core.Path.{◌≡◌, refl, ap, ◌∙◌}
use mathlib.Core.Bool.{Bool, true, false, ◌&&◌, ◌||◌, not, or-true}
use mathlib.Core.List.{List, [], ◌∷◌}
use mathlib.Core.Logic.{◌⊎◌, inl, inr}
use native.Mathlib.Omega.{arith}
use borrow.Author.Tests.{eq-eqb, ne_eqb}
use lib.Dec.{eqb}
use Rattle.std.specs.Prelude.{if◌then◌else◌, Option}
use Rattle.kinds.specs.declared.Kind.{Kind}
use Rattle.forms.specs.Timed.{Timed, rest_for, wait_for, join_for}
use Rattle.game.specs.Game.{rested}
use Rattle.round.specs.declared.Ending.{Ending}
use Rattle.round.specs.declared.Ending.TheVariants.{Rested, Missed, Continued}
use Rattle.round.specs.declared.Position.{Position}
use Rattle.round.specs.declared.Effect.TheVariants.{Nothing}
use Rattle.round.specs.declared.Act.{Act}
use Rattle.round.specs.declared.Act.TheVariants.{Goes, Halts}
use Rattle.round.specs.State.{State, Thing, signal, end, Event, missing, past, is_there}
use Rattle.round.specs.Ticks.{tick_with, begun_at, count_at, waits_for, tick_of, tick_at}
use Rattle.round.specs.Rounds.{stage_after}
use Rattle.round.specs.claims.Timed.{has_thing, is_pausing, TimedTick}

module _ (x : Position) (k : ℕ) where
  -- what the three come to
  abbrev shape : Bool → Bool → Ending → Act
  shape is_past pausing how =
      if is_past then Goes (x.place + 1) Nothing else if pausing then Halts how (begun_at x.place (k - 1)) else Halts Continued x

  -- rules 25 to 29 have that shape
  waiting : (there none closing : Bool) (found missed : List Event) →
      (if none && not there
      then tick_with (Goes (x.place + 1) Nothing) []
      else if there
      then tick_with (Goes (x.place + 1) Nothing) found
      else tick_with (if closing then Halts Missed (begun_at x.place (k - 1)) else Halts Continued x) missed).act
      ≡ shape (there || none) closing Missed
  waiting true true closing found missed = refl
  waiting true false closing found missed = refl
  waiting false true closing found missed = refl
  waiting false false closing found missed = refl

module _ (r : ℕ) (steps : List ℕ) (x : Position) (s : State) where
  by_shape :
      {st : Option Kind} {n : ℕ} (timed : Timed st n) (how : Ending) → stage_after how ≡ rested →
      (tick_at r steps x s st).act ≡ shape x (count_at x n) (has_thing s timed || eqb (count_at x n) 0) (is_pausing s timed) how →
      TimedTick r steps x s timed
  by_shape {n = n} timed how stage e =
      record {
        goes_on = λ h. e ∙ ap (λ p. shape x (count_at x n) p (is_pausing s timed) how) (over h);
        pauses = λ some none now. (how, e ∙ rw (none, left some, now), stage);
        stays = λ some none now. e ∙ rw (none, left some, now);
      }
    where
      over : (count_at x n ≡ 0) ⊎ (has_thing s timed ≡ true) → (has_thing s timed || eqb (count_at x n) 0) ≡ true
      over (inl z) = rw (eq-eqb (count_at x n) 0 z, or-true)
      over (inr h) = rw h

      left : 0 < count_at x n → eqb (count_at x n) 0 ≡ false
      left some = ne_eqb (count_at x n) 0 (λ z. omega arith)

  waits_shape : (t : Thing) (k : ℕ) → (waits_for r steps x s t k).act ≡ shape x k (is_there s t || eqb k 0) s.eoi Missed
  unfolding waits_for
  waits_shape t k = waiting x k (is_there s t) (eqb k 0) s.eoi (past r x.place t ∷ []) (missing r x.place t ∷ [])

  pub timed_tick : {st : Option Kind} {n : ℕ} (timed : Timed st n) → TimedTick r steps x s timed
  unfolding tick_of
  timed_tick rest_for = by_shape rest_for Rested refl refl
  timed_tick (wait_for {e} {n}) = by_shape wait_for Missed refl (waits_shape (signal e) (count_at x n))
  timed_tick (join_for {r = t} {n}) = by_shape join_for Missed refl (waits_shape (end t) (count_at x n))
