-- The tries of ops 8 to 12 sorted: one that finds its thing goes on, and one that finds it missing halts the turn. By the tests that a try
-- makes: whether the thing is there, and whether the round is being closed. The positions at which a step may leave a routine are such as
-- fitting asks: with nothing begun at a place of the routine, or on a timed step with less left than its n.
use Prim.Native.Nat.{ℕ, ◌+◌, ◌-◌, ◌<◌, ◌≤◌}
use mathlib.Core.Path.{◌≡◌, refl, sym, ◌∙◌}
use mathlib.Core.Bool.{false, ◌&&◌, not, and-true}
use mathlib.Core.List.{List, [], ◌∷◌}
use native.Mathlib.Omega.{arith}
use native.Mathlib.Decide.{dec_lt}
use borrow.Author.Tests.{eqb-false}
use lib.Dec.{eqb}
use Rattle.numbers.proofs.Tests.{clash, by_test}
use Rattle.kinds.specs.declared.Counts.{Counts}
use Rattle.kinds.specs.Steps.{op_at, step_at, steps_in}
use Rattle.forms.specs.Timed.{Timed}
use Rattle.forms.proofs.Timed.{timed_count_lem}
use Rattle.round.specs.declared.Position.{Position}
use Rattle.round.specs.declared.Effect.{Effect}
use Rattle.round.specs.declared.Effect.TheVariants.{Nothing}
use Rattle.round.specs.State.{State, Thing, missing, is_there}
use Rattle.round.specs.Ticks.{fresh, begun_at, count_at, tries, when_missing, waits, waits_for}
use Rattle.round.specs.claims.Demand.{AsksFor}
use Rattle.round.proofs.Leads.{Leaves}
use Rattle.round.proofs.Acts.{Right, nothing, is_giving, Asks, Stands, silent}
use Rattle.round.proofs.Acts.{finds, misses, continues, Sorted, SortedTick, is_signal_or_mark}

pub some_left : (k : ℕ) → eqb k 0 ≡ false → 0 < k
some_left k h = elim (dec_lt 0 k) [ yes l ↦ l | no l ↦ absurd (eqb-false k 0 h (omega arith)) ]

module _ (counts : Counts) (steps : List ℕ) where
  pub fresh_stands : (p : ℕ) → p ≤ steps_in steps → Stands counts steps (fresh p)
  fresh_stands p h = record { inside = h; where_begun = λ b. clash b refl; elsewhere = λ b. refl }

  -- a timed step with n, at position x
  module _ (x : Position) (n : ℕ) (timed : Timed (step_at counts steps x.place) n) where
    count_within : Stands counts steps x → count_at x n ≤ n
    count_within h =
        by_test (λ k. k ≤ n) x.begun
        (λ b. let (m, other, below) = h.where_begun b in omega (arith, sym (timed_count_lem other) ∙ timed_count_lem timed))
        (λ b. omega arith)

    -- one less is left than the count, which is at most n
    pub begun_stands : 0 < count_at x n → Stands counts steps x → Stands counts steps (begun_at x.place (count_at x n - 1))
    begun_stands some h =
        record {
          inside = h.inside;
          where_begun = λ b. (n, timed, omega (arith, count_within h));
          elsewhere = λ b. clash refl b;
        }

-- routine r stands at position x
module _ (counts : Counts) (r : ℕ) (steps : List ℕ) (x : Position) (s : State) where
  -- the step there asks for thing t, and a routine that rests at y stands where fitting asks
  abbrev MayMiss : Thing → Position → Type 0
  MayMiss t y = Asks x (step_at counts steps x.place) t × (Stands counts steps x → Stands counts steps y)

  when_missing_sorted :
      (t : Thing) (y : Position) → MayMiss t y → is_there s t ≡ false →
      Sorted counts r steps x s (when_missing r steps x s y) (missing r x.place t ∷ [])
  when_missing_sorted t y (asks, stays) none =
      by_test (λ a. Sorted counts r steps x s a (missing r x.place t ∷ [])) s.eoi (λ h. (stays, misses asks none h))
      (λ h. (λ i. i, continues asks none h))

  -- the turn may go on behind the step, which is no signal or mark step
  module _ (on : Leaves counts steps x (x.place + 1)) (other : is_signal_or_mark (op_at steps x.place) ≡ false) where
    pub tries_sorted :
        (t : Thing) (e : Effect) (y : Position) → AsksFor (step_at counts steps x.place) t → Right counts s e → is_giving e ≡ false →
        (is_there s t ≡ false → MayMiss t y) → SortedTick counts r steps x s (tries r steps x s t e y)
    tries_sorted t e y asks right quiet may =
        by_test (SortedTick counts r steps x s) (is_there s t) (λ h. (on, right, finds quiet other asks h))
        (λ h. when_missing_sorted t y (may h) h)

    pub waits_sorted : (t : Thing) → Asks x (step_at counts steps x.place) t → SortedTick counts r steps x s (waits r steps x s t)
    waits_sorted t asks =
        tries_sorted t Nothing (fresh x.place) asks.0 nothing refl
        (λ h. (asks, λ stood. fresh_stands counts steps x.place stood.inside))

    -- with the count k: a thing may be missed while some of it is left
    pub waits_for_sorted :
        (t : Thing) (k : ℕ) → AsksFor (step_at counts steps x.place) t → (0 < k → MayMiss t (begun_at x.place (k - 1))) →
        SortedTick counts r steps x s (waits_for r steps x s t k)
    unfolding waits_for
    waits_for_sorted t k asks may =
        by_test (SortedTick counts r steps x s) (eqb k 0 && not (is_there s t)) (λ h. (on, nothing, silent refl other))
        (λ h. tries_sorted t Nothing (begun_at x.place (k - 1)) asks nothing refl (λ none. may (some_left k (rw (none, and-true) at h))))
