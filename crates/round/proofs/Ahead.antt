-- How many places of a set a turn may still pass. The places that go on and rank no higher than the turn's own are counted: the turn's
-- rank falls with every step, so the place that it leaves is counted no more, and a place where a turn pauses is never counted.
use Prim.Native.Nat.{ℕ, ◌+◌, ◌<◌, ◌≤◌}
use mathlib.Core.Path.{◌≡◌}
use mathlib.Core.Bool.{Bool, true, false, ◌&&◌, not, and-false}
use mathlib.Core.List.{List}
use native.Mathlib.Omega.{arith}
use lib.Dec.{leb}
use borrow.Author.Tests.{leb-true, le-leb, lt-leb}
use Rattle.numbers.specs.Counting.{count_below}
use Rattle.numbers.proofs.Below.{below_le}
use Rattle.numbers.proofs.Tests.{and_both, both_true}
use Rattle.kinds.specs.declared.Counts.{Counts}
use Rattle.kinds.specs.Steps.{steps_in}
use Rattle.forms.specs.declared.Form.TheVariants.{Pausing}
use Rattle.blocks.specs.Blocks.{stands, deepest}
use Rattle.blocks.specs.Parse.{ParsedBlock, WhilesPause}
use Rattle.blocks.proofs.Views.{standing_below}
use Rattle.round.proofs.Counting.{one, one_le, count_drops}
use Rattle.round.proofs.Leads.{is_halt, form_at, Leads}
use Rattle.round.proofs.Falls.{rank, falls, going_below}

module _ (counts : Counts) (steps : List ℕ) where
  module _ (b : ParsedBlock (form_at counts steps) deepest 0 (steps_in steps)) (w : WhilesPause (form_at counts steps) b) where
    abbrev rank_of : ℕ → ℕ
    rank_of = rank counts steps b w

    -- place z goes on and ranks no higher than place p
    abbrev is_ahead : ℕ → ℕ → Bool
    is_ahead p z = not (is_halt (form_at counts steps z)) && leb (rank_of z) (rank_of p)

    pub ahead : (ℕ → Bool) → ℕ → ℕ
    ahead P p = count_below (λ z. P z && is_ahead p z) (steps_in steps)

    -- the places that are ahead of a set are of the set
    of_set : (P : ℕ → Bool) (p z : ℕ) → (P z && is_ahead p z) ≡ true → P z ≡ true
    of_set P p z h = (and_both (P z) (is_ahead p z) h).0

    pub ahead_all : (P : ℕ → Bool) (p : ℕ) → ahead P p ≤ count_below P (steps_in steps)
    unfolding ahead
    ahead_all P p = below_le _ _ (λ z. one_le (P z && is_ahead p z) (P z) (of_set P p z)) (steps_in steps)

    pub ahead_falls : (P : ℕ → Bool) (p q : ℕ) → Leads counts steps p q → ahead P q + one (P p) ≤ ahead P p
    unfolding ahead
    ahead_falls P p q e =
        let less : rank_of q < rank_of p = falls counts steps b w p q e in
        let here : is_ahead p p ≡ true = rw (e.goes_on, le-leb (rank_of p) (rank_of p) (omega arith)) in
        let gone : is_ahead q p ≡ false = rw (e.goes_on, lt-leb (rank_of p) (rank_of q) less) in
        count_drops (λ z. P z && is_ahead q z) (λ z. P z && is_ahead p z)
        (λ z h.
        let (of, there) = and_both (P z) (is_ahead q z) h in
        let (on, low) = and_both (not (is_halt (form_at counts steps z))) (leb (rank_of z) (rank_of q)) there in
        both_true of (both_true on (le-leb (rank_of z) (rank_of p) (omega (arith, leb-true (rank_of z) (rank_of q) low)))))
        (steps_in steps) p (going_below counts steps p e.goes_on) (rw (gone, and-false)) (P p) (λ h. both_true h here)

    pub ahead_over :
        (P : ℕ → Bool) (p q : ℕ) → form_at counts steps p ≡ stands Pausing →
        ahead P q + one (P p) ≤ count_below P (steps_in steps)
    unfolding ahead
    ahead_over P p q h =
        count_drops (λ z. P z && is_ahead q z) P (of_set P q) (steps_in steps) p (standing_below counts steps (steps_in steps) p h)
        (rw (h, and-false)) (P p) (λ there. there)
