-- The answer names, in rising number, the routines to which no chain of starts leads: of the first n routines from r on those whose flag is
-- not set are listed, and no flag is set but of a routine to which a chain leads.
use Prim.Native.Nat.{ℕ, zero, suc, ◌+◌, ◌≤◌, ◌<◌}
use mathlib.Core.Path.{◌≡◌}
use mathlib.Core.Bool.{Bool, false}
use mathlib.Core.List.{List, ◌∷◌}
use mathlib.Core.Logic.{inl, inr}
use native.Mathlib.Omega.{arith}
use native.Mathlib.Decide.{ℕ_discrete}
use lib.ListN.{get_or}
use Rattle.numbers.specs.Counting.{Among}
use Rattle.numbers.proofs.Counting.{among_at}
use Rattle.numbers.proofs.Tests.{clash, by_test, not_true_false}
use Rattle.layout.specs.Layout.{routines_of}
use Rattle.book.specs.Accepted.{Accepted}
use Rattle.unstarted.specs.Unstarted.{is_found, found_in, not_found, no_flags}
use Rattle.unstarted.specs.Claims.{Rises, NamesUnstarted}
use Rattle.unstarted.proofs.Decides.{found_decides}

rises_front : (r : ℕ) (l : List ℕ) → ((q : ℕ) → Among q l → r < q) → Rises l → Rises (r ∷ l)
rises_front r l least rises i zero h k = absurd (omega arith)
rises_front r l least rises zero (suc j) h k = least (get_or l j 0) (among_at l j (omega arith))
rises_front r l least rises (suc i) (suc j) h k = rises i j (omega arith) (omega arith)

module _ (flags : List Bool) where
  -- q is one of the n routines from r on, and is not found
  abbrev Unfound : ℕ → ℕ → ℕ → Type 0
  Unfound n r q = (r ≤ q) × (q < r + n) × (is_found flags q ≡ false)

  listed_unfound : (n r q : ℕ) → Among q (not_found flags n r) → Unfound n r q
  unfolding not_found
  listed_unfound zero r q = λ h. absurd h
  listed_unfound (suc n) r q =
      let others : Among q (not_found flags n (r + 1)) → Unfound (suc n) r q =
      λ h. let (low, high, new) = listed_unfound n (r + 1) q h in (omega arith, omega arith, new) in
      by_test (λ l. Among q l → Unfound (suc n) r q) (is_found flags r) (λ e. others) (λ e h.
      elim h [
        | inl same ↦ (omega arith, omega arith, rw same e)
        | inr later ↦ others later
      ])

  unfound_listed : (n r q : ℕ) → Unfound n r q → Among q (not_found flags n r)
  unfolding not_found
  unfound_listed zero r q (low, high, new) = absurd (omega arith)
  unfound_listed (suc n) r q (low, high, new) =
      elim (ℕ_discrete q r) [
        | yes same ↦ rw (rw same at new) (inl same)
        | no other ↦
            let later = unfound_listed n (r + 1) q (omega arith, omega arith, new) in
            by_test (λ l. Among q l) (is_found flags r) (λ t. later) (λ t. inr later)
      ]

  rises : (n r : ℕ) → Rises (not_found flags n r)
  unfolding not_found
  rises zero r = λ i j h k. absurd (omega arith)
  rises (suc n) r =
      let others = not_found flags n (r + 1) in
      by_test Rises (is_found flags r) (λ t. rises n (r + 1)) (λ t.
      rises_front r others (λ q h. omega (arith, listed_unfound n (r + 1) q h)) (rises n (r + 1)))

pub names_unstarted : (book : List ℕ) → Accepted book → NamesUnstarted book
names_unstarted book accepted =
    let flags = (found_in book no_flags).flags in
    record {
      rising = rises flags (routines_of book) 0;
      named = λ r. (
        λ h.
            let (low, high, new) = listed_unfound flags (routines_of book) 0 r h in
            (omega arith, λ c. clash ((found_decides book accepted r).1 c) new),
        λ (l, none).
            unfound_listed flags (routines_of book) 0 r
            (omega arith, omega arith, not_true_false (is_found flags r) (λ h. none ((found_decides book accepted r).0 h))),
      );
    }
