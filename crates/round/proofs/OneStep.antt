-- Of the set with one step alone, different routines together have at most that one: one of them at most is the step's routine, and one of
-- its places is the step's. By a sum in which that routine alone counts, and by induction on the places counted of it.
use Prim.Native.Nat.{ℕ, zero, suc, ◌≤◌}
use mathlib.Core.Path.{◌≡◌, refl}
use mathlib.Core.List.{List}
use mathlib.Core.Logic.{◌≢◌}
use native.Mathlib.Decide.{ℕ_discrete}
use native.Mathlib.Omega.{arith}
use borrow.Author.Tests.{eq-eqb, ne_eqb}
use lib.Dec.{eqb}
use Rattle.numbers.specs.Counting.{count_below, sum_below}
use Rattle.directory.specs.Directory.{step_count}
use Rattle.numbers.proofs.Below.{below_same}
use Rattle.numbers.proofs.Counting.{count_none}
use Rattle.round.specs.claims.Demand.{count_steps}
use Rattle.round.specs.claims.Completed.{the_step}
use Rattle.round.proofs.Among.{Distinct}
use Rattle.round.proofs.Counting.{one}
use Rattle.round.proofs.Sums.{alone_le}

-- one place at most is p
count_one : (p n : ℕ) → count_below (λ i. eqb i p) n ≤ 1
unfolding sum_below
count_one p zero = omega arith
count_one p (suc n) =
    elim (ℕ_discrete n p) [
      | yes e ↦
          let none = count_none (λ i. eqb i p) n (λ i l. ne_eqb i p (λ d. absurd (omega arith))) in
          rw (eq-eqb n p e) (omega (arith, none))
      | no d ↦ rw (ne_eqb n p d) (omega (arith, count_one p n))
    ]

module _ (r p : ℕ) where
  not_own : (q : ℕ) → q ≢ r → (n : ℕ) → count_below (the_step r p q) n ≡ 0
  not_own q d n = count_none (the_step r p q) n (λ o l. rw (ne_eqb q r d))

  pub one_of_distinct : (book L : List ℕ) → Distinct L → count_steps book (the_step r p) L ≤ 1
  one_of_distinct book L d =
      let all = alone_le (λ q. count_below (the_step r p q) (step_count book q)) r (λ q n. not_own q n (step_count book q)) L d in
      let own = below_same (λ o. one (the_step r p r o)) (λ o. one (eqb o p)) (step_count book r) (λ o l. rw (eq-eqb r r refl)) in
      omega (arith, count_one p (step_count book r))
