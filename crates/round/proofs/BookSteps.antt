-- The steps of distinct routines of an accepted book that are in a set are at most those of the whole book: the routines' parts follow each
-- other without gaps, so the counts of the first routines are the count of the book's first steps.
use Prim.Native.Nat.{ℕ, zero, suc, ◌+◌, ◌<◌, ◌≤◌}
use mathlib.Core.Path.{◌≡◌, refl, ◌∙◌, ap}
use mathlib.Core.Bool.{Bool}
use mathlib.Core.List.{List}
use native.Mathlib.Nat.{add-zero}
use native.Mathlib.Omega.{arith}
use Rattle.numbers.specs.Counting.{All, count_below, sum_below}
use Rattle.kinds.specs.Steps.{op_at}
use Rattle.layout.specs.Layout.{most_steps, routines_of, steps_of}
use Rattle.directory.specs.Directory.{first_step, step_count, steps_before, routine_part, routine_steps}
use Rattle.book.specs.Book.{steps_part}
use Rattle.book.specs.Accepted.{Accepted}
use Rattle.book.proofs.Parts.{same_taken, same_routine}
use Rattle.numbers.proofs.Below.{below_same, below_cut}
use Rattle.numbers.proofs.Counting.{count_all}
use Rattle.round.specs.claims.Demand.{count_steps}
use Rattle.round.proofs.Among.{Distinct}
use Rattle.round.proofs.Counting.{one}
use Rattle.round.proofs.Sums.{over_le, over_below}

-- a step of a routine is the step at its place in the book
routine_op :
    (book : List ℕ) (r p : ℕ) → p < step_count book r → op_at (routine_steps book r) p ≡ op_at (steps_part book) (first_step book r + p)
routine_op book r p l =
    let part = (same_taken (step_count book r) (routine_part book r) p l).bytes 0 (omega arith) in
    let whole = (same_routine book r p).bytes 0 (omega arith) in
    simp add-zero at (part ∙ whole)

module _ (book : List ℕ) (a : Accepted book) where
  module _ (test : ℕ → Bool) where
    abbrev in_routine : ℕ → ℕ → Bool
    in_routine r p = test (op_at (routine_steps book r) p)

    abbrev in_book : ℕ → Bool
    in_book i = test (op_at (steps_part book) i)

    own_count :
        (r : ℕ) → r < routines_of book →
        count_below (in_routine r) (step_count book r) ≡ count_below (λ p. in_book (steps_before book r + p)) (step_count book r)
    own_count r l =
        below_same _ _ (step_count book r) (λ p h. ap (λ op. one (test op)) (rw (a.directed.entries r l) at (routine_op book r p h)))

    -- the first n routines are the first steps of the book
    first_routines :
        (n : ℕ) → n ≤ routines_of book →
        sum_below (λ r. count_below (in_routine r) (step_count book r)) n ≡ count_below in_book (steps_before book n)
    unfolding sum_below steps_before
    first_routines zero l = refl
    first_routines (suc r) l =
        let before = first_routines r (omega arith) in
        omega (arith, own_count r l, below_cut (λ i. one (in_book i)) (steps_before book r) (step_count book r))

    pub steps_in_book :
        (L : List ℕ) → Distinct L → All (λ r. r < routines_of book) L →
        count_steps book (λ r p. test (op_at (routine_steps book r) p)) L ≤ count_below (λ i. test (op_at (steps_part book) i)) (steps_of book)
    steps_in_book L d all =
        let whole = over_below (λ r. count_below (in_routine r) (step_count book r)) (routines_of book) L d all in
        rw (← a.directed.total) (omega (arith, first_routines (routines_of book) (omega arith)))

  module _ (set : ℕ → ℕ → Bool) (L : List ℕ) (distinct : Distinct L) (below : All (λ r. r < routines_of book) L) where
    pub all_in_book : count_steps book set L ≤ steps_of book
    unfolding steps_before
    all_in_book =
        omega (
          arith,
          over_le _ (λ r. step_count book r) L (λ r h. count_all (set r) (step_count book r)),
          over_below (λ r. step_count book r) (routines_of book) L distinct below,
          a.directed.total,
        )

    pub few_steps_lem : count_steps book set L ≤ most_steps
    few_steps_lem = omega (arith, all_in_book, a.laid.counts.few_steps)
