-- How many of the first n flags are set: one more once a flag that was not set is, and so fewer than n before. By the sum of the others,
-- which stays.
use Prim.Native.Nat.{ℕ, ◌+◌, ◌<◌}
use mathlib.Core.Path.{◌≡◌}
use mathlib.Core.Bool.{Bool, true, false}
use mathlib.Core.List.{List}
use native.Mathlib.Omega.{arith}
use borrow.Author.Tests.{eqb-false}
use lib.Dec.{eqb}
use lib.ListN.{length, set}
use lib.Seq.{get_or-set_same, get_or-set_other}
use Rattle.std.specs.Prelude.{if◌then◌else◌}
use Rattle.numbers.specs.Counting.{sum_below, count_below}
use Rattle.numbers.proofs.Tests.{by_flag}
use Rattle.numbers.proofs.Below.{below_same, without, below_without}
use Rattle.numbers.proofs.Counting.{count_all}
use Rattle.unstarted.specs.Unstarted.{is_found}

abbrev flagged : List Bool → ℕ → ℕ
flagged flags r = if is_found flags r then 1 else 0

abbrev pub flags_set : List Bool → ℕ → ℕ
flags_set flags n = count_below (is_found flags) n

module _ (flags : List Bool) (r n : ℕ) (l : r < n) (there : r < length flags) (new : is_found flags r ≡ false) where
  abbrev next : List Bool
  next = set flags r true

  -- the others are as they were
  same_others : (i : ℕ) → without r (flagged next) i ≡ without r (flagged flags) i
  same_others i =
      by_flag (eqb i r) (λ e. rw e) (λ e. rw (e, get_or-set_other flags r i true false (eqb-false i r e)))

  pub one_more : flags_set next n ≡ flags_set flags n + 1
  one_more =
      let before : sum_below (without r (flagged flags)) n + 0 ≡ flags_set flags n = rw new at (below_without r (flagged flags) n l) in
      let behind : sum_below (without r (flagged next)) n + 1 ≡ flags_set next n =
      rw (get_or-set_same flags r true false there) at (below_without r (flagged next) n l) in
      omega (arith, below_same (without r (flagged next)) (without r (flagged flags)) n (λ i h. same_others i))

  pub fewer : flags_set flags n < n
  fewer = omega (arith, one_more, count_all (is_found next) n)
