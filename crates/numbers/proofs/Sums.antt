-- The computed sum and what it cuts off are those that the documents' sentences give, and no other numbers are. By the two tests that the
-- computation makes, each read as the order that it tests; a number beyond an end lies as far beyond it as their difference says.
use Prim.Native.Nat.{ℕ, ◌≤◌}
use mathlib.Core.Path.{◌≡◌}
use native.Mathlib.Omega.{arith}
use lib.IntN.{ℤ, nat_abs, ◌+ℤ◌}
use lib.Signed.{lt_z}
use Rattle.std.proofs.lemmas.Int.{ints}
use Rattle.numbers.specs.declared.Sum.{Sum}
use Rattle.numbers.specs.Numbers.{lowest_counter, highest_counter, CounterInRange, sum_of}
use Rattle.numbers.specs.Sums.{AddsUp, within, above, below}
use Rattle.numbers.proofs.Tests.{by_test}

-- how far the ends of a counter lie from 0; one addition cuts off no more, where both numbers are in a counter's range
abbrev pub most_lost_by_one : ℕ
most_lost_by_one = nat_abs highest_counter

pub adds_up : (v n : ℤ) → AddsUp v n (sum_of v n).sum (sum_of v n).lost
adds_up v n =
    by_test (λ (s : Sum). AddsUp v n s.sum s.lost) (lt_z highest_counter (v +ℤ n))
    (λ high. above (grind (arith, ints)) (grind (arith, ints)))
    (λ low.
    by_test (λ (s : Sum). AddsUp v n s.sum s.lost) (lt_z (v +ℤ n) lowest_counter)
    (λ under. below (grind (arith, ints)) (grind (arith, ints)))
    (λ inside. within (grind (arith, ints), grind (arith, ints))))

pub adds_up_once : {v n z : ℤ} {k : ℕ} → AddsUp v n z k → (z ≡ (sum_of v n).sum) × (k ≡ (sum_of v n).lost)
adds_up_once {v} {n} (within (lo, hi)) = (grind (arith, ints), grind (arith, ints))
adds_up_once {v} {n} {k = k} (above hi e) = (grind (arith, ints), grind (arith, ints))
adds_up_once {v} {n} {k = k} (below lo e) = (grind (arith, ints), grind (arith, ints))

pub lost_by_one : (v n : ℤ) → CounterInRange v → CounterInRange n → (sum_of v n).lost ≤ most_lost_by_one
lost_by_one v n h k = grind (arith, ints)
