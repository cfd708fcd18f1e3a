-- `numbers::sum_of` meets its contract. What the machine reads back of a sum of two numbers of 32 bits is the sum, since it fits 64, and
-- what is kept of it between the counter's ends fits 32; the two tests that `clamp` makes are the contract's.
use mathlib.Core.Path.{◌≡◌}
use native.Mathlib.Omega.{arith}
use lib.IntN.{ℤ, nat_abs, ◌+ℤ◌, ◌-ℤ◌}
use mir.Syntax.{Width, w32, w64}
use mir.Val.{to_z, of_z}
use Rattle.std.specs.Int.{int_max, int_min}
use Rattle.std.proofs.lemmas.Int.{ints}
use Rattle.numbers.specs.Numbers.{lowest_counter, highest_counter, sum_of}
use Rattle.numbers.proofs.sum_of.Goals as goal

-- what the machine reads back of a number
abbrev read : Width → ℤ → ℤ
read w z = to_z w (of_z w z)

kept_sum :
    (v n k : ℤ) → k ≡ int_max lowest_counter (int_min (v +ℤ n) highest_counter) →
    record { sum = k; lost = nat_abs (v +ℤ n -ℤ k) } ≡ sum_of v n
kept_sum v n k e = grind (arith, ints)

pub returns : goal.returns
returns c =
    let v = c.args.v in
    let n = c.args.n in
    let kept = c.clamp-kept.result in
    let sum : read w64 (read w64 c.from.result +ℤ read w64 c.from-2.result) ≡ v +ℤ n = omega (arith, ints) in
    let low : read w64 c.from-3.result ≡ lowest_counter = omega (arith, ints) in
    let high : read w64 c.from-4.result ≡ highest_counter = omega (arith, ints) in
    let narrow : read w32 (read w64 kept) ≡ kept = omega (arith, ints) in
    let lost : c.abs_diff.result ≡ nat_abs (v +ℤ n -ℤ kept) = omega (arith, ints) in
    let total = kept_sum v n kept (rw (sum, low, high) at c.clamp-kept.ensures.value) in
    cc
