-- Flags as bits of a number, there and back: halving the number takes its lowest bit away.
use Prim.Native.Nat.{ℕ, zero, suc, ◌+◌, ◌*◌, ◌/◌, ◌%◌, ◌^◌, ◌<◌}
use mathlib.Core.Path.{◌≡◌, refl, ap, ◌∙◌}
use mathlib.Core.Bool.{Bool, true, false}
use mathlib.Core.List.{List, [], ◌∷◌}
use native.Mathlib.Omega.{arith}
use native.Mathlib.Nat.{pow-succ', div-div-eq-div-mul}
use borrow.Author.Tests.{eqb-true, eqb-false}
use lib.ListN.{length, get_or}
use Rattle.std.specs.Prelude.{if◌then◌else◌}
use Rattle.numbers.specs.Counting.{list_below}
use Rattle.numbers.proofs.Tests.{by_flag}
use Rattle.numbers.proofs.Lists.{values_same}
use Rattle.stored_games.specs.Bits.{has_bit, from_bits}

bit_later : (n i : ℕ) → has_bit n (suc i) ≡ has_bit (n / 2) i
bit_later n i = rw (pow-succ' 2 i, ← div-div-eq-div-mul n 2 (2 ^ i))

module _ (b : Bool) (m : ℕ) where
  abbrev number : ℕ
  number = (if b then 1 else 0) + 2 * m

first_bit : (b : Bool) (m : ℕ) → has_bit (number b m) 0 ≡ b
first_bit true m = let one : number true m / 1 % 2 ≡ 1 = omega arith in rw one
first_bit false m = let none : number false m / 1 % 2 ≡ 0 = omega arith in rw none

halved : (b : Bool) (m : ℕ) → number b m / 2 ≡ m
halved true m = omega arith
halved false m = omega arith

pub bit_back : (bits : List Bool) (i : ℕ) → has_bit (from_bits bits) i ≡ get_or bits i false
unfolding from_bits
bit_back [] zero = refl
bit_back [] (suc i) = bit_later 0 i ∙ bit_back [] i
bit_back (b ∷ bits) zero = first_bit b (from_bits bits)
bit_back (b ∷ bits) (suc i) = bit_later (number b (from_bits bits)) i ∙ rw (halved b (from_bits bits)) (bit_back bits i)

lowest_bit : (n : ℕ) → (if has_bit n 0 then 1 else 0) ≡ n % 2
lowest_bit n =
    by_flag (has_bit n 0) (λ e. rw e (omega (arith, eqb-true (n / 1 % 2) 1 e)))
    (λ e. rw e (omega (arith, eqb-false (n / 1 % 2) 1 e)))

pub bits_back : (k n : ℕ) → n < 2 ^ k → from_bits (list_below k (has_bit n)) ≡ n
unfolding from_bits list_below
bits_back zero n h = omega arith
bits_back (suc k) n h =
    let small : n / 2 < 2 ^ k = omega (arith, pow-succ' 2 k) in
    let rest : from_bits (list_below k (λ i. has_bit n (suc i))) ≡ n / 2 =
    ap from_bits (values_same k (has_bit (n / 2)) (λ i. has_bit n (suc i)) (bit_later n)) ∙ bits_back k (n / 2) small
    in
    rw (lowest_bit n, rest) (omega arith)

-- so many bits hold no greater number
pub bits_small : (bits : List Bool) → from_bits bits < 2 ^ length bits
unfolding from_bits
bits_small [] = omega arith
bits_small (true ∷ bits) = omega (arith, bits_small bits, pow-succ' 2 (length bits))
bits_small (false ∷ bits) = omega (arith, bits_small bits, pow-succ' 2 (length bits))
