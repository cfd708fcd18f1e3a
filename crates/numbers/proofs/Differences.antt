-- The difference of two numbers of 32 bits as a natural number: 2^63 where they are equal, below it where the first is less, and above it
-- where the first is greater. That is one law, `at_most`; less, equal and greater are then read off the difference as quotients.
use Prim.Native.Nat.{ℕ, suc, ◌+◌, ◌-◌, ◌/◌, ◌<◌}
use mathlib.Core.Path.{◌≡◌, refl}
use mathlib.Core.Bool.{◌&&◌}
use native.Mathlib.Omega.{arith}
use Rattle.std.proofs.lemmas.Int.{ints}
use lib.Dec.{leb}
use lib.IntN.{ℤ, pos, negsuc, ◌+ℤ◌}
use lib.Signed.{lt_z, le_z}
use mir.Syntax.{w32}
use mir.Val.{SFits}
use Rattle.std.specs.Prelude.{if◌then◌else◌}
use Rattle.numbers.specs.Numbers.{word_limit}

abbrev pub raise : ℕ
raise = 2147483648

-- a number of 32 bits, raised so that the lowest is 0
abbrev pub raised_of : ℤ → ℕ
raised_of (pos n) = n + raise
raised_of (negsuc n) = raise - suc n

pub raised_is : (z : ℤ) → SFits w32 z → z +ℤ pos raise ≡ pos (raised_of z)
raised_is (pos n) f = refl
raised_is (negsuc n) f = omega (arith, ints)

pub raised_to : {z : ℤ} {r : ℕ} → SFits w32 z → pos r ≡ z +ℤ pos raise → r ≡ raised_of z
raised_to {z} f e = omega (arith, ints, raised_is z f)

pub raised_small : (z : ℤ) → SFits w32 z → raised_of z < word_limit
raised_small (pos n) f = omega arith
raised_small (negsuc n) f = omega arith

abbrev pub highest_bit : ℕ
highest_bit = 9223372036854775808

abbrev pub difference : ℤ → ℤ → ℕ
difference v n = raised_of v + highest_bit - raised_of n

-- what is read off it: 1 where the first is not less, and 1 where it is greater
abbrev pub not_less : ℤ → ℤ → ℕ
not_less v n = difference v n / highest_bit

abbrev pub above : ℤ → ℤ → ℕ
above v n = (difference v n - 1) / highest_bit

at_most : (v n : ℤ) → SFits w32 v → SFits w32 n → le_z v n ≡ leb (difference v n) highest_bit
at_most v n f g =
    let raised-v = raised_is v f in
    let raised-n = raised_is n g in
    let small = raised_small n g in
    grind (arith, ints)

module _ (v n : ℤ) (f : SFits w32 v) (g : SFits w32 n) where
  pub less : 1 - not_less v n ≡ (if lt_z v n then 1 else 0)
  less = let small = raised_small v f in let small' = raised_small n g in let turned = at_most n v g f in grind (arith, ints)

  pub greater : above v n ≡ (if lt_z n v then 1 else 0)
  greater = let small = raised_small v f in let straight = at_most v n f g in grind (arith, ints)

  pub equal : not_less v n - above v n ≡ (if le_z v n && le_z n v then 1 else 0)
  equal =
      let small = raised_small v f in
      let small' = raised_small n g in
      let straight = at_most v n f g in
      let turned = at_most n v g f in
      grind (arith, ints)
