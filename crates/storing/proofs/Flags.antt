-- Flags as bits: how large a number of few bits is, and the bits of a byte of the set from one of them on.
use Prim.Native.Nat.{ℕ, suc, ◌+◌, ◌*◌, ◌-◌, ◌≤◌, ◌<◌}
use mathlib.Core.Path.{◌≡◌, refl, ap}
use mathlib.Core.Bool.{Bool, true, false}
use mathlib.Core.List.{List}
use native.Mathlib.Nat.{zero-add, add-zero, pow-le-pow_right}
use native.Mathlib.Omega.{arith}
use lib.Dec.{lit<}
use lib.ListN.{get_or}
use Rattle.std.specs.Prelude.{if◌then◌else◌}
use Rattle.std.specs.Int.{from_bool}
use Rattle.numbers.specs.Counting.{list_below}
use Rattle.numbers.proofs.Left.{more_left}
use Rattle.numbers.proofs.Lists.{below_length, values_same}
use Rattle.stored_games.specs.Bits.{from_bits}
use Rattle.stored_games.specs.Forms.{byte_bits}
use Rattle.stored_games.specs.Stored.{set_byte}
use Rattle.stored_games.proofs.Bits.{bits_small}

-- a flag as the machine counts it
pub bit_of_flag : (b : Bool) → from_bool b ≡ (if b then 1 else 0)
bit_of_flag true = refl
bit_of_flag false = refl

pub bit_small : (b : Bool) → (if b then 1 else 0) ≤ 1
bit_small true = omega arith
bit_small false = omega arith

module _ (flags : List Bool) (byte : ℕ) where
  -- bit i of the byte
  abbrev bit_of : ℕ → Bool
  bit_of i = get_or flags (byte * byte_bits + i) false

  -- the bits from `left` on, and the number that has them
  abbrev upper : ℕ → List Bool
  upper left = list_below (byte_bits - left) (λ i. bit_of (left + i))

  unfoldable pub upper_bits : ℕ → ℕ
  upper_bits left = from_bits (upper left)

  pub upper_none : 0 ≡ upper_bits byte_bits
  unfolding upper_bits from_bits list_below
  upper_none = refl

  pub upper_more : {left : ℕ} → left < byte_bits → (if bit_of left then 1 else 0) + 2 * upper_bits (left + 1) ≡ upper_bits left
  unfolding upper_bits from_bits list_below
  upper_more {left} h =
      let same : (i : ℕ) → bit_of (left + suc i) ≡ bit_of (left + 1 + i) = λ i. ap bit_of (omega arith) in
      rw (more_left h, values_same (byte_bits - (left + 1)) _ _ same, add-zero left)

  pub upper_all : upper_bits 0 ≡ set_byte flags byte
  unfolding upper_bits set_byte
  upper_all = ap from_bits (values_same byte_bits bit_of _ (λ i. ap bit_of (zero-add i)))

  pub upper_room : (left : ℕ) → 0 < left → upper_bits left < 128
  unfolding upper_bits
  upper_room left h =
      let few : byte_bits - left ≤ 7 = omega arith in
      let small = rw (below_length (byte_bits - left) (λ i. bit_of (left + i))) at (bits_small (upper left)) in
      omega (arith, small, pow-le-pow_right {n = 2} (lit< tt) few)
