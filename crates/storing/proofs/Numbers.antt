-- The bytes of a counter, as the machine writes them.
use Prim.Native.Nat.{ℕ, ◌/◌}
use mathlib.Core.Path.{◌≡◌, refl}
use native.Mathlib.Omega.{arith}
use lib.IntN.{ℤ, pos, negsuc}
use mir.Syntax.{w32}
use Rattle.std.specs.Int.{to_le_bytes, cast_unsigned}
use Rattle.numbers.specs.Bytes.{word_bytes, complement}

complement_lem : (v : ℤ) → cast_unsigned w32 v ≡ complement v
complement_lem (pos n) = refl
complement_lem (negsuc n) = omega arith

pub word_bytes_lem : (n : ℕ) → to_le_bytes w32 n ≡ word_bytes n
word_bytes_lem n = let last : n / 65536 / 256 ≡ n / 16777216 = omega arith in rw last refl

pub counter_bytes_lem : (v : ℤ) → to_le_bytes w32 (cast_unsigned w32 v) ≡ word_bytes (complement v)
counter_bytes_lem v = rw (complement_lem v) (word_bytes_lem (complement v))
