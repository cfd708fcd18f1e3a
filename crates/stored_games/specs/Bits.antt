-- Flags as bits of a number, and back.
use Rattle.std.specs.Prelude.{ℕ, zero, suc, ◌+◌, ◌*◌, ◌/◌, ◌%◌, ◌^◌, Bool, List, [], ◌∷◌, ◌++◌, eqb, if◌then◌else◌}

-- bit i of a number, from the lowest on
abbrev pub has_bit : ℕ → ℕ → Bool
has_bit n i = eqb (n / 2 ^ i % 2) 1

-- the number with these bits, "lowest bit first"
unfoldable pub from_bits : List Bool → ℕ
from_bits [] = 0
from_bits (b ∷ bits) = (if b then 1 else 0) + 2 * from_bits bits

-- the lists that a function gives of the first n numbers, one behind another
unfoldable pub joined_below : ℕ → (ℕ → List ℕ) → List ℕ
joined_below zero f = []
joined_below (suc n) f = joined_below n f ++ f n
