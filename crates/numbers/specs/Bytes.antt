-- Numbers as bytes. Document 01: "All numbers are little-endian; 16 bits unless said."
use Rattle.std.specs.Prelude.{ℕ, ◌+◌, ◌*◌, ◌-◌, ◌/◌, ◌%◌, List, [], ◌∷◌, ◌++◌, ℤ, pos, negsuc}
use Rattle.numbers.specs.Numbers.{byte_limit, half_limit, word_limit, half_at}

-- the two bytes of 16 bits, and the four of 32
abbrev pub half_bytes : ℕ → List ℕ
half_bytes n = n % byte_limit ∷ n / byte_limit % byte_limit ∷ []

abbrev pub word_bytes : ℕ → List ℕ
word_bytes n = half_bytes n ++ half_bytes (n / half_limit)

-- the 32 bits at place i of a list of bytes; bytes past its end count as 0
abbrev pub word_at : List ℕ → ℕ → ℕ
word_at s i = half_at s i + half_at s (i + 2) * half_limit

-- "32 bits, two's complement": those of a number, which `signed` reads
abbrev pub complement : ℤ → ℕ
complement (pos n) = n
complement (negsuc n) = word_limit - (n + 1)
