-- The numbers of a book. Document 01: "All numbers are little-endian; 16 bits unless said."
use Rattle.std.specs.Prelude.{ℕ, ◌+◌, ◌*◌, ◌-◌, Bool, ◌&&◌, List, ltb, eqb, get_or, ℤ, pos, negsuc, nat_abs, ◌+ℤ◌, ◌-ℤ◌, ◌≤ℤ◌, if◌then◌else◌}
use Rattle.std.specs.Int.Signed.{le_z, lt_z}
use Rattle.numbers.specs.declared.Sum.{Sum}

-- how many numbers 8, 16 and 32 bits hold
abbrev pub byte_limit : ℕ
byte_limit = 256

abbrev pub half_limit : ℕ
half_limit = 65536

abbrev pub word_limit : ℕ
word_limit = 4294967296

abbrev pub half_of : ℕ → ℕ → ℕ
half_of low high = low + high * 256

-- the 16 bits at place i of a list of bytes; bytes past its end count as 0
abbrev pub half_at : List ℕ → ℕ → ℕ
half_at s i = half_of (get_or s i 0) (get_or s (i + 1) 0)

-- 32 bits: two halves, the low one first
abbrev pub word_of : ℕ → ℕ → ℕ → ℕ → ℕ
word_of a b c d = half_of a b + half_of c d * half_limit

-- "32 bits, two's complement"
abbrev pub signed : ℕ → ℤ
signed w = if ltb w 2147483648 then pos w else negsuc (4294967295 - w)

abbrev pub number_of : ℕ → ℕ → ℕ → ℕ → ℤ
number_of a b c d = signed (word_of a b c d)

-- "Every n lies in −1,000,000 to 1,000,000."
abbrev pub lowest : ℤ
lowest = negsuc 999999

abbrev pub highest : ℤ
highest = pos 1000000

-- "A counter starts at 0 and holds −1,000,000 to 1,000,000."
abbrev pub lowest_counter : ℤ
lowest_counter = negsuc 999999

abbrev pub highest_counter : ℤ
highest_counter = pos 1000000

-- a counter's content lies in that range
abbrev pub CounterInRange : ℤ → Type 0
CounterInRange v = (lowest_counter ≤ℤ v) × (v ≤ℤ highest_counter)

abbrev pub is_within : ℤ → ℤ → ℤ → Bool
is_within n low high = le_z low n && le_z n high

-- "An addition beyond an end gives that end." Document 02: it "tells, besides its sum, the distance between the true sum and the one
-- given".
abbrev pub sum_of : ℤ → ℤ → Sum
sum_of v n =
    let sum = v +ℤ n in
    if lt_z highest_counter sum then record { sum = highest_counter; lost = nat_abs (sum -ℤ highest_counter) }
    else if lt_z sum lowest_counter then record { sum = lowest_counter; lost = nat_abs (lowest_counter -ℤ sum) }
    else record { sum = sum; lost = 0 }

-- a counter's content v against n, by "relation (0 equal, 1 less, 2 greater)": 1 where it holds, and 0
abbrev pub relation_of : ℕ → ℤ → ℤ → ℕ
relation_of relation v n =
    if eqb relation 0 then (if le_z v n && le_z n v then 1 else 0)
    else if eqb relation 1 then (if lt_z v n then 1 else 0)
    else (if lt_z n v then 1 else 0)

-- a count of n: none where n is 0 or less
abbrev pub count_of : ℤ → ℕ
count_of (pos n) = n
count_of (negsuc n) = 0
