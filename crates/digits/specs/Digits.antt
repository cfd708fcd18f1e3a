-- The digits of a word, and the numbers that words of them stand for.
use Rattle.std.specs.Prelude.{ℕ, zero, suc, ◌+◌, ◌-◌, ◌*◌, Bool, ◌&&◌, List, Option, Some, None, option_and_then, eqb, ltb, leb, length, get_or, drop, if◌then◌else◌}
use Rattle.words.specs.Words.{first_of, rest_of}

abbrev pub minus : ℕ
minus = 45

-- the value of a hexadecimal digit (0 to 9 are bytes 48 to 57, a to f are 97 to 102); none of any other byte
abbrev pub digit_of : ℕ → Option ℕ
digit_of c =
    if leb 97 c then (if leb c 102 then Some (c - 97 + 10) else None)
    else if leb 48 c then (if leb c 57 then Some (c - 48) else None)
    else None

-- the largest number of 32 bits, and how far below 0 a signed one goes
abbrev pub largest : ℕ
largest = 4294967295

abbrev pub furthest : ℕ
furthest = 2147483648

-- a value with one decimal digit more
abbrev pub with_digit : ℕ → Option ℕ → Option ℕ
with_digit v (Some d) = if leb d 9 && leb (v * 10 + d) largest then Some (v * 10 + d) else None
with_digit v None = None

-- the number whose first digits are a value and whose others are n digits from place i on
unfoldable pub decimal_from : List ℕ → ℕ → ℕ → ℕ → Option ℕ
decimal_from word zero v i = Some v
decimal_from word (suc n) v i =
    option_and_then (λ w. decimal_from word n w (i + 1)) (with_digit v (digit_of (get_or word i 0)))

unfoldable pub decimal_of : List ℕ → Option ℕ
decimal_of word = if eqb (length word) 0 then None else decimal_from word (length word) 0 0

-- the two's complement of a number, and of one with a minus in front
abbrev pub above : Option ℕ → Option ℕ
above (Some v) = if ltb v furthest then Some v else None
above None = None

abbrev pub below : Option ℕ → Option ℕ
below (Some v) = if leb v furthest then Some (if eqb v 0 then 0 else largest - v + 1) else None
below None = None

unfoldable pub signed_of : List ℕ → Option ℕ
signed_of word = if eqb (get_or word 0 0) minus then below (decimal_of (drop 1 word)) else above (decimal_of word)

-- two numbers with a space between them; the second may be negative, where that is allowed
abbrev pub pair_of : Option ℕ → Option ℕ → Option (ℕ × ℕ)
pair_of (Some a) (Some b) = Some (a, b)
pair_of (Some a) None = None
pair_of None b = None

unfoldable pub pair_in : List ℕ → Bool → Option (ℕ × ℕ)
pair_in text negative =
    pair_of (decimal_of (first_of text)) (if negative then signed_of (rest_of text) else decimal_of (rest_of text))
