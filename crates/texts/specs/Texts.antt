-- Texts that are put one behind another into a lent buffer, and what numbers are as text.
use Rattle.std.specs.Prelude.{ℕ, zero, suc, ◌+◌, ◌/◌, ◌%◌, List, [], ◌∷◌, ◌++◌, ltb, ℤ, pos, negsuc, length, set, if◌then◌else◌}
use Prim.Native.Char.{code}
use Prim.Native.String.{String, [] as no_more, ◌∷◌ as ◌before◌}
use Rattle.io.specs.Digits.{hex_digit_ascii}
use Rattle.digits.specs.Digits.{minus}

-- the bytes of a text in quotes
unfoldable pub ascii : String → List ℕ
ascii no_more = []
ascii (c before cs) = code c ∷ ascii cs

-- a buffer, of which so many bytes are used
pub record Filled : Type 0 where
  pub bytes : List ℕ
  pub used : ℕ

abbrev pub filled : List ℕ → ℕ → Filled
filled bytes used = record { bytes = bytes; used = used }

-- a buffer with a text put behind what is used already; where there is no room for the next byte, one more than there is room for counts
-- as used, and the rest of the text is left out
unfoldable pub with_text : Filled → List ℕ → Filled
with_text f [] = f
with_text f (c ∷ text) =
    let room = length f.bytes in
    if ltb f.used room
    then with_text (filled (set f.bytes f.used c) (f.used + 1)) text
    else filled f.bytes (room + 1)

-- a number in decimal, of k digits at most, those in front left out, and one of 64 bits, which has at most 20
unfoldable pub decimal_within : ℕ → ℕ → List ℕ
decimal_within zero n = []
decimal_within (suc k) n = if ltb n 10 then hex_digit_ascii n ∷ [] else decimal_within k (n / 10) ++ (hex_digit_ascii (n % 10) ∷ [])

abbrev pub decimal_text : ℕ → List ℕ
decimal_text n = decimal_within 20 n

-- a signed number, with a minus below 0
abbrev pub signed_text : ℤ → List ℕ
signed_text (pos n) = decimal_text n
signed_text (negsuc n) = minus ∷ decimal_text (n + 1)

-- a byte as two hexadecimal digits
abbrev pub hex_text : ℕ → List ℕ
hex_text byte = hex_digit_ascii (byte / 16) ∷ hex_digit_ascii (byte % 16) ∷ []
