-- The bytes that words of hexadecimal digits stand for.
use Rattle.std.specs.Prelude.{ℕ, zero, suc, ◌+◌, ◌*◌, ◌/◌, ◌%◌, Bool, not, ◌&&◌, List, [], ◌∷◌, Option, Some, None, is_some, unwrap_or, eqb, leb, length, get_or, set, if◌then◌else◌}
use Rattle.std.specs.List.{list_all}
use Rattle.words.specs.Words.{is_same}
use Rattle.digits.specs.Digits.{minus, digit_of}

-- the most bytes that a word may stand for
abbrev pub longest : ℕ
longest = 16384

-- a word stands for bytes, two digits each
unfoldable pub is_hex : List ℕ → Bool
is_hex word =
    not (eqb (length word) 0) && eqb (length word % 2) 0 && leb (length word / 2) longest && list_all (λ c. is_some (digit_of c)) word

-- byte i of those that a word stands for; what is no digit counts as 0
abbrev pub byte_of : List ℕ → ℕ → ℕ
byte_of word i = unwrap_or (digit_of (get_or word (i * 2) 0)) 0 * 16 + unwrap_or (digit_of (get_or word (i * 2 + 1) 0)) 0

-- a buffer with n of these bytes in it, from place i on
unfoldable pub written_from : List ℕ → ℕ → List ℕ → ℕ → List ℕ
written_from word zero l i = l
written_from word (suc n) l i = written_from word n (set l i (byte_of word i)) (i + 1)

-- how many bytes a word stands for, with a minus for no bytes, and the buffer that they are put into; it is as lent for any other word
unfoldable pub bytes_in : List ℕ → Option ℕ
bytes_in word =
    if is_same word (minus ∷ []) then Some 0 else if is_hex word then Some (length word / 2) else None

unfoldable pub written_in : List ℕ → List ℕ → List ℕ
written_in word l =
    if is_same word (minus ∷ []) then l else if is_hex word then written_from word (length word / 2) l 0 else l
