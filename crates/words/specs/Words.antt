-- The words of a line of text.
use Rattle.std.specs.Prelude.{ℕ, zero, suc, ◌+◌, Bool, ◌==◌, List, eqb, length, take, drop, if◌then◌else◌}
use Rattle.std.specs.List.{position_or_len}
use Rattle.std.specs.Str.{bytes_eq}

abbrev pub space : ℕ
space = 32

-- the place of the first c from a place on; where there is none, the text's length, or the place itself if that is further
abbrev pub found_at : List ℕ → ℕ → ℕ → ℕ
found_at text from c = from + position_or_len (λ b. b == c) (drop from text)

-- what stands before the first space, and what stands behind it
abbrev pub first_of : List ℕ → List ℕ
first_of text = take (found_at text 0 space) text

abbrev pub rest_of : List ℕ → List ℕ
rest_of text = drop (found_at text 0 space + 1) text

-- two words have the same bytes
unfoldable pub is_same : List ℕ → List ℕ → Bool
is_same word name = bytes_eq word name

-- the number of a word among names with a space between them, of which the first has number k; n names at most
unfoldable pub place_from : List ℕ → List ℕ → ℕ → ℕ → ℕ
place_from names word zero k = k
place_from names word (suc n) k =
    if eqb (length names) 0 then k
    else if is_same (first_of names) word then k
    else place_from (rest_of names) word n (k + 1)

unfoldable pub place_of : List ℕ → List ℕ → ℕ
place_of names word = place_from names word (length names) 0
