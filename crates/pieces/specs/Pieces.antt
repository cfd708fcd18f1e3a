-- A text that is read in pieces.
use Rattle.std.specs.Prelude.{ℕ, zero, suc, ◌-◌, List, ◌++◌, eqb, length, get_or, drop, if◌then◌else◌}

-- the byte that ends a line
abbrev pub line_end : ℕ
line_end = 10

-- how many of the first n bytes are those of whole lines: all up to the last end of a line
unfoldable pub whole_within : List ℕ → ℕ → ℕ
whole_within text zero = 0
whole_within text (suc n) = if eqb (get_or text n 0) line_end then suc n else whole_within text n

abbrev pub whole_lines : List ℕ → ℕ
whole_lines text = whole_within text (length text)

-- the bytes from a place on stand in front; behind them the text is as it was
abbrev pub to_front : List ℕ → ℕ → List ℕ
to_front text from = drop from text ++ drop (length text - from) text
