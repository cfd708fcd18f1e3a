-- The lines of a listing: document 01, "Set plays", what the program `rounds` prints. "All printed numbers are decimal."
use Rattle.std.specs.Prelude.{ℕ, ◌/◌, List, [], ◌∷◌, ◌++◌, ℤ, length}
use Prim.Native.String.{String}
use Rattle.texts.specs.Texts.{ascii, decimal_text, signed_text}
use Rattle.verdicts.specs.declared.Verdict.{Verdict}
use Rattle.round.specs.Answers.{numbers_per_mark}

-- a word with a number behind it
abbrev pub numbered : String → ℕ → List ℕ
numbered word n = ascii word ++ decimal_text n

-- and with a signed one
abbrev pub signed : String → ℤ → List ℕ
signed word n = ascii word ++ signed_text n

-- "Round number, passes, marks of that round": `round 1 passes 2 marks 0`
unfoldable pub round_line : ℕ → ℕ → ℕ → List ℕ
round_line number passes marks = numbered "round " number ++ numbered " passes " passes ++ numbered " marks " marks ++ ascii "\n"

-- "a line per mark with routine and number": `mark 0 7`
unfoldable pub mark_line : ℤ → ℤ → List ℕ
mark_line routine n = signed "mark " routine ++ signed " " n ++ ascii "\n"

-- the lines of marks that lie one behind another, two numbers each; a last number without its second is left out
unfoldable pub mark_lines : List ℤ → List ℕ
mark_lines (routine ∷ n ∷ marks) = mark_line routine n ++ mark_lines marks
mark_lines (n ∷ []) = []
mark_lines [] = []

-- "Round number, passes, marks of that round; then a line per mark"
unfoldable pub round_lines : ℕ → ℕ → List ℤ → List ℕ
round_lines number passes marks = round_line number passes (length marks / numbers_per_mark) ++ mark_lines marks

-- "`refused` with number and place, as `refused 2 0` on one line"
unfoldable pub refusal_line : Verdict → List ℕ
refusal_line v = numbered "refused " v.number ++ numbered " " v.place ++ ascii "\n"
