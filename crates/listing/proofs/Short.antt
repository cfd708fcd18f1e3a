-- No line of a listing is longer than its words and as many digits as numbers of 64 bits have.
use Prim.Native.Nat.{ℕ, zero, suc, ◌+◌, ◌*◌, ◌/◌, ◌≤◌}
use mathlib.Core.List.{List, [], ◌∷◌}
use native.Mathlib.Omega.{arith}
use lib.Dec.{ltb}
use lib.IntN.{ℤ, pos, negsuc}
use lib.ListN.{length, length-append}
use Rattle.numbers.proofs.Tests.{by_test}
use Rattle.verdicts.specs.declared.Verdict.{Verdict}
use Rattle.round.specs.Answers.{numbers_per_mark}
use Rattle.texts.specs.Texts.{ascii, decimal_within, signed_text}
use Rattle.listing.specs.Listing.{round_line, mark_line, mark_lines, round_lines, refusal_line}

-- the most bytes that the line of a round has, and that of a mark: their words, and 20 digits for a number, with a minus 21
abbrev pub longest_round_line : ℕ
longest_round_line = 82

abbrev pub longest_mark_line : ℕ
longest_mark_line = 49

decimal_short : (k n : ℕ) → length (decimal_within k n) ≤ k
unfolding decimal_within
decimal_short zero n = omega arith
decimal_short (suc k) n =
    by_test (λ (t : List ℕ). length t ≤ suc k) (ltb n 10) (λ _. omega arith)
    (λ _. simp length-append (omega (arith, decimal_short k (n / 10))))

signed_short : (z : ℤ) → length (signed_text z) ≤ 21
signed_short (pos n) = omega (arith, decimal_short 20 n)
signed_short (negsuc n) = omega (arith, decimal_short 20 (n + 1))

round_line_short : (number passes marks : ℕ) → length (round_line number passes marks) ≤ longest_round_line
unfolding round_line ascii
round_line_short number passes marks =
    simp length-append (omega (arith, decimal_short 20 number, decimal_short 20 passes, decimal_short 20 marks))

mark_line_short : (routine n : ℤ) → length (mark_line routine n) ≤ longest_mark_line
unfolding mark_line ascii
mark_line_short routine n = simp length-append (omega (arith, signed_short routine, signed_short n))

mark_lines_short : (marks : List ℤ) → numbers_per_mark * length (mark_lines marks) ≤ longest_mark_line * length marks
unfolding mark_lines
mark_lines_short (routine ∷ n ∷ marks) =
    simp length-append (omega (arith, mark_line_short routine n, mark_lines_short marks))
mark_lines_short (n ∷ []) = omega arith
mark_lines_short [] = omega arith

pub refusal_short : (v : Verdict) → length (refusal_line v) ≤ longest_round_line
unfolding refusal_line ascii
refusal_short v = simp length-append (omega (arith, decimal_short 20 v.number, decimal_short 20 v.place))

pub round_short :
    (number passes : ℕ) (marks : List ℤ) (most : ℕ) → length marks ≤ numbers_per_mark * most →
    length (round_lines number passes marks) ≤ longest_round_line + longest_mark_line * most
unfolding round_lines
round_short number passes marks most h =
    simp length-append
    (omega (arith, round_line_short number passes (length marks / numbers_per_mark), mark_lines_short marks))
