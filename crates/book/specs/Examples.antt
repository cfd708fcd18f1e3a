-- Document 01's own examples of books, by evaluation: one table, and one claim.
use Rattle.std.specs.Prelude.{ℕ, zero, suc, ◌≡◌, refl, List, [], ◌∷◌, map, pos}
use Rattle.kinds.specs.Steps.{row_of, decoded, step_at}
use Rattle.numbers.specs.Counting.{sum_below}
use Rattle.verdicts.specs.declared.Verdict.{Verdict}
use Rattle.verdicts.specs.Verdicts.{accepted, refused, first_refusal}
use Rattle.layout.specs.Layout.{layout_verdict}
use Rattle.directory.specs.Directory.{steps_before, directory_verdict, routine_part}
use Rattle.blocks.specs.Blocks.{view_at, block_by, step_of, routine_of}
use Rattle.book.specs.Book.{steps_verdict, routine_walk, nesting_verdict, pausing_verdict, book_verdict}
use Rattle.book.specs.Written.{equal, rest, rest_for, wait, if, else, while, end, header, directory, one_routine}

unfoldable pub times : ℕ → List ℕ → List (List ℕ) → List (List ℕ)
times zero s ss = ss
times (suc n) s ss = s ∷ times n s ss

abbrev pub nested : ℕ → List ℕ
nested n = one_routine (times n (if 0 equal (pos 0)) (times n end []))

pub record Example : Type 0 where
  pub bytes : List ℕ
  pub verdict : Verdict

-- T3's book, as it is printed there
abbrev pub t3 : List ℕ
t3 =
    2 ∷ 0 ∷ 4 ∷ 0 ∷ 1 ∷ 0 ∷ 0 ∷ 0 ∷ 12 ∷ 0 ∷ 20 ∷ 0 ∷
    0 ∷ 0 ∷ 3 ∷ 0 ∷ 3 ∷ 0 ∷ 1 ∷ 0 ∷
    13 ∷ 1 ∷ 0 ∷ 0 ∷ 0 ∷ 0 ∷ 0 ∷ 0 ∷
    8 ∷ 0 ∷ 0 ∷ 0 ∷ 0 ∷ 0 ∷ 0 ∷ 0 ∷
    0 ∷ 0 ∷ 0 ∷ 0 ∷ 7 ∷ 0 ∷ 0 ∷ 0 ∷
    4 ∷ 0 ∷ 0 ∷ 0 ∷ 0 ∷ 0 ∷ 0 ∷ 0 ∷
    []

-- "A while holding only wait, only rest n with n 0, or an if that rests in one block: 7. R 65, S 1,025: 2. Depth 16 accepted, 17 gives 6."
abbrev pub examples : List Example
examples =
    record { bytes = t3; verdict = accepted }
    ∷ record { bytes = one_routine (while 0 equal (pos 0) ∷ wait 0 ∷ end ∷ []); verdict = refused 7 0 }
    ∷ record { bytes = one_routine (while 0 equal (pos 0) ∷ rest_for (pos 0) ∷ end ∷ []); verdict = refused 7 0 }
    ∷ record { bytes = one_routine (while 0 equal (pos 0) ∷ if 0 equal (pos 0) ∷ rest ∷ end ∷ end ∷ []); verdict = refused 7 0 }
    ∷ record { bytes = one_routine (while 0 equal (pos 0) ∷ if 0 equal (pos 0) ∷ rest ∷ else ∷ end ∷ end ∷ []); verdict = refused 7 0 }
    ∷ record { bytes = one_routine (while 0 equal (pos 0) ∷ if 0 equal (pos 0) ∷ rest ∷ else ∷ rest ∷ end ∷ end ∷ []); verdict = accepted }
    ∷ record { bytes = header 65 0 1 1; verdict = refused 2 0 }
    ∷ record { bytes = header 1 1025 1 1; verdict = refused 2 0 }
    ∷ record { bytes = nested 16; verdict = accepted }
    ∷ record { bytes = nested 17; verdict = refused 6 16 }
    ∷ []

pub as_told : map (λ e. book_verdict e.bytes) examples ≡ map (λ e. e.verdict) examples
unfolding book_verdict layout_verdict directory_verdict steps_verdict nesting_verdict pausing_verdict routine_walk routine_part routine_of step_of
    block_by view_at step_at decoded row_of steps_before sum_below first_refusal directory times
as_told = refl
