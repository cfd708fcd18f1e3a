-- The directory of a book, and the steps of a routine: document 01, "The book", and refusal 4.
use Rattle.std.specs.Prelude.{ℕ, ◌+◌, ◌*◌, ◌<◌, ◌≡◌, List, leb, eqb, length, drop, take, if◌then◌else◌, Option}
use Rattle.numbers.specs.Counting.{sum_below}
use Rattle.numbers.specs.Numbers.{half_at}
use Rattle.kinds.specs.declared.Kind.{Kind}
use Rattle.kinds.specs.Steps.{step_bytes, step_at}
use Rattle.verdicts.specs.declared.Verdict.{Verdict}
use Rattle.verdicts.specs.Verdicts.{refused, ◌or_else◌, unless, first_refusal}
use Rattle.layout.specs.Layout.{header_bytes, entry_bytes, routines_of, steps_of, steps_from, counts_of}

-- "Directory: R entries, first step and step count": routine r's entry
abbrev pub first_step : List ℕ → ℕ → ℕ
first_step s r = half_at s (header_bytes + entry_bytes * r)

abbrev pub step_count : List ℕ → ℕ → ℕ
step_count s r = half_at s (header_bytes + 2 + entry_bytes * r)

-- the sum of the counts before routine r; it does not wrap
unfoldable pub steps_before : List ℕ → ℕ → ℕ
steps_before s r = sum_below (step_count s) r

-- "entries follow each other from step 0 without gaps": the first n do, each beginning at the sum of the counts before it
abbrev pub EntriesFollow : List ℕ → ℕ → Type 0
EntriesFollow s n = (r : ℕ) → r < n → first_step s r ≡ steps_before s r

-- 4. "place is the first routine whose first step isn't the sum of the counts before it, or R if only the total isn't S"
abbrev pub entry_verdict : List ℕ → ℕ → Verdict
entry_verdict s r = unless (eqb (first_step s r) (steps_before s r)) (refused 4 r)

unfoldable pub directory_verdict : List ℕ → Verdict
directory_verdict s =
    first_refusal (entry_verdict s) (routines_of s) 0
    or_else unless (eqb (steps_before s (routines_of s)) (steps_of s)) (refused 4 (routines_of s))

-- the byte of the book where the steps of routine r begin
abbrev pub routine_from : List ℕ → ℕ → ℕ
routine_from s r = steps_from s + step_bytes * first_step s r

-- "the part of the book that begins at its first step"
unfoldable pub routine_part : List ℕ → ℕ → List ℕ
routine_part s r = drop (routine_from s r) s

-- the steps of routine r
abbrev pub routine_steps : List ℕ → ℕ → List ℕ
routine_steps s r = take (step_bytes * step_count s r) (routine_part s r)

-- "Places are counted from the routine's own first step.": the step of routine r at place p
abbrev pub routine_step : List ℕ → ℕ → ℕ → Option Kind
routine_step s r p = step_at (counts_of s) (routine_steps s r) p

-- the byte of the book where its steps begin; 0 for a routine that begins past the book's end, of which no step is there
unfoldable pub routine_steps_from : List ℕ → ℕ → ℕ
routine_steps_from s r = if leb (routine_from s r) (length s) then routine_from s r else 0
