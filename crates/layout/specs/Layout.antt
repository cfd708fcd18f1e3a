-- The header of a book and where its parts lie: document 01, "The book", and refusals 1 to 3.
use Rattle.std.specs.Prelude.{ℕ, ◌+◌, ◌*◌, Bool, ◌&&◌, List, leb, eqb, length}
use Rattle.numbers.specs.Numbers.{half_at}
use Rattle.kinds.specs.Steps.{step_bytes}
use Rattle.verdicts.specs.declared.Verdict.{Verdict}
use Rattle.verdicts.specs.Verdicts.{refused, ◌or_else◌, unless}
use Rattle.kinds.specs.declared.Counts.{Counts}

-- "Header of 12 bytes: routines R (1 to 64), steps S (0 to 1,024), signals E (0 to 64), counters C (0 to 64)"
abbrev pub header_bytes : ℕ
header_bytes = 12

abbrev pub most_routines : ℕ
most_routines = 64

abbrev pub most_steps : ℕ
most_steps = 1024

abbrev pub most_signals : ℕ
most_signals = 64

abbrev pub most_counters : ℕ
most_counters = 64

abbrev pub routines_of : List ℕ → ℕ
routines_of s = half_at s 0

abbrev pub steps_of : List ℕ → ℕ
steps_of s = half_at s 2

abbrev pub signals_of : List ℕ → ℕ
signals_of s = half_at s 4

abbrev pub counters_of : List ℕ → ℕ
counters_of s = half_at s 6

-- each count in its range
abbrev pub counts_fit : List ℕ → Bool
counts_fit s =
    leb 1 (routines_of s)
    && leb (routines_of s) most_routines
    && leb (steps_of s) most_steps
    && leb (signals_of s) most_signals
    && leb (counters_of s) most_counters

-- an entry of the directory: "first step and step count", each of 16 bits
abbrev pub entry_bytes : ℕ
entry_bytes = 4

-- "offset of the directory (12), offset of the steps (12 + 4R)"
abbrev pub steps_from : List ℕ → ℕ
steps_from s = header_bytes + entry_bytes * routines_of s

-- "The length is exactly 12 + 4R + 8S."
abbrev pub layout_fits : List ℕ → Bool
layout_fits s =
    eqb (half_at s 8) header_bytes && eqb (half_at s 10) (steps_from s) && eqb (length s) (steps_from s + step_bytes * steps_of s)

-- 1. "Fewer than 12 bytes (place 0)." 2. "A count outside its range (place 0)." 3. "An offset or the length is wrong (place 0)."
unfoldable pub layout_verdict : List ℕ → Verdict
layout_verdict s =
    unless (leb header_bytes (length s)) (refused 1 0) or_else unless (counts_fit s) (refused 2 0) or_else unless (layout_fits s) (refused 3 0)

-- the numbers R, E and C, which the fields of a step are held against
abbrev pub counts_of : List ℕ → Counts
counts_of s = record { routines = routines_of s; signals = signals_of s; counters = counters_of s }
