-- What an effect does to the tables, and to the marks.
use Rattle.std.specs.Prelude.{ℕ, ◌+◌, ◌<◌, Bool, ◌&&◌, not, List, [], ◌∷◌, ltb, eqb, get_or, set, ℤ, if◌then◌else◌}
use Rattle.numbers.specs.Numbers.{word_limit}
use Rattle.layout.specs.Layout.{most_routines, most_signals, most_counters}
use Rattle.lines.specs.Lines.{most_entries, is_in}
use Rattle.game.specs.Game.{not_started}
use Rattle.round.specs.declared.Effect.{Effect}
use Rattle.round.specs.declared.Effect.TheVariants.{Nothing, Mark, Put, Add, Give, GiveNumber, Start, Stop, Suspend, Resume}
use Rattle.tables.specs.declared.Tally.{Tally}
use Rattle.tables.specs.Tables.{stages_row, starting_row, row_at, start_line, pair_put, pair_count}
use Rattle.ticking.specs.Acts.{mark_by}

-- routine r is one of those to start
unfoldable pub is_starting : List ℕ → ℕ → ℕ → Bool
is_starting fields count r = is_in (start_line fields count) r

-- whether a start of routine r adds it
-- "A start of a routine that isn't in stage 0, or is already to start, adds nothing."
abbrev pub adds : List ℕ → ℕ → ℕ → Bool
adds fields count r = eqb (get_or (row_at stages_row fields) r 0) not_started && not (is_starting fields count r)

-- the fields behind a start, and how many are to start then; a full list takes no more
unfoldable pub started_in : ℕ → ℕ → List ℕ → List ℕ
started_in count r fields =
    if adds fields count r then (if ltb count most_entries then set fields (starting_row + count) r else fields) else fields

unfoldable pub start_count : ℕ → ℕ → List ℕ → ℕ
start_count count r fields = if adds fields count r then (if ltb count most_entries then count + 1 else count) else count

-- an effect on what the tables have a place for
abbrev pub FitsTables : Effect → Type 0
FitsTables Nothing = Unit {0}
FitsTables (Mark n) = Unit {0}
FitsTables (Put c v) = c < most_counters
FitsTables (Add c v) = c < most_counters
FitsTables (Give e) = e < most_signals
FitsTables (GiveNumber e v) = e < most_signals
FitsTables (Start t) = t < most_routines
FitsTables (Stop t) = t < most_routines
FitsTables (Suspend t) = t < most_routines
FitsTables (Resume t) = t < most_routines

-- there is room for a number that an effect gives and for what it cuts off, with so much counted before
abbrev pub HasRoom : ℕ → Tally → Effect → Type 0
HasRoom room t Nothing = Unit {0}
HasRoom room t (Mark k) = Unit {0}
HasRoom room t (Put c v) = Unit {0}
HasRoom room t (Add c v) = t.lost + v.lost < word_limit
HasRoom room t (Give e) = Unit {0}
HasRoom room t (GiveNumber e v) = t.given < room
HasRoom room t (Start r) = Unit {0}
HasRoom room t (Stop r) = Unit {0}
HasRoom room t (Suspend r) = Unit {0}
HasRoom room t (Resume r) = Unit {0}

-- the marks: their buffer, and how many there are
pub record Marks : Type 0 where
  pub buffer : List ℤ
  pub count : ℕ

abbrev pub marks_of : List ℤ → ℕ → Marks
marks_of buffer count = record { buffer = buffer; count = count }

-- one more mark, of routine r
abbrev pub mark_put : ℕ → ℤ → Marks → Marks
mark_put r n m = marks_of (pair_put m.count r n m.buffer) (pair_count m.count m.buffer)

-- more of them, each a routine and a number
unfoldable pub marks_put : List (ℕ × ℤ) → Marks → Marks
marks_put [] m = m
marks_put (x ∷ xs) m = marks_put xs (mark_put x.0 x.1 m)

-- the marks behind an effect of a step of routine r
abbrev pub marked_by : ℕ → Effect → Marks → Marks
marked_by r e m = marks_put (mark_by r e) m
