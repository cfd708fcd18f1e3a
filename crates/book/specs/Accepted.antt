-- Document 01's description of a book, clause by clause.
use Rattle.std.specs.Prelude.{ℕ, ◌+◌, ◌*◌, ◌<◌, ◌≤◌, ◌≡◌, List, length}
use Rattle.numbers.specs.Numbers.{half_at}
use Rattle.layout.specs.Layout.{header_bytes, most_routines, most_steps, most_signals, most_counters, routines_of, steps_of, signals_of, counts_of}
use Rattle.layout.specs.Layout.{counters_of, steps_from}
use Rattle.directory.specs.Directory.{step_count, steps_before, EntriesFollow}
use Rattle.kinds.specs.Steps.{step_bytes, Readable, op_at, field_a, field_b, field_n}
use Rattle.blocks.specs.Blocks.{deepest}
use Rattle.book.specs.Book.{steps_part, view_of}
use Rattle.blocks.specs.Parse.{ParsedBlock, WhilesPause}

-- "routines R (1 to 64), steps S (0 to 1,024), signals E (0 to 64), counters C (0 to 64)"
pub record CountsInRange (s : List ℕ) : Type 0 where
  pub some_routine : 1 ≤ routines_of s
  pub few_routines : routines_of s ≤ most_routines
  pub few_steps : steps_of s ≤ most_steps
  pub few_signals : signals_of s ≤ most_signals
  pub few_counters : counters_of s ≤ most_counters

-- "offset of the directory (12), offset of the steps (12 + 4R)", "The length is exactly 12 + 4R + 8S."
pub record OffsetsRight (s : List ℕ) : Type 0 where
  pub directory_at : half_at s 8 ≡ header_bytes
  pub steps_at : half_at s 10 ≡ steps_from s
  pub size : length s ≡ steps_from s + step_bytes * steps_of s

-- what checks 1 to 3 ask
pub record LaidOut (s : List ℕ) : Type 0 where
  pub header : header_bytes ≤ length s
  pub counts : CountsInRange s
  pub offsets : OffsetsRight s

-- "entries follow each other from step 0 without gaps and end at S; a count may be 0"
pub record DirectoryRight (s : List ℕ) : Type 0 where
  pub entries : EntriesFollow s (routines_of s)
  pub total : steps_before s (routines_of s) ≡ steps_of s

-- step i of the book is "one of the 21 kinds", its fields in range, with no stray field
abbrev pub ReadableStep : List ℕ → ℕ → Type 0
ReadableStep s i = Readable (counts_of s) (op_at (steps_part s) i) (field_a (steps_part s) i) (field_b (steps_part s) i) (field_n (steps_part s) i)

-- the first n steps are so
abbrev pub AllReadable : List ℕ → ℕ → Type 0
AllReadable s n = (i : ℕ) → i < n → ReadableStep s i

-- "Nesting goes to depth 16.": the steps of routine r are one block, every opening closed and every marker in place
abbrev pub Nests : List ℕ → ℕ → Type 0
Nests s r = ParsedBlock (view_of s r) deepest 0 (step_count s r)

-- the first n routines nest
abbrev pub AllNest : List ℕ → ℕ → Type 0
AllNest s n = (r : ℕ) → r < n → Nests s r

pub record Accepted (s : List ℕ) : Type 0 where
  pub laid : LaidOut s
  pub directed : DirectoryRight s
  pub readable : AllReadable s (steps_of s)
  pub nesting : AllNest s (routines_of s)
  -- "The body of each while must pause."
  pub pausing : (r : ℕ) (h : r < routines_of s) → WhilesPause (view_of s r) (nesting r h)
