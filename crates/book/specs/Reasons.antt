-- Document 01, "Turned down because of the input", said without computing: which number and place a book is told, and why.
-- Each case has what the checks before it ask, and that nothing of its own kind is at fault earlier.
use Rattle.std.specs.Prelude.{ℕ, ◌+◌, ◌<◌, ◌≤◌, ◌≡◌, true, false, List, length}
use Rattle.layout.specs.Layout.{header_bytes, routines_of, steps_of}
use Rattle.directory.specs.Directory.{first_step, steps_before, EntriesFollow}
use Rattle.book.specs.Book.{view_of}
use Rattle.blocks.specs.Parse.{EachWhile, SomeWhile, WhilesPause, Misplaced}
use Rattle.book.specs.Accepted.{CountsInRange, OffsetsRight, LaidOut, DirectoryRight}
use Rattle.book.specs.Accepted.{ReadableStep, AllReadable, AllNest, Accepted}

pub data BookReason (s : List ℕ) : ℕ → ℕ → Type 0 where
  -- "both 0 where nothing is turned down"
  nothing : Accepted s → BookReason s 0 0
  -- 1. "Fewer than 12 bytes (place 0)."
  short : length s < header_bytes → BookReason s 1 0
  -- 2. "A count outside its range (place 0)."
  counts : header_bytes ≤ length s → (CountsInRange s → ⊥) → BookReason s 2 0
  -- 3. "An offset or the length is wrong (place 0)."
  offsets : header_bytes ≤ length s → CountsInRange s → (OffsetsRight s → ⊥) → BookReason s 3 0
  -- 4. "place is the first routine whose first step isn't the sum of the counts before it"
  entry :
      {r : ℕ} →
      LaidOut s → r < routines_of s → EntriesFollow s r → (first_step s r ≡ steps_before s r → ⊥) →
      BookReason s 4 r
  -- "or R if only the total isn't S"
  total :
      LaidOut s → EntriesFollow s (routines_of s) → (steps_before s (routines_of s) ≡ steps_of s → ⊥) →
      BookReason s 4 (routines_of s)
  -- 5. "place is the first such step of the book"
  step :
      {p : ℕ} →
      LaidOut s → DirectoryRight s → p < steps_of s → AllReadable s p → (ReadableStep s p → ⊥) →
      BookReason s 5 p
  -- 6. "Place is the step reached in reading order, routine by routine, numbered from the book's first step"
  nesting :
      {r p : ℕ} →
      LaidOut s → DirectoryRight s → AllReadable s (steps_of s) → r < routines_of s → AllNest s r → Misplaced (view_of s r) p →
      BookReason s 6 (first_step s r + p)
  -- 7. "the lowest such while": the bodies of those in the routines before, and of those that lie lower in its own, pause
  pausing :
      {r : ℕ} (p : ℕ) →
      LaidOut s → DirectoryRight s → AllReadable s (steps_of s) → (nests : AllNest s (routines_of s)) → (here : r < routines_of s) →
      ((k : ℕ) (h : k < routines_of s) → k < r → WhilesPause (view_of s k) (nests k h)) →
      EachWhile (view_of s r) (λ x pauses. x < p → pauses ≡ true) (nests r here) →
      SomeWhile (view_of s r) (λ x pauses. (x ≡ p) × (pauses ≡ false)) (nests r here) →
      BookReason s 7 (first_step s r + p)
