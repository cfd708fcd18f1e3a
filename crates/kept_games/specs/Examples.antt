-- Calls on kept games, stated by hand and compared by evaluation: T3's play, an order of each kind, and each refusal that there is besides
-- those of a book, with the buffers as they were.
use Rattle.std.specs.Prelude.{ℕ, List, [], ◌∷◌, ◌++◌, ℤ, pos, length, replicate}
use Rattle.verdicts.specs.Verdicts.{accepted, refused}
use Rattle.book.specs.Written.{mark, start, book}
use Rattle.book.specs.Examples as document
use Rattle.kept_games.specs.Alike.{Call, Told, told_plainly, Kept, by_bytes}

-- a book, what is kept, a call, what it tells, and what is kept behind it
pub record Example : Type 0 where
  pub book : List ℕ
  pub before : Kept
  pub call : Call
  pub told : Told
  pub after : Kept

abbrev example_of : List ℕ → Kept → Call → Told → Kept → Example
example_of book before call told after = record { book = book; before = before; call = call; told = told; after = after }

-- of T3's book
abbrev example : Kept → Call → Told → Kept → Example
example = example_of document.t3

-- a refusal with this number: all is as it was
abbrev refused_at : Kept → Call → ℕ → Example
refused_at k c number = example k c (told_plainly (refused number 0) 0) k

abbrev kept_as : List ℕ → ℕ → Kept
kept_as buffer n = record { buffer = buffer; length = n }

-- bytes at the front of a buffer with so many more behind them
abbrev front : List ℕ → ℕ → Kept
front bytes more = kept_as (bytes ++ replicate more 255) (length bytes)

-- the bytes of a game of T3's book: two records of this stage, these flags and this place, the playing order, those to start, and the byte
-- of the set that has signal 0
abbrev a_record : ℕ → ℕ → ℕ → List ℕ
a_record stage flags place = stage ∷ flags ∷ place ∷ 0 ∷ 0 ∷ 0 ∷ 0 ∷ 0 ∷ []

abbrev a_list : List ℕ → List ℕ
a_list l = length l ∷ 0 ∷ l

abbrev a_game : List ℕ → List ℕ → List ℕ → List ℕ → ℕ → List ℕ
a_game first second listed starting set =
    (1 ∷ 0 ∷ 2 ∷ 0 ∷ 1 ∷ 0 ∷ 0 ∷ 0 ∷ 14 ∷ 0 ∷ 30 ∷ 0 ∷ 30 ∷ 0 ∷ [])
    ++ first
    ++ second
    ++ a_list listed
    ++ a_list starting
    ++ (set ∷ 0 ∷ 0 ∷ 0 ∷ 0 ∷ 0 ∷ 0 ∷ 0 ∷ [])

-- as set up; behind round 1 routine 0 waits at its step 1, and routine 1 is to start; behind round 2 both have ended
abbrev new : List ℕ
new = a_game (a_record 0 0 0) (a_record 0 0 0) [] (0 ∷ []) 0

abbrev waiting : List ℕ
waiting = a_game (a_record 2 0 1) (a_record 0 0 0) (0 ∷ []) (1 ∷ []) 0

abbrev over : List ℕ
over = a_game (a_record 3 0 3) (a_record 3 0 1) (0 ∷ 1 ∷ []) [] 0

-- a buffer for marks, with more room than T3's one mark step needs
abbrev marks : List ℤ
marks = pos 9 ∷ pos 9 ∷ pos 9 ∷ []

-- the game behind each of these rounds has 44 bytes
abbrev played : ℕ → ℕ → List ℤ → Told
played passes count buffer =
    record { verdict = accepted; length = 44; passes = passes; marks = count; lost = 0; marks_buffer = buffer }

abbrev refused_round : ℕ → List ℤ → Told
refused_round number buffer = record { verdict = refused number 0; length = 0; passes = 0; marks = 0; lost = 0; marks_buffer = buffer }

-- a book like T3's, whose first round leaves a mark and a game that is longer by a byte
abbrev marking : List ℕ
marking = book 1 0 ((mark (pos 5) ∷ start 1 ∷ []) ∷ [] ∷ [])

abbrev pub examples : List Example
examples =
    -- T3's play: "Round 1: 2 passes. Round 2: 2 passes, mark (0, 7)."
    example (kept_as (replicate 46 255) 0) Call.set_up (told_plainly accepted 43) (front new 3)
    ∷ example (front new 3) (Call.round marks) (played 2 0 marks) (front waiting 2)
    ∷ example (front waiting 2) (Call.round marks) (played 2 1 (pos 0 ∷ pos 7 ∷ pos 9 ∷ [])) (front over 2)
    -- an order of each kind; a start makes the game a byte longer
    ∷ example (front new 3) (Call.order 0 0) (told_plainly accepted 43) (front (a_game (a_record 0 0 0) (a_record 0 0 0) [] (0 ∷ []) 1) 3)
    ∷ example (front new 3) (Call.order 1 1) (told_plainly accepted 44) (front (a_game (a_record 0 0 0) (a_record 0 0 0) [] (0 ∷ 1 ∷ []) 0) 2)
    ∷ example (front new 3) (Call.order 2 1) (told_plainly accepted 43) (front (a_game (a_record 0 0 0) (a_record 0 4 0) [] (0 ∷ []) 0) 3)
    ∷ example (front new 3) (Call.order 3 1) (told_plainly accepted 43) (front (a_game (a_record 0 0 0) (a_record 0 8 0) [] (0 ∷ []) 0) 3)
    ∷ example (front new 3) (Call.order 4 0) (told_plainly accepted 43) (front (a_game (a_record 0 16 0) (a_record 0 0 0) [] (0 ∷ []) 0) 3)
    ∷ example (front new 3) Call.fits (told_plainly accepted 0) (front new 3)
    -- 1 to 7 come first
    ∷ example_of [] (kept_as new 44) (Call.order 5 0) (told_plainly (refused 1 0) 0) (kept_as new 44)
    -- 8: an unknown kind, and a number that is no routine
    ∷ refused_at (front new 3) (Call.order 5 0) 8
    ∷ refused_at (front new 3) (Call.order 1 2) 8
    -- 13: a length that is one too short, and one beyond the buffer; it comes before 8
    ∷ refused_at (kept_as (new ++ 255 ∷ []) 42) (Call.order 5 0) 13
    ∷ refused_at (kept_as new 44) (Call.order 1 1) 13
    ∷ refused_at (kept_as new 44) Call.fits 13
    -- 9: routine 0 in stage 1 without being listed
    ∷ refused_at (front (a_game (a_record 1 0 0) (a_record 0 0 0) [] [] 0) 3) (Call.order 5 0) 9
    ∷ refused_at (front (a_game (a_record 1 0 0) (a_record 0 0 0) [] [] 0) 3) Call.fits 9
    -- 14: no room for the new game, or for the byte that a start adds; 8 comes first
    ∷ refused_at (kept_as (replicate 42 255) 0) Call.set_up 14
    ∷ refused_at (kept_as new 43) (Call.order 1 1) 14
    ∷ refused_at (kept_as new 43) (Call.order 1 2) 8
    -- a round: 13, 9, 10, 14, each with the buffer for marks as it was; 10 comes before 14
    ∷ example (kept_as new 44) (Call.round marks) (refused_round 13 marks) (kept_as new 44)
    ∷ example (front (a_game (a_record 1 0 0) (a_record 0 0 0) [] [] 0) 3) (Call.round marks) (refused_round 9 marks)
    (front (a_game (a_record 1 0 0) (a_record 0 0 0) [] [] 0) 3)
    ∷ example (kept_as new 43) (Call.round (pos 9 ∷ [])) (refused_round 10 (pos 9 ∷ [])) (kept_as new 43)
    ∷ example (kept_as new 43) (Call.round marks) (refused_round 14 marks) (kept_as new 43)
    ∷ example_of marking (kept_as new 43) (Call.round marks) (refused_round 14 marks) (kept_as new 43)
    ∷ example_of marking (front new 1) (Call.round marks) (played 1 1 (pos 0 ∷ pos 5 ∷ pos 9 ∷ []))
    (front (a_game (a_record 3 0 2) (a_record 0 0 0) (0 ∷ []) (1 ∷ []) 0) 0)
    ∷ []

-- what comes of an example's call
abbrev pub made : Example → Example
made e = let r = by_bytes e.book e.before e.call in example_of e.book e.before e.call r.0 r.1
