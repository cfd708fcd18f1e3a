-- That playing stored games is playing games: what a program is told that keeps its game as bytes, whatever calls it makes, is what the
-- calls on games tell, and the bytes are at any time those of the game that these have come to.
use Rattle.std.specs.Prelude.{ℕ, ◌≤◌, ◌≡◌, List, [], ◌∷◌, eqb, ℤ, length, if◌then◌else◌}
use Rattle.numbers.specs.Buffers.{with_front}
use Rattle.verdicts.specs.declared.Verdict.{Verdict}
use Rattle.verdicts.specs.Verdicts.{◌or_else◌}
use Rattle.book.specs.Accepted.{Accepted}
use Rattle.book.specs.Book.{book_verdict}
use Rattle.game.specs.declared.Game.{Game}
use Rattle.fitting.specs.Fitting.{fit_verdict}
use Rattle.fitting.specs.Fits.{Fits}
use Rattle.setup.specs.SetUp as setup
use Rattle.orders.specs.Orders.{ordered}
use Rattle.stored_games.specs.Forms.{form1}
use Rattle.stored_games.specs.Stored.{stored}
use Rattle.round.specs.Answers.{answer}
use Rattle.kept_games.specs.Kept.{kept_in, kept_verdict, kept_length, set_up_kept, order_kept, play_kept}

-- the bytes of the longest stored game: 14 of the header, 8 for each of 64 routines, 4 for each of 64 counters, 2 for the count of each
-- list, one for each routine in them, of which none is in both, and 8 of the signals
abbrev pub most_stored : ℕ
most_stored = 858

-- a call: set-up, an order of this kind and number, a round with this buffer for its marks, whether the game fits
pub data Call : Type 0 where
  set_up : Call
  order : ℕ → ℕ → Call
  round : List ℤ → Call
  fits : Call

-- what is told: the verdict, the length of the stored game that is written, and of a round its passes, count of marks, what was cut off,
-- and the buffer for marks as it is left
pub record Told : Type 0 where
  pub verdict : Verdict
  pub length : ℕ
  pub passes : ℕ
  pub marks : ℕ
  pub lost : ℕ
  pub marks_buffer : List ℤ

-- of a call that is no round
abbrev pub told_plainly : Verdict → ℕ → Told
told_plainly v n = record { verdict = v; length = n; passes = 0; marks = 0; lost = 0; marks_buffer = [] }

-- by value nothing is written: how long a game is that would be, 0 after a refusal
abbrev pub length_of : Verdict → Game → ℕ
length_of v g = if eqb v.number 0 then length (stored form1 g) else 0

-- by value: what a call on a game tells, and the game that it gives
unfoldable pub by_value : List ℕ → Game → Call → Told × Game
by_value book g Call.set_up = let o = setup.set_up book g in (told_plainly o.verdict (length_of o.verdict o.game), o.game)
by_value book g (Call.order kind n) =
    let o = ordered book g kind n in (told_plainly o.verdict (length_of o.verdict o.game), o.game)
by_value book g (Call.round marks) =
    let a = answer book g marks in (
      record {
        verdict = a.verdict;
        length = length_of a.verdict a.game;
        passes = a.passes;
        marks = a.marks;
        lost = a.lost;
        marks_buffer = a.buffer;
      },
      a.game,
    )
by_value book g Call.fits = (told_plainly (book_verdict book or_else fit_verdict book g) 0, g)

-- a game kept as bytes: the buffer, and the stored game's length
pub record Kept : Type 0 where
  pub buffer : List ℕ
  pub length : ℕ

-- what is kept behind a call: the buffer as it is left, and the length that is told, or after a refusal the one that it had
abbrev pub kept_after : Verdict → List ℕ → ℕ → Kept → Kept
kept_after v buffer n k = record { buffer = buffer; length = if eqb v.number 0 then n else k.length }

-- by bytes: what a call on a kept game tells, and what is kept behind it
unfoldable pub by_bytes : List ℕ → Kept → Call → Told × Kept
by_bytes book k Call.set_up =
    let s = set_up_kept book k.buffer in
    (told_plainly s.verdict s.length, kept_after s.verdict s.buffer s.length k)
by_bytes book k (Call.order kind n) =
    let s = order_kept book k.buffer k.length kind n in
    (told_plainly s.verdict s.length, kept_after s.verdict s.buffer s.length k)
by_bytes book k (Call.round marks) =
    let p = play_kept book k.buffer k.length marks in (
      record {
        verdict = p.verdict;
        length = p.length;
        passes = p.passes;
        marks = p.marks;
        lost = p.lost;
        marks_buffer = p.marks_buffer;
      },
      kept_after p.verdict p.buffer p.length k,
    )
by_bytes book k Call.fits = (told_plainly (kept_verdict book k.buffer k.length) 0, k)

-- what a list of calls tells, one after the other, and what they come to
unfoldable pub told_by : {S : Type 0} → (S → Call → Told × S) → S → List Call → List Told
told_by step s [] = []
told_by step s (c ∷ calls) = (step s c).0 ∷ told_by step (step s c).1 calls

unfoldable pub behind : {S : Type 0} → (S → Call → Told × S) → S → List Call → S
behind step s [] = s
behind step s (c ∷ calls) = behind step (step s c).1 calls

-- what is kept is a game that fits, in a buffer that has room for every game
pub record Keeps (book : List ℕ) (k : Kept) (g : Game) : Type 0 where
  pub bytes : kept_in k.buffer k.length ≡ stored form1 g
  pub fits : Fits book g
  pub room : most_stored ≤ length k.buffer

-- whatever calls are made on a game that is kept, they tell what the calls by value tell, and what is kept is what those come to
abbrev pub PlaysAlike : List ℕ → Type 0
PlaysAlike book =
    (k : Kept) (g : Game) (calls : List Call) → Keeps book k g →
    (told_by (by_bytes book) k calls ≡ told_by (by_value book) g calls)
    × Keeps book (behind (by_bytes book) k calls) (behind (by_value book) g calls)

-- and so from set-up on, whatever stood in the buffer
abbrev pub BeginsAlike : List ℕ → Type 0
BeginsAlike book =
    (k : Kept) (g : Game) → Accepted book → most_stored ≤ length k.buffer →
    ((by_bytes book k Call.set_up).0 ≡ (by_value book g Call.set_up).0)
    × Keeps book (by_bytes book k Call.set_up).1 (by_value book g Call.set_up).1

-- the stored game of every game that fits an accepted book is so long at most
abbrev pub LongestStored : Type 0
LongestStored = (book : List ℕ) (g : Game) → Accepted book → Fits book g → length (stored form1 g) ≤ most_stored

-- the length of a stored game is found where it was not kept
abbrev pub FindsLength : List ℕ → Type 0
FindsLength book =
    (g : Game) (buffer : List ℕ) → Accepted book → Fits book g →
    kept_length book (with_front (stored form1 g) buffer) ≡ length (stored form1 g)
