-- Games that are kept as bytes: the stored game stands at the front of a buffer that a program lends, and the program knows its length.
-- Each call is reading the stored game, the call on the game, and storing the game again, and the first refusal among them is told.
use Rattle.std.specs.Prelude.{ℕ, List, [], eqb, leb, ℤ, length, take, if◌then◌else◌}
use Rattle.verdicts.specs.declared.Verdict.{Verdict}
use Rattle.verdicts.specs.Verdicts.{◌or_else◌}
use Rattle.game.specs.declared.Game.{Game}
use Rattle.game.specs.declared.Outcome.{Outcome}
use Rattle.game.specs.Game.{blank_game}
use Rattle.setup.specs.SetUp.{set_up}
use Rattle.orders.specs.Orders.{ordered}
use Rattle.stored_games.specs.Forms.{form1}
use Rattle.stored_games.specs.Reading.{parts_of}
use Rattle.stored_games.specs.Calls.{load_verdict, loaded, StoreAnswer, store_answer, storing}
use Rattle.round.specs.Answers.{Answer, answer}

-- the bytes of the stored game in a buffer, which is so long; none where the buffer is not
abbrev pub kept_in : List ℕ → ℕ → List ℕ
kept_in buffer n = if leb n (length buffer) then take n buffer else []

-- whether they are a stored game that fits the book: 1 to 7, 13, 9
abbrev pub kept_verdict : List ℕ → List ℕ → ℕ → Verdict
kept_verdict book buffer n = load_verdict form1 book (kept_in buffer n)

-- the game that is read from them, with what is told
abbrev pub read_kept : List ℕ → List ℕ → ℕ → Outcome
read_kept book buffer n = loaded form1 book (kept_in buffer n) blank_game

-- where a stored game at the front of a buffer ends, as its own header and lists say
abbrev pub end_in : List ℕ → ℕ
end_in buffer = (parts_of form1 buffer).end

-- how long the stored game at the front of a buffer is: 0 after a refusal
unfoldable pub kept_length : List ℕ → List ℕ → ℕ
kept_length book buffer = let n = end_in buffer in if eqb (kept_verdict book buffer n).number 0 then n else 0

-- what is answered where the game was stored, with the buffer as it is left; after a refusal all is as lent
abbrev pub stored_unless : Verdict → StoreAnswer → List ℕ → StoreAnswer
stored_unless v s buffer = if eqb v.number 0 then s else store_answer v 0 buffer

-- set-up: 1 to 7, then 14, as storing tells them
unfoldable pub set_up_kept : List ℕ → List ℕ → StoreAnswer
set_up_kept book buffer = storing form1 book (set_up book blank_game).game buffer

-- an order: 1 to 7, 13 and 9, then 8, then 14
unfoldable pub order_kept : List ℕ → List ℕ → ℕ → ℕ → ℕ → StoreAnswer
order_kept book buffer n kind number =
    let l = read_kept book buffer n in
    let o = ordered book l.game kind number in
    let s = storing form1 book o.game buffer in
    stored_unless (l.verdict or_else o.verdict or_else s.verdict) s buffer

-- what a round answers, with both buffers as they are left: the stored game's new length, and of the round its passes, count of marks and
-- what was cut off
pub record KeptRound : Type 0 where
  pub verdict : Verdict
  pub length : ℕ
  pub passes : ℕ
  pub marks : ℕ
  pub lost : ℕ
  pub buffer : List ℕ
  pub marks_buffer : List ℤ

-- "After a refusal game and mark buffer are as lent, and passes and count of marks are 0."
abbrev pub refused_kept : Verdict → List ℕ → List ℤ → KeptRound
refused_kept v buffer marks =
    record { verdict = v; length = 0; passes = 0; marks = 0; lost = 0; buffer = buffer; marks_buffer = marks }

-- a round that was played, and its game stored
abbrev pub played_kept : Answer → StoreAnswer → KeptRound
played_kept a s =
    record {
      verdict = s.verdict;
      length = s.length;
      passes = a.passes;
      marks = a.marks;
      lost = a.lost;
      buffer = s.buffer;
      marks_buffer = a.buffer;
    }

-- a round of the game that is read, which is then stored: 10 and 11, then 14
unfoldable pub played_from : List ℕ → Game → List ℕ → List ℤ → KeptRound
played_from book g buffer marks =
    let a = answer book g marks in
    let s = storing form1 book a.game buffer in
    let v = a.verdict or_else s.verdict in
    if eqb v.number 0 then played_kept a s else refused_kept v buffer marks

-- a round: 1 to 7, 13 and 9, then 10 and 11, then 14
unfoldable pub play_kept : List ℕ → List ℕ → ℕ → List ℤ → KeptRound
play_kept book buffer n marks =
    let l = read_kept book buffer n in
    if eqb l.verdict.number 0 then played_from book l.game buffer marks else refused_kept l.verdict buffer marks
