-- What playing a round answers: document 01, "Turned down because of the input" and "Turned down because of the state".
use Rattle.std.specs.Prelude.{ℕ, ◌*◌, List, [], ◌∷◌, ◌++◌, eqb, leb, length, drop, ℤ, pos, if◌then◌else◌}
use Rattle.kinds.specs.Ops.{op_mark}
use Rattle.numbers.specs.Counting.{count_below}
use Rattle.kinds.specs.Steps.{op_at}
use Rattle.verdicts.specs.declared.Verdict.{Verdict}
use Rattle.verdicts.specs.Verdicts.{refused, ◌or_else◌, unless}
use Rattle.layout.specs.Layout.{steps_of}
use Rattle.book.specs.Book.{steps_part, book_verdict}
use Rattle.game.specs.declared.Game.{Game}
use Rattle.round.specs.State.{Event, gave, ended, missing, past, marked, completed}
use Rattle.fitting.specs.Fitting.{fit_verdict}
use Rattle.round.specs.Rounds.{PlayedRound, round}

-- how many of the first n steps of a part of the book are mark steps
abbrev pub mark_steps : List ℕ → ℕ → ℕ
mark_steps steps n = count_below (λ p. eqb (op_at steps p) op_mark) n

-- the marks among what happened, each a routine and a number, "in the order made"
unfoldable pub marks_in : List Event → List (ℕ × ℤ)
marks_in [] = []
marks_in (gave e k ∷ events) = marks_in events
marks_in (ended r ∷ events) = marks_in events
marks_in (missing r p t ∷ events) = marks_in events
marks_in (past r p t ∷ events) = marks_in events
marks_in (marked r n ∷ events) = (r, n) ∷ marks_in events
marks_in (completed r p ∷ events) = marks_in events

-- "signed 32-bit numbers, two to a mark"
abbrev pub numbers_per_mark : ℕ
numbers_per_mark = 2

unfoldable pub written : List (ℕ × ℤ) → List ℤ
written [] = []
written (m ∷ ms) = pos m.0 ∷ m.1 ∷ written ms

-- 10. "The mark buffer .. is shorter than twice the book's mark steps."
abbrev pub space_for : List ℕ → ℕ
space_for book = numbers_per_mark * mark_steps (steps_part book) (steps_of book)

abbrev pub space_verdict : List ℕ → List ℤ → Verdict
space_verdict book buffer = unless (leb (space_for book) (length buffer)) (refused 10 0)

-- 11, once the round is played: "More than 1,024 numbers are given in one round."
abbrev pub most_numbers : ℕ
most_numbers = 1024

abbrev pub numbers_verdict : PlayedRound → Verdict
numbers_verdict p = unless (leb (length p.played.state.numbers) most_numbers) (refused 11 0)

-- "a round checks 1 to 7, then 9, 10, 11"
unfoldable pub round_verdict : List ℕ → Game → List ℤ → Verdict
round_verdict book g buffer = book_verdict book or_else fit_verdict book g or_else space_verdict book buffer or_else numbers_verdict (round book g)

pub record Answer : Type 0 where
  pub verdict : Verdict
  pub game : Game
  pub passes : ℕ
  pub marks : ℕ
  -- Document 02: "The round's answer carries the total of these", the distances between the true sums and those given
  pub lost : ℕ
  pub buffer : List ℤ

-- Document 02: the total "is at most 1,024,000,000"; that it is, is Lost.antt's claim
abbrev pub most_lost : ℕ
most_lost = 1024000000

-- "After a refusal game and mark buffer are as lent, and passes and count of marks are 0." Document 02: "A refused round reports 0."
abbrev pub turned_down : Verdict → Game → List ℤ → Answer
turned_down v g buffer = record { verdict = v; game = g; passes = 0; marks = 0; lost = 0; buffer = buffer }

-- "An accepted round gives the game, the passes, the count of marks, and the marks in the order made; the buffer beyond the marks is
-- untouched."
abbrev pub played_out : Verdict → PlayedRound → List ℤ → Answer
played_out v p buffer =
    let marks = marks_in p.played.trace in
    record {
      verdict = v;
      game = p.played.state.game;
      passes = p.passes;
      marks = length marks;
      lost = p.played.state.lost;
      buffer = written marks ++ drop (numbers_per_mark * length marks) buffer;
    }

unfoldable pub answer : List ℕ → Game → List ℤ → Answer
answer book g buffer =
    let v = round_verdict book g buffer in
    if eqb v.number 0 then played_out v (round book g) buffer else turned_down v g buffer
