-- Rounds by evaluation: the order of the refusals and what they hand back, what happens in the rounds of T3's book, the buffer beyond
-- the marks, the place behind a rest that ends a first block, and steps that would not end.
use Rattle.std.specs.Prelude.{ℕ, ◌≡◌, refl, List, [], ◌∷◌, map, ℤ, pos, length, Option, Some, None}
use Rattle.kinds.specs.Steps.{row_of, decoded, step_at}
use Rattle.blocks.specs.Blocks.{view_at, block_by, step_of, routine_of}
use Rattle.partners.specs.Partners.{partner_of}
use Rattle.verdicts.specs.Verdicts.{refused, first_refusal}
use Rattle.layout.specs.Layout.{layout_verdict, counts_of}
use Rattle.directory.specs.Directory.{steps_before, directory_verdict, routine_steps, routine_part}
use Rattle.book.specs.Book.{steps_verdict, routine_walk, nesting_verdict, pausing_verdict, book_verdict}
use Rattle.book.specs.Written.{equal, mark, rest, if, else, while, end, directory, one_routine}
use Rattle.book.specs.Examples.{t3}
use Rattle.game.specs.declared.Game.{Game}
use Rattle.numbers.specs.Counting.{all_below, any_below, sum_below}
use Rattle.lines.specs.Lines.{is_in, appended}
use Rattle.game.specs.Game.{routine_at, blank_game, with_start}
use Rattle.fitting.specs.Arrays.{entry_fits, line_fits, counters_fit, signals_fit}
use Rattle.fitting.specs.Routines.{routine_fits, slot_fits}
use Rattle.fitting.specs.Fitting.{is_sized, fits_book}
use Rattle.setup.specs.SetUp.{new_game}
use Rattle.round.specs.declared.Ending.{Ending}
use Rattle.round.specs.declared.Ending.TheVariants.{Ended, Continued}
use Rattle.round.specs.State.{signal, Event, gave, ended, missing, past, marked, completed, numbers_with, is_end_there, is_there}
use Rattle.round.specs.Actions.{kept, each, at_start}
use Rattle.round.specs.Jumps.{past_partner, opening_before, from_end}
use Rattle.round.specs.Ticks.{waits_for, tick_of, tick, effect_on}
use Rattle.round.specs.Rounds.{Ticks, ticks, most_ticks, all_done, ticks_of, turn, pass, instant, round}
use Rattle.round.specs.Answers.{marks_in, written, round_verdict, Answer, answer}

-- a book's game from set-up
abbrev pub from_set_up : List ℕ → Game
from_set_up b = new_game (counts_of b)

-- the game of T3 before its second round, in which it leaves its mark
abbrev pub after_one : Game
after_one = (answer t3 (from_set_up t3) (pos 0 ∷ pos 0 ∷ [])).game

-- "the place on the step that follows it in the book": if counter 0 equals 0, rest; else, rest
abbrev pub rests_in_both : List ℕ
rests_in_both = one_routine (if 0 equal (pos 0) ∷ rest ∷ else ∷ rest ∷ end ∷ [])

-- one whose blocks leave the same to be run behind the rest: if counter 0 equals 0, rest, mark 1; else, rest, mark 1
abbrev pub marks_in_both : List ℕ
marks_in_both = one_routine (if 0 equal (pos 0) ∷ rest ∷ mark (pos 1) ∷ else ∷ rest ∷ mark (pos 1) ∷ end ∷ [])

-- a buffer for the marks of two mark steps
abbrev pub room_for_two : List ℤ
room_for_two = pos 0 ∷ pos 0 ∷ pos 0 ∷ pos 0 ∷ []

-- "an if that rests in one block": while counter 0 equals 0, if it equals 1, rest; else, nothing
abbrev pub rests_in_one : List ℕ
rests_in_one = one_routine (while 0 equal (pos 0) ∷ if 0 equal (pos 1) ∷ rest ∷ else ∷ end ∷ end ∷ [])

-- the steps that its routine would take in a turn, if it were accepted
abbrev pub steps_on : Ticks
steps_on = ticks_of rests_in_one 0 (at_start (from_set_up rests_in_one))

pub record Example : Type 0 where
  pub book : List ℕ
  pub game : Game
  pub buffer : List ℤ
  pub answer : Answer

-- a call that is turned down, and told this
abbrev pub refused_with : List ℕ → Game → List ℤ → ℕ → Example
refused_with book g buffer number =
    record {
      book = book;
      game = g;
      buffer = buffer;
      answer = record { verdict = refused number 0; game = g; passes = 0; marks = 0; lost = 0; buffer = buffer };
    }

-- an empty book is told before all else, an endless while before a game that does not fit, and that before a short buffer; one mark step
-- asks for two numbers
abbrev pub examples : List Example
examples =
    refused_with [] blank_game [] 1
    ∷ refused_with rests_in_one blank_game [] 7
    ∷ refused_with t3 blank_game [] 9
    ∷ refused_with t3 (from_set_up t3) [] 10
    ∷ refused_with t3 (from_set_up t3) (pos 5 ∷ []) 10
    ∷ []

-- the trace of T3's first round: routine 0 starts routine 1, and misses its signal in both passes
abbrev pub first_trace : List Event
first_trace = completed 0 0 ∷ missing 0 1 (signal 0) ∷ missing 0 1 (signal 0) ∷ []

-- the trace of T3's second round, and how each turn came out: routine 0 waits, routine 1 signals and ends, routine 0 goes past, marks and
-- ends, and routine 1 is passed over
abbrev pub events : List Event
events =
    missing 0 1 (signal 0) ∷ completed 1 0 ∷ gave 0 0 ∷ ended 1
    ∷ completed 0 1 ∷ past 0 1 (signal 0) ∷ completed 0 2 ∷ marked 0 (pos 7) ∷ ended 0
    ∷ []

abbrev pub turns : List (Option Ending)
turns = Some Continued ∷ Some Ended ∷ Some Ended ∷ None ∷ []

-- and in an accepted round the mark (0, 7) stands at the buffer's start, and what is beyond it stays; a rest at the end of a first block
-- leaves the place on the else, and one inside it in the block that was taken; and the steps of the while that does not pause run out, none
-- of them the last
pub as_told :
    (map (λ e. answer e.book e.game e.buffer) examples ≡ map (λ e. e.answer) examples)
    × ((round t3 (from_set_up t3)).played.trace ≡ first_trace)
    × ((round t3 after_one).played.trace ≡ events)
    × ((round t3 after_one).played.turns ≡ turns)
    × ((answer t3 after_one (pos 5 ∷ pos 6 ∷ pos 8 ∷ [])).buffer ≡ pos 0 ∷ pos 7 ∷ pos 8 ∷ [])
    × ((routine_at (answer rests_in_both (from_set_up rests_in_both) []).game 0).place ≡ 2)
    × ((routine_at (answer marks_in_both (from_set_up marks_in_both) room_for_two).game 0).place ≡ 2)
    × (steps_on.ending ≡ Continued)
    × (length steps_on.trace ≡ most_ticks (routine_steps rests_in_one 0))
unfolding answer round_verdict written marks_in sum_below round instant pass turn all_done ticks effect_on tick tick_of waits_for from_end
    opening_before past_partner at_start each kept appended is_there is_end_there numbers_with new_game blank_game with_start is_sized fits_book
    routine_fits slot_fits entry_fits line_fits counters_fit signals_fit is_in all_below any_below book_verdict layout_verdict directory_verdict
    steps_verdict nesting_verdict pausing_verdict routine_walk routine_part routine_of step_of block_by partner_of view_at step_at decoded row_of
    steps_before first_refusal directory
as_told = (refl, refl, refl, refl, refl, refl, refl, refl, refl)
