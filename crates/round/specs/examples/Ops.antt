-- Each of the 21 ops carried out, by steps and, where there is one, by an order: one table, and one claim, proved by evaluation. Books are
-- written by op and fields, and what is seen of each round is stated by hand from the documents' sentences. So two ops that were exchanged
-- in the definitions and the relation together would still be found here.
use Rattle.std.specs.Prelude.{ℕ, ◌+◌, ◌≡◌, refl, true, List, [], ◌∷◌, ◌++◌, map, ℤ, pos, neg_ℤ}
use Rattle.std.proofs.Math.ListN as list
use Rattle.kinds.specs.Steps.{row_of, decoded, step_at}
use Rattle.blocks.specs.Blocks.{view_at, block_by, step_of, routine_of}
use Rattle.partners.specs.Partners.{partner_of}
use Rattle.verdicts.specs.Verdicts.{first_refusal}
use Rattle.layout.specs.Layout.{layout_verdict}
use Rattle.directory.specs.Directory.{steps_before, directory_verdict, routine_part}
use Rattle.book.specs.Book.{steps_verdict, routine_walk, nesting_verdict, pausing_verdict, book_verdict}
use Rattle.book.specs.Written.{equal, less, greater, mark, set, add, take, signal, signal_number, rest, rest_for, wait, wait_for, join}
use Rattle.book.specs.Written.{join_for, read, start, stop, suspend, resume, if, else, while, end, directory, book}
use Rattle.game.specs.declared.Routine.{Routine}
use Rattle.game.specs.declared.Game.{Game}
use Rattle.numbers.specs.Counting.{any_below, sum_below}
use Rattle.lines.specs.Lines.{is_in, appended}
use Rattle.game.specs.Game.{not_started, continuing, rested, ended, stopped, blank, blank_game, with_stop, with_suspend, with_resume, with_start}
use Rattle.setup.specs.SetUp.{new_game, set_up}
use Rattle.orders.specs.Orders.{obeyed}
use Rattle.round.specs.State.{numbers_with, is_end_there, is_there}
use Rattle.round.specs.Actions.{kept, each, placed, with_suspended, at_start}
use Rattle.round.specs.Jumps.{past_partner, opening_before, from_end}
use Rattle.round.specs.Ticks.{fresh, begun_at, waits_for, tick_of, tick, effect_on}
use Rattle.round.specs.Rounds.{ticks, all_done, turn, pass, instant, PlayedRound, round}
use Rattle.round.specs.Answers.{marks_in}

-- what is seen of a round: its passes, its marks, each a routine and a number, what was cut off, and behind it the routines and the
-- counters of the book
pub record OpsSeen : Type 0 where
  pub passes : ℕ
  pub marks : List (ℕ × ℤ)
  pub lost : ℕ
  pub routines : List Routine
  pub counters : List ℤ

-- what is done: a round is played, and this is seen of it; an order of this kind and number is given
pub data OpsCall : Type 0 where
  played : OpsSeen → OpsCall
  order : ℕ → ℕ → OpsCall

-- a book, and what is done from set-up on
pub record OpsRow : Type 0 where
  pub book : List ℕ
  pub done : List OpsCall

abbrev pub ops_seen : PlayedRound → OpsSeen
ops_seen p =
    let g = p.played.state.game in
    record {
      passes = p.passes;
      marks = marks_in p.played.trace;
      lost = p.played.state.lost;
      routines = list.take g.counts.routines g.routines;
      counters = list.take g.counts.counters g.counters;
    }

-- the same by the definitions, from game g on; a game from set-up passes the checks of rounds and orders, so they are left out
unfoldable pub done_from : List ℕ → List OpsCall → Game → List OpsCall
done_from book [] g = []
done_from book (played _ ∷ others) g =
    let p = round book g in
    played (ops_seen p) ∷ done_from book others p.played.state.game
done_from book (order kind n ∷ others) g = order kind n ∷ done_from book others (obeyed g kind n)

-- a refused book would leave the blank game, which has no routines
abbrev pub carried_out : OpsRow → OpsRow
carried_out row = record { book = row.book; done = done_from row.book row.done (set_up row.book blank_game).game }

-- a round that cuts so much off, of so many passes, with these marks, that leaves these routines and counters; and one that cuts off
-- nothing
abbrev pub cuts_off : ℕ → ℕ → List (ℕ × ℤ) → List Routine → List ℤ → OpsCall
cuts_off lost passes marks routines counters =
    played (record { passes = passes; marks = marks; lost = lost; routines = routines; counters = counters })

abbrev pub gives : ℕ → List (ℕ × ℤ) → List Routine → List ℤ → OpsCall
gives = cuts_off 0

-- a routine in this stage at this place, not suspended and in no set; one that rests on its timed step with this count left
abbrev pub at : ℕ → ℕ → Routine
at stage p = placed blank stage (fresh p)

abbrev pub begun : ℕ → ℕ → Routine
begun p left = placed blank rested (begun_at p left)

abbrev pub suspended_one : Routine → Routine
suspended_one x = with_suspended x true

abbrev pub minus : ℕ → ℤ
minus n = neg_ℤ (pos n)

-- "0 mark .. writes a mark: routine, n", "1 set, 2 add .. counter becomes n; n is added", "3 take .. b's content is added to a", "An
-- addition beyond an end gives that end."
abbrev pub counting : OpsRow
counting =
    record {
      book =
          book 0 4 (
          (set 0 (pos 5) ∷ add 0 (minus 8)
          ∷ set 1 (pos 10) ∷ take 1 0
          ∷ set 2 (pos 999999) ∷ add 2 (pos 2)
          ∷ set 3 (minus 999999) ∷ take 3 0
          ∷ mark (minus 4)
          ∷ [])
          ∷ []
          );
      done = cuts_off 3 1 ((0, minus 4) ∷ []) (at ended 9 ∷ []) (minus 3 ∷ pos 7 ∷ pos 1000000 ∷ minus 1000000 ∷ []) ∷ [];
    }

-- Document 02: "The addition itself now tells, besides its sum, the distance between the true sum and the one given. The round's answer
-- carries the total of these over all additions of the round". In round 2 routine 0 adds 5 to 999,998 and waits; routine 1 adds −4 to
-- −1,000,000, and to itself, which stays in range; and in the second pass routine 0 adds 1 to an end. Round 1 cuts off nothing, and round 3
-- as much as two additions to an end do.
abbrev pub cutting : OpsRow
cutting =
    record {
      book =
          book 1 3 (
          (start 1 ∷ set 0 (pos 999998) ∷ rest
          ∷ add 0 (pos 5) ∷ wait 0 ∷ add 0 (pos 1) ∷ rest
          ∷ add 0 (pos 1000000) ∷ add 0 (pos 7)
          ∷ [])
          ∷ (set 1 (minus 1000000) ∷ set 2 (minus 4) ∷ take 1 2 ∷ take 2 2 ∷ signal 0 ∷ [])
          ∷ []
          );
      done =
          cuts_off 0 1 [] (at rested 3 ∷ at not_started 0 ∷ []) (pos 999998 ∷ pos 0 ∷ pos 0 ∷ [])
          ∷ cuts_off 8 2 [] (at rested 7 ∷ at ended 5 ∷ []) (pos 1000000 ∷ minus 1000000 ∷ minus 8 ∷ [])
          ∷ cuts_off 1000007 1 [] (at ended 9 ∷ at ended 5 ∷ []) (pos 1000000 ∷ minus 1000000 ∷ minus 8 ∷ [])
          ∷ [];
    }

-- "5 signal with number .. rule 13, with b's content", "12 read .. rules 30 to 32; the k-th number goes to b": signal 0 gets the numbers
-- 11 and 33 and no third, signal 1 gets 22, and a signal by op 4 has no number. The signals set the move flag, so the third pass is the
-- first with eoi set; "a reading that stayed missing, leaves the place on the step that follows it in the book".
abbrev pub reading : OpsRow
reading =
    record {
      book =
          book 2 3 (
          (set 0 (pos 11) ∷ signal_number 0 0
          ∷ set 0 (pos 22) ∷ signal_number 1 0
          ∷ signal 0
          ∷ set 0 (pos 33) ∷ signal_number 0 0
          ∷ read 0 1 (pos 2) ∷ read 1 2 (pos 1) ∷ read 0 0 (pos 3)
          ∷ mark (pos 6)
          ∷ [])
          ∷ []
          );
      done =
          gives 3 [] (at rested 10 ∷ []) (pos 33 ∷ pos 33 ∷ pos 22 ∷ [])
          ∷ gives 1 ((0, pos 6) ∷ []) (at ended 11 ∷ []) (pos 33 ∷ pos 33 ∷ pos 22 ∷ [])
          ∷ [];
    }

-- "4 signal .. rule 12", "8 wait .. rules 14 to 16", and of orders "0 broadcast a signal": signal 0 is there, and signal 1 is missing until
-- it is broadcast; "every other pause leaves it on its own step".
abbrev pub waiting : OpsRow
waiting =
    record {
      book = book 2 0 ((signal 0 ∷ wait 0 ∷ wait 1 ∷ mark (pos 3) ∷ []) ∷ []);
      done =
          gives 3 [] (at rested 2 ∷ []) []
          ∷ gives 2 [] (at rested 2 ∷ []) []
          ∷ order 0 1
          ∷ gives 1 ((0, pos 3) ∷ []) (at ended 4 ∷ []) []
          ∷ [];
    }

-- "9 wait n .. rules 25 to 27": past at once with n below 0; past in the third round with n = 2 and no signal; past with a count left once
-- the signal is there. "Begun is set when op 7, 9 or 11 pauses, and cleared when that step is past."
abbrev pub waiting_for : OpsRow
waiting_for =
    record {
      book =
          book 1 0 ((wait_for 0 (minus 1) ∷ wait_for 0 (pos 2) ∷ mark (pos 1) ∷ wait_for 0 (pos 2) ∷ mark (pos 2) ∷ []) ∷ []);
      done =
          gives 2 [] (begun 1 1 ∷ []) []
          ∷ gives 2 [] (begun 1 0 ∷ []) []
          ∷ gives 2 ((0, pos 1) ∷ []) (begun 3 1 ∷ []) []
          ∷ order 0 0
          ∷ gives 1 ((0, pos 2) ∷ []) (at ended 5 ∷ []) []
          ∷ [];
    }

-- "6 rest, 7 rest n .. rules 11; 23, 24": past at once with n = 0 and n below 0, and in the third round with n = 2. Op 6 "leaves the place
-- on the step that follows it in the book", here the else, and "A place on an else stands for the end of the first block".
abbrev pub resting : OpsRow
resting =
    record {
      book =
          book 0 1 (
          (rest_for (pos 0) ∷ rest_for (minus 1) ∷ mark (pos 1) ∷ rest_for (pos 2) ∷ mark (pos 2)
          ∷ if 0 equal (pos 0) ∷ rest ∷ else ∷ mark (pos 3) ∷ end
          ∷ mark (pos 4)
          ∷ [])
          ∷ []
          );
      done =
          gives 1 ((0, pos 1) ∷ []) (begun 3 1 ∷ []) (pos 0 ∷ [])
          ∷ gives 1 [] (begun 3 0 ∷ []) (pos 0 ∷ [])
          ∷ gives 1 ((0, pos 2) ∷ []) (at rested 7 ∷ []) (pos 0 ∷ [])
          ∷ gives 1 ((0, pos 4) ∷ []) (at ended 11 ∷ []) (pos 0 ∷ [])
          ∷ [];
    }

-- "10 join, 11 join n .. rules 17, 18; 28, 29": join 1 for 0 is past at once, join 1 for 1 in its second round, though routine 1 goes on;
-- join 1 for 2 and join 2 are past in the rounds in which routines 1 and 2 end, rounds 3 and 4.
abbrev pub joining : OpsRow
joining =
    record {
      book =
          book 0 0 (
          (start 1 ∷ start 2
          ∷ join_for 1 (pos 0) ∷ join_for 1 (pos 1) ∷ mark (pos 1)
          ∷ join_for 1 (pos 2) ∷ mark (pos 2)
          ∷ join 2 ∷ mark (pos 3)
          ∷ [])
          ∷ (rest ∷ [])
          ∷ (rest_for (pos 2) ∷ [])
          ∷ []
          );
      done =
          gives 2 [] (begun 3 0 ∷ at not_started 0 ∷ at not_started 0 ∷ []) []
          ∷ gives 2 ((0, pos 1) ∷ []) (begun 5 1 ∷ at rested 1 ∷ begun 0 1 ∷ []) []
          ∷ gives 3 ((0, pos 2) ∷ []) (at rested 7 ∷ at ended 1 ∷ begun 0 0 ∷ []) []
          ∷ gives 2 ((0, pos 3) ∷ []) (at ended 9 ∷ at ended 1 ∷ at ended 1 ∷ []) []
          ∷ [];
    }

-- Document 02: "a routine that was stopped counts as ended for joins, at any later time. .. Only a routine given stage 4 counts; a stop of
-- one never started still gives just its end signal for that round, and it may be started later." Routine 2 is stopped before it is
-- started: join 2 is past in round 2 and waits in round 4, until routine 2 has started and ended in round 5. Routine 1 gets stage 4 in
-- round 3, and is suspended too: both joins of it are past in round 4.
abbrev pub joining_stopped : OpsRow
joining_stopped =
    record {
      book =
          book 0 0 (
          (start 1 ∷ stop 2 ∷ rest
          ∷ join 2 ∷ mark (pos 1) ∷ stop 1 ∷ suspend 1 ∷ rest
          ∷ rest
          ∷ join 1 ∷ join_for 1 (pos 2) ∷ mark (pos 2)
          ∷ start 2 ∷ join 2 ∷ mark (pos 3)
          ∷ [])
          ∷ (rest_for (pos 9) ∷ [])
          ∷ []
          ∷ []
          );
      done =
          gives 1 [] (at rested 3 ∷ at not_started 0 ∷ with_stop (at not_started 0) ∷ []) []
          ∷ gives 1 ((0, pos 1) ∷ []) (at rested 8 ∷ with_suspend (with_stop (begun 0 8)) ∷ at not_started 0 ∷ []) []
          ∷ gives 1 [] (at rested 9 ∷ suspended_one (placed blank stopped (begun_at 0 8)) ∷ at not_started 0 ∷ []) []
          ∷ gives 2 ((0, pos 2) ∷ []) (at rested 13 ∷ suspended_one (placed blank stopped (begun_at 0 8)) ∷ at not_started 0 ∷ []) []
          ∷ gives 2 ((0, pos 3) ∷ []) (at ended 15 ∷ suspended_one (placed blank stopped (begun_at 0 8)) ∷ at ended 0 ∷ []) []
          ∷ [];
    }

-- a routine that marks once in each round in which it has a turn
abbrev pub marks_on : List (List ℕ)
marks_on = while 0 equal (pos 0) ∷ mark (pos 5) ∷ rest ∷ end ∷ []

-- "13 start, 14 stop, 15 suspend, 16 resume .. rules 19 to 22": routine 0 takes one a round, and it holds from the next round on. A routine
-- that is suspended has no turn (rule 33); "Starting gives stage 1. Stopping gives stage 4 to a listed routine in stage 1 or 2".
abbrev pub by_steps : OpsRow
by_steps =
    record {
      book = book 0 1 ((start 1 ∷ rest ∷ suspend 1 ∷ rest ∷ resume 1 ∷ rest ∷ stop 1 ∷ rest ∷ []) ∷ marks_on ∷ []);
      done =
          gives 1 [] (at rested 2 ∷ at not_started 0 ∷ []) (pos 0 ∷ [])
          ∷ gives 1 ((1, pos 5) ∷ []) (at rested 4 ∷ with_suspend (at rested 3) ∷ []) (pos 0 ∷ [])
          ∷ gives 1 [] (at rested 6 ∷ with_resume (suspended_one (at continuing 3)) ∷ []) (pos 0 ∷ [])
          ∷ gives 1 ((1, pos 5) ∷ []) (at rested 8 ∷ with_stop (at rested 3) ∷ []) (pos 0 ∷ [])
          ∷ gives 1 [] (at ended 8 ∷ at stopped 3 ∷ []) (pos 0 ∷ [])
          ∷ [];
    }

-- "Outside orders, by kind: 0 broadcast a signal, 1 start, 2 stop, 3 suspend, 4 resume. Each joins its list for the next round.": the
-- same of routine 1; with both at once, "a resume comes before a suspend".
abbrev pub by_orders : OpsRow
by_orders =
    record {
      book = book 0 1 ([] ∷ marks_on ∷ []);
      done =
          order 1 1
          ∷ gives 1 ((1, pos 5) ∷ []) (at ended 0 ∷ at rested 3 ∷ []) (pos 0 ∷ [])
          ∷ order 3 1
          ∷ gives 1 [] (at ended 0 ∷ suspended_one (at continuing 3) ∷ []) (pos 0 ∷ [])
          ∷ order 3 1 ∷ order 4 1
          ∷ gives 1 [] (at ended 0 ∷ suspended_one (at continuing 3) ∷ []) (pos 0 ∷ [])
          ∷ order 4 1
          ∷ gives 1 ((1, pos 5) ∷ []) (at ended 0 ∷ at rested 3 ∷ []) (pos 0 ∷ [])
          ∷ order 2 1
          ∷ gives 1 [] (at ended 0 ∷ at stopped 3 ∷ []) (pos 0 ∷ [])
          ∷ [];
    }

-- counter 0 against 0, in an if with both blocks and in one without the second: marks m or m + 1, and m + 2 or nothing
abbrev pub ifs : ℕ → ℕ → List (List ℕ)
ifs relation m =
    if 0 relation (pos 0) ∷ mark (pos m) ∷ else ∷ mark (pos (m + 1)) ∷ end
    ∷ if 0 relation (pos 0) ∷ mark (pos (m + 2)) ∷ end
    ∷ []

-- "17 if .. b relation (0 equal, 1 less, 2 greater), n .. counter against n", "an if one or two (a missing second does nothing)": counter 0
-- is −1, 0 and 1 in rounds 1 to 3.
abbrev pub testing : OpsRow
testing =
    record {
      book =
          book 0 1 (
          (set 0 (minus 1) ∷ while 0 less (pos 2) ∷ ifs equal 1 ++ ifs less 4 ++ ifs greater 7 ++ rest ∷ add 0 (pos 1) ∷ end ∷ [])
          ∷ []
          );
      done =
          gives 1 ((0, pos 2) ∷ (0, pos 4) ∷ (0, pos 6) ∷ (0, pos 8) ∷ []) (at rested 27 ∷ []) (minus 1 ∷ [])
          ∷ gives 1 ((0, pos 1) ∷ (0, pos 3) ∷ (0, pos 5) ∷ (0, pos 8) ∷ []) (at rested 27 ∷ []) (pos 0 ∷ [])
          ∷ gives 1 ((0, pos 2) ∷ (0, pos 5) ∷ (0, pos 7) ∷ (0, pos 9) ∷ []) (at rested 27 ∷ []) (pos 1 ∷ [])
          ∷ [];
    }

-- counter 0 against n, in a while that marks m, adds to the counter and rests
abbrev pub loop : ℕ → ℤ → ℤ → ℕ → List (List ℕ)
loop relation n by m = while 0 relation n ∷ mark (pos m) ∷ add 0 by ∷ rest ∷ end ∷ []

-- "19 while .. counter against n", "A place .. on a while's end for its next test": each of three tests holds once, and then no more.
abbrev pub looping : OpsRow
looping =
    record {
      book = book 0 1 ((loop equal (pos 0) (pos 1) 1 ++ loop less (pos 2) (pos 1) 2 ++ loop greater (pos 1) (minus 1) 3) ∷ []);
      done =
          gives 1 ((0, pos 1) ∷ []) (at rested 4 ∷ []) (pos 1 ∷ [])
          ∷ gives 1 ((0, pos 2) ∷ []) (at rested 9 ∷ []) (pos 2 ∷ [])
          ∷ gives 1 ((0, pos 3) ∷ []) (at rested 14 ∷ []) (pos 1 ∷ [])
          ∷ gives 1 [] (at ended 15 ∷ []) (pos 1 ∷ [])
          ∷ [];
    }

abbrev pub ops_table : List OpsRow
ops_table =
    counting ∷ cutting ∷ reading ∷ waiting ∷ waiting_for ∷ resting
    ∷ joining ∷ joining_stopped ∷ by_steps ∷ by_orders ∷ testing ∷ looping
    ∷ []

pub as_played : map carried_out ops_table ≡ ops_table
unfolding done_from obeyed marks_in sum_below round instant pass turn all_done ticks effect_on tick tick_of waits_for from_end opening_before
    past_partner at_start each kept appended is_there is_end_there numbers_with set_up new_game with_start is_in any_below book_verdict layout_verdict
    directory_verdict steps_verdict nesting_verdict pausing_verdict routine_walk routine_part routine_of step_of block_by partner_of view_at step_at
    decoded row_of steps_before first_refusal directory
as_played = refl
