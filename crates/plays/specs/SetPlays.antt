-- The set plays T1 to T11 of document 01, T10 as document 02 has it, from the books' bytes: one table, and one claim, proved by evaluation.
use Rattle.std.specs.Prelude.{ℕ, ◌*◌, ◌≡◌, refl, List, [], ◌∷◌, map, take, replicate, ℤ, pos, negsuc}
use Rattle.kinds.specs.Steps.{row_of, decoded, step_at}
use Rattle.blocks.specs.Blocks.{view_at, block_by, step_of, routine_of}
use Rattle.partners.specs.Partners.{partner_of}
use Rattle.verdicts.specs.declared.Verdict.{Verdict}
use Rattle.verdicts.specs.Verdicts.{accepted, first_refusal}
use Rattle.layout.specs.Layout.{layout_verdict}
use Rattle.directory.specs.Directory.{steps_before, directory_verdict, routine_part}
use Rattle.book.specs.Book.{steps_verdict, routine_walk, nesting_verdict, pausing_verdict, book_verdict}
use Rattle.book.specs.Examples as document
use Rattle.game.specs.declared.Game.{Game}
use Rattle.numbers.specs.Counting.{all_below, any_below, sum_below}
use Rattle.lines.specs.Lines.{is_in, entries_of, appended}
use Rattle.game.specs.Game.{blank_game, with_start}
use Rattle.fitting.specs.Arrays.{entry_fits, line_fits, counters_fit, signals_fit}
use Rattle.fitting.specs.Routines.{routine_fits, slot_fits}
use Rattle.fitting.specs.Fitting.{is_sized, fits_book}
use Rattle.setup.specs.SetUp.{new_game, set_up}
use Rattle.round.specs.State.{numbers_with, is_end_there, is_there}
use Rattle.round.specs.Actions.{kept, each, at_start}
use Rattle.round.specs.Jumps.{past_partner, opening_before, from_end}
use Rattle.round.specs.Ticks.{waits_for, tick_of, tick, effect_on}
use Rattle.round.specs.Rounds.{ticks, all_done, turn, pass, instant, round}
use Rattle.round.specs.Answers.{marks_in, numbers_per_mark, written, round_verdict, Answer, answer}

-- what is seen of a round: its answer, its passes, its marks as they stand in the buffer, what it cut off, and the stages and the playing
-- order behind it
pub record Seen : Type 0 where
  pub verdict : Verdict
  pub passes : ℕ
  pub marks : List ℤ
  pub lost : ℕ
  pub stages : List ℕ
  pub listed : List ℕ

-- an accepted round that cut so much off, and one that cut off nothing
abbrev pub cuts_off : ℕ → ℕ → List ℤ → List ℕ → List ℕ → Seen
cuts_off lost passes marks stages listed =
    record { verdict = accepted; passes = passes; marks = marks; lost = lost; stages = stages; listed = listed }

abbrev pub seen : ℕ → List ℤ → List ℕ → List ℕ → Seen
seen = cuts_off 0

-- a book, what is seen of its first rounds from set-up on, and the counters behind them
pub record SetPlay : Type 0 where
  pub book : List ℕ
  pub rounds : List Seen
  pub counters : List ℤ

abbrev pub seen_in : Answer → Seen
seen_in a =
    record {
      verdict = a.verdict;
      passes = a.passes;
      marks = take (numbers_per_mark * a.marks) a.buffer;
      lost = a.lost;
      stages = take a.game.counts.routines (map (λ x. x.stage) a.game.routines);
      listed = entries_of a.game.listed;
    }

-- the next round of a book, with a buffer for one mark
abbrev pub next_round : List ℕ → Game → Answer
next_round book g = answer book g (replicate numbers_per_mark (pos 0))

-- as many rounds of a play as are listed, from game g on
unfoldable pub played_from : SetPlay → List Seen → Game → SetPlay
played_from t [] g = record { book = t.book; rounds = []; counters = take g.counts.counters g.counters }
played_from t (_ ∷ others) g =
    let a = next_round t.book g in
    let rest = played_from t others a.game in
    record { book = t.book; rounds = seen_in a ∷ rest.rounds; counters = rest.counters }

abbrev pub played : SetPlay → SetPlay
played t = played_from t t.rounds (set_up t.book blank_game).game

-- T1 "A routine without steps: it ends in round 1, 1 pass; round 2 has an empty list, 1 pass."
abbrev pub t1 : SetPlay
t1 =
    record {
      book =
          -- header
          1 ∷ 0 ∷ 0 ∷ 0 ∷ 0 ∷ 0 ∷ 0 ∷ 0 ∷ 12 ∷ 0 ∷ 16 ∷ 0
          -- directory
          ∷ 0 ∷ 0 ∷ 0 ∷ 0
          ∷ [];
      rounds =
          seen 1 [] (3 ∷ []) (0 ∷ [])
          ∷ seen 1 [] (3 ∷ []) []
          ∷ [];
      counters = [];
    }

-- T2 "rest: rests in round 1, ends in round 2, 1 pass each."
abbrev pub t2 : SetPlay
t2 =
    record {
      book =
          -- header
          1 ∷ 0 ∷ 1 ∷ 0 ∷ 0 ∷ 0 ∷ 0 ∷ 0 ∷ 12 ∷ 0 ∷ 16 ∷ 0
          -- directory
          ∷ 0 ∷ 0 ∷ 1 ∷ 0
          -- routine 0: rest
          ∷ 6 ∷ 0 ∷ 0 ∷ 0 ∷ 0 ∷ 0 ∷ 0 ∷ 0
          ∷ [];
      rounds =
          seen 1 [] (2 ∷ []) (0 ∷ [])
          ∷ seen 1 [] (3 ∷ []) (0 ∷ [])
          ∷ [];
      counters = [];
    }

-- T3 "routine 0: start 1, wait s0, mark 7; routine 1: signal s0. Round 1: 2 passes. Round 2: 2 passes, mark (0, 7)."
abbrev pub t3 : SetPlay
t3 =
    record {
      book = document.t3;
      rounds =
          seen 2 [] (2 ∷ 0 ∷ []) (0 ∷ [])
          ∷ seen 2 (pos 0 ∷ pos 7 ∷ []) (3 ∷ 3 ∷ []) (0 ∷ 1 ∷ [])
          ∷ [];
      counters = [];
    }

-- T4 "routine 0: start 1, rest, signal s0; routine 1: wait s0, mark 3. Round 2: 1 pass, mark (1, 3)."
abbrev pub t4 : SetPlay
t4 =
    record {
      book =
          -- header
          2 ∷ 0 ∷ 5 ∷ 0 ∷ 1 ∷ 0 ∷ 0 ∷ 0 ∷ 12 ∷ 0 ∷ 20 ∷ 0
          -- directory
          ∷ 0 ∷ 0 ∷ 3 ∷ 0 ∷ 3 ∷ 0 ∷ 2 ∷ 0
          -- routine 0: start 1
          ∷ 13 ∷ 1 ∷ 0 ∷ 0 ∷ 0 ∷ 0 ∷ 0 ∷ 0
          -- routine 0: rest
          ∷ 6 ∷ 0 ∷ 0 ∷ 0 ∷ 0 ∷ 0 ∷ 0 ∷ 0
          -- routine 0: signal s0
          ∷ 4 ∷ 0 ∷ 0 ∷ 0 ∷ 0 ∷ 0 ∷ 0 ∷ 0
          -- routine 1: wait s0
          ∷ 8 ∷ 0 ∷ 0 ∷ 0 ∷ 0 ∷ 0 ∷ 0 ∷ 0
          -- routine 1: mark 3
          ∷ 0 ∷ 0 ∷ 0 ∷ 0 ∷ 3 ∷ 0 ∷ 0 ∷ 0
          ∷ [];
      rounds =
          seen 1 [] (2 ∷ 0 ∷ []) (0 ∷ [])
          ∷ seen 1 (pos 1 ∷ pos 3 ∷ []) (3 ∷ 3 ∷ []) (0 ∷ 1 ∷ [])
          ∷ [];
      counters = [];
    }

-- T5 "routine 0: start 1, rest, wait s0, signal s1; routine 1: signal s0, wait s1, mark 5. Round 2: 2 passes."
abbrev pub t5 : SetPlay
t5 =
    record {
      book =
          -- header
          2 ∷ 0 ∷ 7 ∷ 0 ∷ 2 ∷ 0 ∷ 0 ∷ 0 ∷ 12 ∷ 0 ∷ 20 ∷ 0
          -- directory
          ∷ 0 ∷ 0 ∷ 4 ∷ 0 ∷ 4 ∷ 0 ∷ 3 ∷ 0
          -- routine 0: start 1
          ∷ 13 ∷ 1 ∷ 0 ∷ 0 ∷ 0 ∷ 0 ∷ 0 ∷ 0
          -- routine 0: rest
          ∷ 6 ∷ 0 ∷ 0 ∷ 0 ∷ 0 ∷ 0 ∷ 0 ∷ 0
          -- routine 0: wait s0
          ∷ 8 ∷ 0 ∷ 0 ∷ 0 ∷ 0 ∷ 0 ∷ 0 ∷ 0
          -- routine 0: signal s1
          ∷ 4 ∷ 1 ∷ 0 ∷ 0 ∷ 0 ∷ 0 ∷ 0 ∷ 0
          -- routine 1: signal s0
          ∷ 4 ∷ 0 ∷ 0 ∷ 0 ∷ 0 ∷ 0 ∷ 0 ∷ 0
          -- routine 1: wait s1
          ∷ 8 ∷ 1 ∷ 0 ∷ 0 ∷ 0 ∷ 0 ∷ 0 ∷ 0
          -- routine 1: mark 5
          ∷ 0 ∷ 0 ∷ 0 ∷ 0 ∷ 5 ∷ 0 ∷ 0 ∷ 0
          ∷ [];
      rounds =
          seen 1 [] (2 ∷ 0 ∷ []) (0 ∷ [])
          ∷ seen 2 (pos 1 ∷ pos 5 ∷ []) (3 ∷ 3 ∷ []) (0 ∷ 1 ∷ [])
          ∷ [];
      counters = [];
    }

-- T6 "wait s0 for 1, mark 9: round 1 has 2 passes, round 2 has 1 and the mark."
abbrev pub t6 : SetPlay
t6 =
    record {
      book =
          -- header
          1 ∷ 0 ∷ 2 ∷ 0 ∷ 1 ∷ 0 ∷ 0 ∷ 0 ∷ 12 ∷ 0 ∷ 16 ∷ 0
          -- directory
          ∷ 0 ∷ 0 ∷ 2 ∷ 0
          -- routine 0: wait s0 for 1
          ∷ 9 ∷ 0 ∷ 0 ∷ 0 ∷ 1 ∷ 0 ∷ 0 ∷ 0
          -- routine 0: mark 9
          ∷ 0 ∷ 0 ∷ 0 ∷ 0 ∷ 9 ∷ 0 ∷ 0 ∷ 0
          ∷ [];
      rounds =
          seen 2 [] (2 ∷ []) (0 ∷ [])
          ∷ seen 1 (pos 0 ∷ pos 9 ∷ []) (3 ∷ []) (0 ∷ [])
          ∷ [];
      counters = [];
    }

-- T7 "read s0, k = 1, into counter 0, with no number given: 2 passes, then ended in round 2, counter still 0."
abbrev pub t7 : SetPlay
t7 =
    record {
      book =
          -- header
          1 ∷ 0 ∷ 1 ∷ 0 ∷ 1 ∷ 0 ∷ 1 ∷ 0 ∷ 12 ∷ 0 ∷ 16 ∷ 0
          -- directory
          ∷ 0 ∷ 0 ∷ 1 ∷ 0
          -- routine 0: read s0, k = 1, into counter 0
          ∷ 12 ∷ 0 ∷ 0 ∷ 0 ∷ 1 ∷ 0 ∷ 0 ∷ 0
          ∷ [];
      rounds =
          seen 2 [] (2 ∷ []) (0 ∷ [])
          ∷ seen 1 [] (3 ∷ []) (0 ∷ [])
          ∷ [];
      counters = pos 0 ∷ [];
    }

-- T8 "routine 0: start 1; routine 1: wait s0. Round 2 takes 2 passes, not 3."
abbrev pub t8 : SetPlay
t8 =
    record {
      book =
          -- header
          2 ∷ 0 ∷ 2 ∷ 0 ∷ 1 ∷ 0 ∷ 0 ∷ 0 ∷ 12 ∷ 0 ∷ 20 ∷ 0
          -- directory
          ∷ 0 ∷ 0 ∷ 1 ∷ 0 ∷ 1 ∷ 0 ∷ 1 ∷ 0
          -- routine 0: start 1
          ∷ 13 ∷ 1 ∷ 0 ∷ 0 ∷ 0 ∷ 0 ∷ 0 ∷ 0
          -- routine 1: wait s0
          ∷ 8 ∷ 0 ∷ 0 ∷ 0 ∷ 0 ∷ 0 ∷ 0 ∷ 0
          ∷ [];
      rounds =
          seen 1 [] (3 ∷ 0 ∷ []) (0 ∷ [])
          ∷ seen 2 [] (3 ∷ 2 ∷ []) (1 ∷ [])
          ∷ [];
      counters = [];
    }

-- T9 "routine 0: start 1, rest, stop 1, join 1, mark 4; routine 1: while counter 0 equals 0, rest. Mark in round 3."
abbrev pub t9 : SetPlay
t9 =
    record {
      book =
          -- header
          2 ∷ 0 ∷ 8 ∷ 0 ∷ 0 ∷ 0 ∷ 1 ∷ 0 ∷ 12 ∷ 0 ∷ 20 ∷ 0
          -- directory
          ∷ 0 ∷ 0 ∷ 5 ∷ 0 ∷ 5 ∷ 0 ∷ 3 ∷ 0
          -- routine 0: start 1
          ∷ 13 ∷ 1 ∷ 0 ∷ 0 ∷ 0 ∷ 0 ∷ 0 ∷ 0
          -- routine 0: rest
          ∷ 6 ∷ 0 ∷ 0 ∷ 0 ∷ 0 ∷ 0 ∷ 0 ∷ 0
          -- routine 0: stop 1
          ∷ 14 ∷ 1 ∷ 0 ∷ 0 ∷ 0 ∷ 0 ∷ 0 ∷ 0
          -- routine 0: join 1
          ∷ 10 ∷ 1 ∷ 0 ∷ 0 ∷ 0 ∷ 0 ∷ 0 ∷ 0
          -- routine 0: mark 4
          ∷ 0 ∷ 0 ∷ 0 ∷ 0 ∷ 4 ∷ 0 ∷ 0 ∷ 0
          -- routine 1: while counter 0 equals 0
          ∷ 19 ∷ 0 ∷ 0 ∷ 0 ∷ 0 ∷ 0 ∷ 0 ∷ 0
          -- routine 1: rest
          ∷ 6 ∷ 0 ∷ 0 ∷ 0 ∷ 0 ∷ 0 ∷ 0 ∷ 0
          -- routine 1: end
          ∷ 20 ∷ 0 ∷ 0 ∷ 0 ∷ 0 ∷ 0 ∷ 0 ∷ 0
          ∷ [];
      rounds =
          seen 1 [] (2 ∷ 0 ∷ []) (0 ∷ [])
          ∷ seen 2 [] (2 ∷ 2 ∷ []) (0 ∷ 1 ∷ [])
          ∷ seen 1 (pos 0 ∷ pos 4 ∷ []) (3 ∷ 4 ∷ []) (0 ∷ [])
          ∷ [];
      counters = pos 0 ∷ [];
    }

-- T10 "as T9 with two rests put in between the stop and the join: the end signal has gone by round 4". Document 02: "a routine that was
-- stopped counts as ended for joins, at any later time. So T10's join now passes in round 4 with its mark, 1 pass."
abbrev pub t10 : SetPlay
t10 =
    record {
      book =
          -- header
          2 ∷ 0 ∷ 10 ∷ 0 ∷ 0 ∷ 0 ∷ 1 ∷ 0 ∷ 12 ∷ 0 ∷ 20 ∷ 0
          -- directory
          ∷ 0 ∷ 0 ∷ 7 ∷ 0 ∷ 7 ∷ 0 ∷ 3 ∷ 0
          -- routine 0: start 1
          ∷ 13 ∷ 1 ∷ 0 ∷ 0 ∷ 0 ∷ 0 ∷ 0 ∷ 0
          -- routine 0: rest
          ∷ 6 ∷ 0 ∷ 0 ∷ 0 ∷ 0 ∷ 0 ∷ 0 ∷ 0
          -- routine 0: stop 1
          ∷ 14 ∷ 1 ∷ 0 ∷ 0 ∷ 0 ∷ 0 ∷ 0 ∷ 0
          -- routine 0: rest
          ∷ 6 ∷ 0 ∷ 0 ∷ 0 ∷ 0 ∷ 0 ∷ 0 ∷ 0
          -- routine 0: rest
          ∷ 6 ∷ 0 ∷ 0 ∷ 0 ∷ 0 ∷ 0 ∷ 0 ∷ 0
          -- routine 0: join 1
          ∷ 10 ∷ 1 ∷ 0 ∷ 0 ∷ 0 ∷ 0 ∷ 0 ∷ 0
          -- routine 0: mark 4
          ∷ 0 ∷ 0 ∷ 0 ∷ 0 ∷ 4 ∷ 0 ∷ 0 ∷ 0
          -- routine 1: while counter 0 equals 0
          ∷ 19 ∷ 0 ∷ 0 ∷ 0 ∷ 0 ∷ 0 ∷ 0 ∷ 0
          -- routine 1: rest
          ∷ 6 ∷ 0 ∷ 0 ∷ 0 ∷ 0 ∷ 0 ∷ 0 ∷ 0
          -- routine 1: end
          ∷ 20 ∷ 0 ∷ 0 ∷ 0 ∷ 0 ∷ 0 ∷ 0 ∷ 0
          ∷ [];
      rounds =
          seen 1 [] (2 ∷ 0 ∷ []) (0 ∷ [])
          ∷ seen 1 [] (2 ∷ 2 ∷ []) (0 ∷ 1 ∷ [])
          ∷ seen 1 [] (2 ∷ 4 ∷ []) (0 ∷ [])
          ∷ seen 1 (pos 0 ∷ pos 4 ∷ []) (3 ∷ 4 ∷ []) (0 ∷ [])
          ∷ [];
      counters = pos 0 ∷ [];
    }

-- T11 "999,999 plus 2 is 1,000,000; −1,000,000 plus −1 is −1,000,000." So each cuts off 1, as document 02 counts it.
abbrev pub t11 : SetPlay
t11 =
    record {
      book =
          -- header
          1 ∷ 0 ∷ 4 ∷ 0 ∷ 0 ∷ 0 ∷ 2 ∷ 0 ∷ 12 ∷ 0 ∷ 16 ∷ 0
          -- directory
          ∷ 0 ∷ 0 ∷ 4 ∷ 0
          -- routine 0: set counter 0 to 999,999
          ∷ 1 ∷ 0 ∷ 0 ∷ 0 ∷ 63 ∷ 66 ∷ 15 ∷ 0
          -- routine 0: add 2 to it
          ∷ 2 ∷ 0 ∷ 0 ∷ 0 ∷ 2 ∷ 0 ∷ 0 ∷ 0
          -- routine 0: set counter 1 to −1,000,000
          ∷ 1 ∷ 1 ∷ 0 ∷ 0 ∷ 192 ∷ 189 ∷ 240 ∷ 255
          -- routine 0: add −1 to it
          ∷ 2 ∷ 1 ∷ 0 ∷ 0 ∷ 255 ∷ 255 ∷ 255 ∷ 255
          ∷ [];
      rounds =
          cuts_off 2 1 [] (3 ∷ []) (0 ∷ [])
          ∷ [];
      counters = pos 1000000 ∷ negsuc 999999 ∷ [];
    }

abbrev pub set_plays : List SetPlay
set_plays = t1 ∷ t2 ∷ t3 ∷ t4 ∷ t5 ∷ t6 ∷ t7 ∷ t8 ∷ t9 ∷ t10 ∷ t11 ∷ []

pub as_stated : map played set_plays ≡ set_plays
unfolding played_from answer round_verdict written marks_in sum_below round instant pass turn all_done ticks effect_on tick tick_of waits_for
    from_end opening_before past_partner at_start each kept appended is_there is_end_there numbers_with set_up new_game blank_game with_start
    is_sized fits_book routine_fits slot_fits entry_fits line_fits counters_fit signals_fit is_in all_below any_below book_verdict layout_verdict
    directory_verdict steps_verdict nesting_verdict pausing_verdict routine_walk routine_part routine_of step_of block_by partner_of view_at
    step_at decoded row_of steps_before first_refusal
as_stated = refl
