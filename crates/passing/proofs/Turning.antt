-- A turn on the tables is the turn of the definition: the tables say whether the routine is passed over and where it stands, and a turn
-- that is taken leaves its routine behind its steps as rule 34 says.
use Prim.Native.Nat.{ℕ, ◌<◌}
use mathlib.Core.Path.{◌≡◌}
use mathlib.Core.Bool.{Bool, true, false, ◌||◌, not}
use mathlib.Core.List.{List}
use lib.Dec.{eqb}
use lib.IntN.{ℤ}
use lib.ListN.{get_or}
use Rattle.std.specs.Prelude.{Some, None}
use Rattle.layout.specs.Layout.{most_routines, counts_of}
use Rattle.directory.specs.Directory.{routine_steps}
use Rattle.game.specs.declared.Game.{Game}
use Rattle.game.specs.Game.{continuing, blank, routine_at, with_routine}
use Rattle.round.specs.State.{State, with_game}
use Rattle.round.specs.Actions.{position_of}
use Rattle.round.specs.Rounds.{most_ticks, with_end, behind_turn, ticks_of, turn}
use Rattle.round.specs.Answers.{marks_in}
use Rattle.tables.specs.declared.Tally.{Tally}
use Rattle.tables.specs.Tables.{suspended_row, stages_row, row_at, routine_in, state_of}
use Rattle.numbers.proofs.Lists.{below_read}
use Rattle.passing.specs.Effects.{Marks, marks_put}
use Rattle.passing.specs.Turns.{Run, run_of, position_in, Roomy, Ready, is_passed_over, Behind, turned, turned_by}
use Rattle.passing.proofs.TurnMarks.{held_by, run_ticks}

module _ (g : Game) (counters : List ℤ) (flags : List Bool) (fields : List ℕ) (given : List ℤ) (t : Tally) (eoi : Bool) where
  abbrev held : State
  held = state_of g counters flags fields given t eoi

  -- where the tables have a routine is where the state has it
  position_held : (r : ℕ) → r < most_routines → position_of (routine_at held.game r) ≡ position_in flags fields r
  unfolding state_of
  position_held r h = rw (below_read most_routines (routine_in flags fields) r blank h)

  -- so it is with whether it is passed over
  pub over_held :
      (r : ℕ) → r < most_routines →
      is_passed_over held r ≡ (get_or (row_at suspended_row flags) r false || not (eqb (get_or (row_at stages_row fields) r 0) continuing))
  unfolding state_of
  over_held r h = rw (below_read most_routines (routine_in flags fields) r blank h)

  -- the steps of a turn, which leave no more numbers, and no more cut off, than there is room for if the definition's do
  module _ (book : List ℕ) (r : ℕ) (m : Marks) (steps : List ℕ) (same : steps ≡ routine_steps book r) (ready : Ready book r) where
    pub run_held : run_of (most_ticks steps) r steps (position_in flags fields r) held m ≡ held_by (ticks_of book r held) m
    run_held =
        let decodes = rw ready.counted at ready.playable.decodes in
        let all = routine_steps book r in
        rw (same, ← (position_held r ready.below), run_ticks (counts_of book) r all decodes (most_ticks all) _ _ m)

    pub room_held :
        (room : ℕ) → Roomy room (ticks_of book r held).state →
        Roomy room (run_of (most_ticks steps) r steps (position_in flags fields r) held m).state
    room_held room h = rw run_held h

-- rule 34: routine r is left by these steps
abbrev pub left_by : ℕ → Run → Behind
left_by r t =
    let g = t.state.game in
    turned (with_end t.ending r (with_game t.state (with_routine g r (behind_turn (routine_at g r) t.ending t.position)))) t.marks
    (Some t.ending)

module _ (book : List ℕ) (r : ℕ) (s : State) (m : Marks) where
  pub turn_over : is_passed_over s r ≡ true → turned s m None ≡ turned_by (turn book r s) m
  unfolding turn marks_in marks_put
  turn_over h = rw h

  pub turn_taken : is_passed_over s r ≡ false → left_by r (held_by (ticks_of book r s) m) ≡ turned_by (turn book r s) m
  unfolding turn
  turn_taken h = rw h
