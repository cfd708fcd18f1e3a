-- A turn, a pass and a round: rules 33 to 38. Document 01: "round = one chaining step and then one instant, pass = one scheduler execution
-- step (rules 35 and 36)".
use Rattle.std.specs.Prelude.{ℕ, zero, suc, ◌+◌, Bool, true, false, ◌&&◌, ◌||◌, not, List, [], ◌∷◌, ◌++◌, eqb, set, if◌then◌else◌, Option, Some, None}
use Rattle.kinds.specs.declared.Counts.{Counts}
use Rattle.kinds.specs.Steps.{steps_in}
use Rattle.layout.specs.Layout.{most_routines, most_steps, counts_of}
use Rattle.directory.specs.Directory.{routine_steps}
use Rattle.game.specs.declared.Routine.{Routine}
use Rattle.game.specs.declared.Game.{Game}
use Rattle.lines.specs.Lines.{entries_of}
use Rattle.game.specs.Game.{continuing, rested, ended, routine_at, with_routine}
use Rattle.round.specs.declared.Ending.{Ending}
use Rattle.round.specs.declared.Ending.TheVariants.{Ended, Rested, Missed, Continued}
use Rattle.round.specs.declared.Position.{Position}
use Rattle.round.specs.declared.Act.{Act}
use Rattle.round.specs.declared.Act.TheVariants.{Goes, Halts}
use Rattle.round.specs.State.{State, with_game, with_end_signals, with_moves, Event, completed}
use Rattle.round.specs.Actions.{position_of, placed, at_start}
use Rattle.round.specs.Ticks.{tick, fresh, effect_on}

-- the steps that a routine takes in a turn: how they end, where they leave it, the state behind them, and what happened
pub record Ticks : Type 0 where
  pub ending : Ending
  pub position : Position
  pub state : State
  pub trace : List Event

-- behind the step of routine r at place p, in which this happened: the next ones (rule 3), or the end of the turn (rule 4)
abbrev pub follow : ℕ → ℕ → Act → List Event → State → (ℕ → State → Ticks) → Ticks
follow r p (Goes q e) events s next =
    let rest = next q (effect_on e s) in
    record {
      ending = rest.ending;
      position = rest.position;
      state = rest.state;
      trace = completed r p ∷ events ++ rest.trace;
    }
follow r p (Halts how y) events s next = record { ending = how; position = y; state = s; trace = events }

-- the steps of routine r from position x on, at most n of them; begun is "cleared when that step is past"
unfoldable pub ticks : ℕ → Counts → ℕ → List ℕ → Position → State → Ticks
ticks zero counts r steps x s = record { ending = Continued; position = x; state = s; trace = [] }
ticks (suc n) counts r steps x s =
    let t = tick counts r steps x s in
    follow r x.place t.act t.events s (λ p u. ticks n counts r steps (fresh p) u)

-- the ticks that a turn may take, one for each step and one more; that they are enough is Enough.antt's claim
abbrev pub most_ticks : List ℕ → ℕ
most_ticks steps = steps_in steps + 1

-- the stage in which a turn leaves its routine: the status of rule 34
abbrev pub stage_after : Ending → ℕ
stage_after Ended = ended
stage_after Rested = rested
stage_after Missed = rested
stage_after Continued = continuing

-- rule 34: a routine's end gives its end signal and sets the flag; no other ending does
abbrev pub with_end : Ending → ℕ → State → State
with_end Ended r s = with_moves (with_end_signals s (set s.end_signals r true)) true s.eoi
with_end Rested r s = s
with_end Missed r s = s
with_end Continued r s = s

-- a routine behind a turn that ends so and leaves it at this position
abbrev pub behind_turn : Routine → Ending → Position → Routine
behind_turn x how y = placed x (stage_after how) y

-- the state behind a turn of routine r
abbrev pub after_turn : ℕ → Ticks → State
after_turn r t =
    let g = t.state.game in
    with_end t.ending r (with_game t.state (with_routine g r (behind_turn (routine_at g r) t.ending t.position)))

-- some turns: the state behind them, what happened, and how each ended, None where the routine was passed over
pub record PlayedTurns : Type 0 where
  pub state : State
  pub trace : List Event
  pub turns : List (Option Ending)

-- rule 33, "Nothing is done": the routine is passed over, and the state stays s
abbrev pub not_taken : State → PlayedTurns
not_taken s = record { state = s; trace = []; turns = None ∷ [] }

-- rule 34: routine r takes these steps; behind them its stage, end signal and the move flag are set (after_turn)
abbrev pub taken : ℕ → Ticks → PlayedTurns
taken r t = record { state = after_turn r t; trace = t.trace; turns = Some t.ending ∷ [] }

abbrev pub followed_by : PlayedTurns → PlayedTurns → PlayedTurns
followed_by a b = record { state = b.state; trace = a.trace ++ b.trace; turns = a.turns ++ b.turns }

-- the b of rules 33 and 34: false for CONT alone
abbrev pub is_done : Option Ending → Bool
is_done None = true
is_done (Some Ended) = true
is_done (Some Rested) = true
is_done (Some Missed) = true
is_done (Some Continued) = false

-- the b of rules 35 and 36
unfoldable pub all_done : List (Option Ending) → Bool
all_done [] = true
all_done (t ∷ ts) = is_done t && all_done ts

-- rule 38: the flags for another pass
abbrev pub for_next_pass : State → State
for_next_pass s = with_moves s false (not s.moved)

-- a round's passes, and how many they are
pub record PlayedRound : Type 0 where
  pub played : PlayedTurns
  pub passes : ℕ

-- a pass: alone if all its turns are done (rule 37), and otherwise with the passes behind it (rule 38)
abbrev pub pass_then : PlayedTurns → PlayedRound → PlayedRound
pass_then first others =
    if all_done first.turns
    then record { played = first; passes = 1 }
    else record { played = followed_by first others.played; passes = others.passes + 1 }

-- the passes that a round may take: a pass that gives a signal or ends a routine uses up a signal step or a routine, of which a largest
-- book has most_steps and most_routines, and behind a pass that does neither there is at most one more; that they are enough is
-- Enough.antt's claim
abbrev pub most_passes : ℕ
most_passes = 2 + most_steps + most_routines

-- the playing order of a round: those listed "once the eight actions are done"
abbrev pub listed_in : Game → List ℕ
listed_in g = entries_of (at_start g).game.listed

module _ (book : List ℕ) where
  -- the steps of routine r in a turn
  abbrev pub ticks_of : ℕ → State → Ticks
  ticks_of r s =
      let steps = routine_steps book r in
      ticks (most_ticks steps) (counts_of book) r steps (position_of (routine_at s.game r)) s

  -- rules 33 and 34
  unfoldable pub turn : ℕ → State → PlayedTurns
  turn r s =
      let x = routine_at s.game r in
      if x.suspended || not (eqb x.stage continuing) then not_taken s else taken r (ticks_of r s)

  -- rules 35 and 36: the listed routines in order
  unfoldable pub pass : List ℕ → State → PlayedTurns
  pass [] s = record { state = s; trace = []; turns = [] }
  pass (r ∷ rs) s =
      let first = turn r s in
      followed_by first (pass rs first.state)

  -- rules 37 and 38, with at most n passes
  unfoldable pub instant : ℕ → List ℕ → State → PlayedRound
  instant zero rs s = record { played = record { state = s; trace = []; turns = [] }; passes = 0 }
  instant (suc n) rs s =
      let first = pass rs s in
      pass_then first (instant n rs (for_next_pass first.state))

  -- a round: the eight actions, then its passes
  unfoldable pub round : Game → PlayedRound
  round g = instant most_passes (listed_in g) (at_start g)

  -- the state behind it
  abbrev pub state_after : Game → State
  state_after g = (round g).played.state

  -- what happens in it
  abbrev pub trace_of : Game → List Event
  trace_of g = (round g).played.trace
