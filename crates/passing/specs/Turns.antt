-- The steps of a turn, and a turn, as the code takes them: the definitions' own, with the marks in their buffer in place of the trace.
use Rattle.std.specs.Prelude.{ℕ, zero, suc, ◌+◌, ◌*◌, ◌≤◌, ◌<◌, ◌≡◌, Bool, false, ◌||◌, not, List, [], ◌∷◌, eqb, length, get_or, Option}
use Rattle.numbers.specs.Numbers.{word_limit}
use Rattle.kinds.specs.Steps.{step_bytes}
use Rattle.kinds.specs.declared.Counts.{Counts}
use Rattle.layout.specs.Layout.{header_bytes, entry_bytes, most_routines, most_signals, most_counters, counts_of}
use Rattle.directory.specs.Directory.{step_count, routine_from, routine_steps}
use Rattle.game.specs.Game.{continuing, routine_at}
use Rattle.round.specs.declared.Ending.{Ending}
use Rattle.round.specs.declared.Ending.TheVariants.{Continued}
use Rattle.round.specs.declared.Position.{Position}
use Rattle.round.specs.declared.Act.{Act}
use Rattle.round.specs.declared.Act.TheVariants.{Goes, Halts}
use Rattle.round.specs.State.{State, Event}
use Rattle.round.specs.Ticks.{fresh, effect_on}
use Rattle.round.specs.Rounds.{PlayedTurns, ticks_of}
use Rattle.round.specs.Answers.{marks_in}
use Rattle.tables.specs.Tables.{row_at, places_row, lefts_row, begun_row}
use Rattle.ticking.specs.Acts.{act_at, AllWithin, Decodes}
use Rattle.passing.specs.Effects.{Marks, marks_put, marked_by}

-- how steps end, where they leave the routine, and the state and the marks behind them
pub record Run : Type 0 where
  pub ending : Ending
  pub position : Position
  pub state : State
  pub marks : Marks

abbrev pub runs : Ending → Position → State → Marks → Run
runs how y s m = record { ending = how; position = y; state = s; marks = m }

abbrev pub follow_run : ℕ → Act → State → Marks → (ℕ → State → Marks → Run) → Run
follow_run r (Goes q e) s m next = next q (effect_on e s) (marked_by r e m)
follow_run r (Halts how y) s m next = runs how y s m

-- at most n steps of routine r from position x on
unfoldable pub run_of : ℕ → ℕ → List ℕ → Position → State → Marks → Run
run_of zero r steps x s m = runs Continued x s m
run_of (suc n) r steps x s m = follow_run r (act_at steps x s) s m (λ p u k. run_of n r steps (fresh p) u k)

-- where the tables have routine r
abbrev pub position_in : List Bool → List ℕ → ℕ → Position
position_in flags fields r =
    record {
      place = get_or (row_at places_row fields) r 0;
      begun = get_or (row_at begun_row flags) r false;
      left = get_or (row_at lefts_row fields) r 0;
    }

-- no more numbers are given than there is room for, and what is cut off has 32 bits
abbrev pub Roomy : ℕ → State → Type 0
Roomy room s = (length s.numbers ≤ room) × (s.lost < word_limit)

-- a position that the tables have room for
pub record PositionFits (y : Position) : Type 0 where
  pub place_fits : y.place < word_limit
  pub left_fits : y.left < word_limit

-- steps of an accepted book with these counts: none is turned down, and the tables have a place for what each names
pub record Playable (steps : List ℕ) : Type 0 where
  pub counts : Counts
  pub decodes : Decodes counts steps
  pub within : AllWithin steps
  pub few_routines : counts.routines ≤ most_routines
  pub few_signals : counts.signals ≤ most_signals
  pub few_counters : counts.counters ≤ most_counters

-- a routine of an accepted book: its entry and its steps are there
pub record Ready (book : List ℕ) (r : ℕ) : Type 0 where
  pub below : r < most_routines
  pub entry : header_bytes + entry_bytes * (r + 1) ≤ length book
  pub steps : routine_from book r + step_bytes * step_count book r ≤ length book
  pub playable : Playable (routine_steps book r)
  pub counted : playable.counts ≡ counts_of book

-- rule 33: a routine that is suspended or not in stage 1 is passed over
abbrev pub is_passed_over : State → ℕ → Bool
is_passed_over s r = let x = routine_at s.game r in x.suspended || not (eqb x.stage continuing)

-- what a turn leaves has its place in the tables
pub record TurnFits (room : ℕ) (book : List ℕ) (r : ℕ) (s : State) : Type 0 where
  pub roomy : Roomy room (ticks_of book r s).state
  pub position : PositionFits (ticks_of book r s).position

-- what a turn asks: that this is so, if it is taken
abbrev pub TurnAsks : ℕ → List ℕ → ℕ → State → Type 0
TurnAsks room book r s = is_passed_over s r ≡ false → TurnFits room book r s

-- the marks behind some events
abbrev pub marks_after : List Event → Marks → Marks
marks_after events m = marks_put (marks_in events) m

-- turns: the state and the marks behind them, and how each came out
pub record Behind : Type 0 where
  pub state : State
  pub marks : Marks
  pub turns : List (Option Ending)

-- behind one turn, as the code has it, and behind turns as defined
abbrev pub turned : State → Marks → Option Ending → Behind
turned s m t = record { state = s; marks = m; turns = t ∷ [] }

abbrev pub turned_by : PlayedTurns → Marks → Behind
turned_by p m = record { state = p.state; marks = marks_after p.trace m; turns = p.turns }
