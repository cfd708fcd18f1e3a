-- What a game keeps: document 01, "The game". "For each routine: stage .., suspended or not, place .., begun or not, and the count left.
-- Besides: the numbers R, E and C, the counters, the playing order of listed routines, the routines to start in order, the sets to stop,
-- suspend and resume, the signals to broadcast."
use Rattle.std.specs.Prelude.{ℕ, ◌≡◌, Bool, true, false, ◌&&◌, not, List, eqb, length, get_or, set, replicate, ℤ, pos, if◌then◌else◌}
use Rattle.kinds.specs.declared.Counts.{Counts}
use Rattle.layout.specs.Layout.{most_routines, most_signals, most_counters}
use Rattle.game.specs.declared.Routine.{Routine}
use Rattle.lines.specs.declared.Line.{Line}
use Rattle.game.specs.declared.Game.{Game}
use Rattle.lines.specs.Lines.{most_entries, empty, is_in, pushed}

-- "stage (0 not started, 1 continuing, 2 rested, 3 ended, 4 stopped)"; the paper's status is CONT in stage 1 and COOP in 2,
-- and "Only stage 3 is TERM."
abbrev pub not_started : ℕ
not_started = 0

abbrev pub continuing : ℕ
continuing = 1

abbrev pub rested : ℕ
rested = 2

abbrev pub ended : ℕ
ended = 3

abbrev pub stopped : ℕ
stopped = 4

-- a routine (the paper's thread, whose flag susp is suspended here) whose fields are all 0
abbrev pub blank : Routine
blank =
    record {
      stage = not_started;
      place = 0;
      left = 0;
      suspended = false;
      begun = false;
      stopping = false;
      suspending = false;
      resuming = false;
    }

-- a game for these numbers, all else in it 0
abbrev pub blank_for : Counts → Game
blank_for counts =
    record {
      counts = counts;
      routines = replicate most_routines blank;
      counters = replicate most_counters (pos 0);
      listed = empty;
      starting = empty;
      broadcast = replicate most_signals false;
    }

-- a game whose fields are all 0
unfoldable pub blank_game : Game
blank_game = blank_for (record { routines = 0; signals = 0; counters = 0 })

abbrev pub routine_at : Game → ℕ → Routine
routine_at g r = get_or g.routines r blank

abbrev pub counter_at : Game → ℕ → ℤ
counter_at g c = get_or g.counters c (pos 0)

-- whether signal e is in the set to broadcast (the paper's to_broadcast)
abbrev pub is_broadcast : Game → ℕ → Bool
is_broadcast g e = get_or g.broadcast e false

-- a routine with these flags for the sets to stop, suspend and resume (to_stop, to_suspend and to_resume)
abbrev pub with_flags : Routine → Bool → Bool → Bool → Routine
with_flags x stop suspend resume =
    record {
      stage = x.stage;
      place = x.place;
      left = x.left;
      suspended = x.suspended;
      begun = x.begun;
      stopping = stop;
      suspending = suspend;
      resuming = resume;
    }

-- a routine that joins one of the three sets
abbrev pub with_stop : Routine → Routine
with_stop x = with_flags x true x.suspending x.resuming

abbrev pub with_suspend : Routine → Routine
with_suspend x = with_flags x x.stopping true x.resuming

abbrev pub with_resume : Routine → Routine
with_resume x = with_flags x x.stopping x.suspending true

-- those to start, after a start of routine r, which is in this stage
-- "A start of a routine that isn't in stage 0, or is already to start, adds nothing."
unfoldable pub with_start : Line → ℕ → ℕ → Line
with_start l r stage = if eqb stage not_started && not (is_in l r) then pushed l r else l

-- a game with other routines, another list of those to start, another set to broadcast, another counter
abbrev pub with_routines : Game → List Routine → Game
with_routines g l =
    record {
      counts = g.counts;
      routines = l;
      counters = g.counters;
      listed = g.listed;
      starting = g.starting;
      broadcast = g.broadcast;
    }

abbrev pub with_starting : Game → Line → Game
with_starting g l =
    record {
      counts = g.counts;
      routines = g.routines;
      counters = g.counters;
      listed = g.listed;
      starting = l;
      broadcast = g.broadcast;
    }

abbrev pub with_broadcast : Game → List Bool → Game
with_broadcast g l =
    record {
      counts = g.counts;
      routines = g.routines;
      counters = g.counters;
      listed = g.listed;
      starting = g.starting;
      broadcast = l;
    }

-- counter c has content v
abbrev pub with_counter : Game → ℕ → ℤ → Game
with_counter g c v =
    record {
      counts = g.counts;
      routines = g.routines;
      counters = set g.counters c v;
      listed = g.listed;
      starting = g.starting;
      broadcast = g.broadcast;
    }

-- routine r becomes x
abbrev pub with_routine : Game → ℕ → Routine → Game
with_routine g r x = with_routines g (set g.routines r x)

-- the arrays are as long as their types say, as in every game that a program holds
pub record Sized (g : Game) : Type 0 where
  pub routines : length g.routines ≡ most_routines
  pub counters : length g.counters ≡ most_counters
  pub listed : length g.listed.items ≡ most_entries
  pub starting : length g.starting.items ≡ most_entries
  pub broadcast : length g.broadcast ≡ most_signals
