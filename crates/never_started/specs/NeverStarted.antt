-- Routines that are never started: document 02, Paper 1, "a routine named there never leaves stage 0 in any play from set-up without an
-- outside order to start a routine".
use Rattle.std.specs.Prelude.{ℕ, ◌≡◌, List, [], ◌∷◌, ◌≢◌}
use Rattle.numbers.specs.Counting.{Among}
use Rattle.game.specs.declared.Game.{Game}
use Rattle.game.specs.Game.{not_started, routine_at}
use Rattle.unstarted.specs.Unstarted.{names_of}
use Rattle.plays.specs.Plays.{PlayCall, round, order, Play}

-- orders "by kind: .. 1 start"
abbrev pub start_order : ℕ
start_order = 1

-- no order of a play is one to start a routine, accepted or refused
abbrev pub NoStarts : List PlayCall → Type 0
NoStarts [] = Unit {0}
NoStarts (round a ∷ calls) = NoStarts calls
NoStarts (order kind n v ∷ calls) = (kind ≢ start_order) × NoStarts calls

-- Every game to which a play of the book without an order to start comes has routine r in stage 0. What was done up to any game of a play
-- is itself a play, so this is said of every game. Orders to start are left out since such an order may start a routine that no chain leads
-- to, and with it the routines that its steps start.
abbrev pub NeverStarted : List ℕ → ℕ → Type 0
NeverStarted book r = (calls : List PlayCall) (g : Game) → Play book calls g → NoStarts calls → (routine_at g r).stage ≡ not_started

-- so it is of each routine that is named
abbrev pub NamedNeverStarted : List ℕ → Type 0
NamedNeverStarted book = (r : ℕ) → Among r (names_of book) → NeverStarted book r
