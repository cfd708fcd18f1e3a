-- From a game to the tables of its round, and back.
use Rattle.std.specs.Prelude.{ℕ, ◌≤◌, ◌<◌, ◌≡◌, false, List, length, get_or, replicate, ℤ}
use Rattle.numbers.specs.Numbers.{byte_limit, half_limit}
use Rattle.kinds.specs.declared.Counts.{Counts}
use Rattle.layout.specs.Layout.{most_routines, most_signals}
use Rattle.book.specs.Accepted.{Accepted}
use Rattle.lines.specs.declared.Line.{Line}
use Rattle.lines.specs.Lines.{most_entries}
use Rattle.game.specs.declared.Routine.{Routine}
use Rattle.game.specs.declared.Game.{Game}
use Rattle.game.specs.Game.{blank}
use Rattle.fitting.specs.Fits.{Fits}
use Rattle.round.specs.Actions.{at_start}
use Rattle.tables.specs.declared.Tables.{Tables}
use Rattle.tables.specs.declared.Tally.{Tally}
use Rattle.tables.specs.Tables.{flag_count, field_count, stages_row, places_row, starting_row}
use Rattle.numbers.specs.Counting.{list_below}
use Rattle.tables.specs.Tables.{row_at, last_row, routine_in, start_line, state_in}

-- nothing is counted yet
abbrev pub no_tally : Tally
no_tally = record { starting = 0; given = 0; marks = 0; lost = 0; moved = false }

-- the eight actions are done: from game g, which fits an accepted book, the tables hold the state in which the first pass begins, and
-- nothing is counted yet
pub record Opened (book : List ℕ) (g : Game) (order : Line) (t : Tables) : Type 0 where
  pub accepted : Accepted book
  pub fits : Fits book g
  pub listed : order ≡ (at_start g).game.listed
  pub flags_long : length t.flags ≡ flag_count
  pub fields_long : length t.fields ≡ field_count
  pub uncounted : t.tally ≡ no_tally
  pub holds : (given : List ℤ) → state_in (at_start g).game t given false ≡ at_start g

-- the game that the tables hold at the end of a round, with these numbers R, E and C: 8. No signal is to be broadcast.
abbrev pub game_of : Counts → Line → Tables → Game
game_of counts order t =
    record {
      counts = counts;
      routines = list_below most_routines (routine_in t.flags t.fields);
      counters = t.counters;
      listed = order;
      starting = start_line t.fields t.tally.starting;
      broadcast = replicate most_signals false;
    }

-- the tables hold a game: it can hold what they have of its R routines and of so many to start; beyond these they have the lent routines,
-- and 0
pub record HoldsGame (R : ℕ) (lent : List Routine) (t : Tables) : Type 0 where
  pub fields_long : length t.fields ≡ field_count
  pub few : R ≤ most_routines
  pub stages : (i : ℕ) → i < R → get_or (row_at stages_row t.fields) i 0 < byte_limit
  pub places : (i : ℕ) → i < R → get_or (row_at places_row t.fields) i 0 < half_limit
  pub beyond : (i : ℕ) → R ≤ i → i < most_routines → routine_in t.flags t.fields i ≡ get_or lent i blank
  pub short : t.tally.starting ≤ most_entries
  pub entries : (i : ℕ) → i < t.tally.starting → get_or (last_row starting_row t.fields) i 0 < byte_limit
  pub entries_beyond : (i : ℕ) → t.tally.starting ≤ i → i < most_entries → get_or (last_row starting_row t.fields) i 0 ≡ 0
