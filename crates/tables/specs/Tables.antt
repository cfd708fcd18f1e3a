-- The tables of a round, and the state that they hold.
use Rattle.std.specs.Prelude.{ℕ, ◌+◌, ◌*◌, ◌/◌, ◌≤◌, ◌≡◌, Bool, false, List, [], ◌∷◌, ltb, length, get_or, set, take, drop, ℤ, pos, negsuc, if◌then◌else◌}
use Rattle.numbers.specs.Numbers.{word_limit}
use Rattle.numbers.specs.Counting.{list_below}
use Rattle.layout.specs.Layout.{most_routines, most_signals}
use Rattle.lines.specs.declared.Line.{Line}
use Rattle.lines.specs.Lines.{most_entries}
use Rattle.game.specs.declared.Routine.{Routine}
use Rattle.game.specs.declared.Game.{Game}
use Rattle.round.specs.State.{State}
use Rattle.tables.specs.declared.Flag.{Flag}
use Rattle.tables.specs.declared.Flag.TheVariants.{Ends, Stops, Suspends, Resumes, Suspended, Begun}
use Rattle.tables.specs.declared.Field.{Field}
use Rattle.tables.specs.declared.Field.TheVariants.{Stage, Place, Left}
use Rattle.tables.specs.declared.Tally.{Tally}
use Rattle.tables.specs.declared.Tables.{Tables}

-- where the rows of flags begin: the end signals, those to stop, to suspend and to resume, those suspended, those that have begun a count;
-- last, the signals that are present
abbrev pub ends_row : ℕ
ends_row = 0

abbrev pub stops_row : ℕ
stops_row = most_routines

abbrev pub suspends_row : ℕ
suspends_row = 2 * most_routines

abbrev pub resumes_row : ℕ
resumes_row = 3 * most_routines

abbrev pub suspended_row : ℕ
suspended_row = 4 * most_routines

abbrev pub begun_row : ℕ
begun_row = 5 * most_routines

abbrev pub present_row : ℕ
present_row = 6 * most_routines

abbrev pub flag_count : ℕ
flag_count = present_row + most_signals

abbrev pub flag_row : Flag → ℕ
flag_row Ends = ends_row
flag_row Stops = stops_row
flag_row Suspends = suspends_row
flag_row Resumes = resumes_row
flag_row Suspended = suspended_row
flag_row Begun = begun_row

-- where the rows of fields begin: stages, places, counts left; last, those to start
abbrev pub stages_row : ℕ
stages_row = 0

abbrev pub places_row : ℕ
places_row = most_routines

abbrev pub lefts_row : ℕ
lefts_row = 2 * most_routines

abbrev pub starting_row : ℕ
starting_row = 3 * most_routines

abbrev pub field_count : ℕ
field_count = starting_row + most_entries

abbrev pub field_row : Field → ℕ
field_row Stage = stages_row
field_row Place = places_row
field_row Left = lefts_row

-- the row of routines that begins at k
unfoldable pub row_at : {A : Type 0} → ℕ → List A → List A
row_at k l = take most_routines (drop k l)

-- the last row, which begins at k
unfoldable pub last_row : {A : Type 0} → ℕ → List A → List A
last_row k l = drop k l

-- a store for routine r in the row that begins at k; a number that no routine has takes nothing
unfoldable pub put_in : {A : Type 0} → ℕ → ℕ → A → List A → List A
put_in k r v l = if ltb r most_routines then set l (k + r) v else l

-- routine r as the tables have it
abbrev pub routine_in : List Bool → List ℕ → ℕ → Routine
routine_in flags fields r =
    record {
      stage = get_or (row_at stages_row fields) r 0;
      place = get_or (row_at places_row fields) r 0;
      left = get_or (row_at lefts_row fields) r 0;
      suspended = get_or (row_at suspended_row flags) r false;
      begun = get_or (row_at begun_row flags) r false;
      stopping = get_or (row_at stops_row flags) r false;
      suspending = get_or (row_at suspends_row flags) r false;
      resuming = get_or (row_at resumes_row flags) r false;
    }

-- those to start, so many
abbrev pub start_line : List ℕ → ℕ → Line
start_line fields count = record { items = last_row starting_row fields; len = count }

-- the first of a pair, a number from 0 on; what is below 0 stands for no number that is asked for
abbrev pub first_of_pair : ℤ → ℕ
first_of_pair (pos n) = n
first_of_pair (negsuc n) = word_limit + n

-- the pairs of a buffer
unfoldable pub pairs_of : List ℤ → List (ℕ × ℤ)
pairs_of [] = []
pairs_of (a ∷ []) = []
pairs_of (a ∷ b ∷ l) = (first_of_pair a, b) ∷ pairs_of l

-- a pair behind the first n of a buffer; a full buffer takes no more
unfoldable pub pair_put : ℕ → ℕ → ℤ → List ℤ → List ℤ
pair_put n first second l = if ltb n (length l / 2) then set (set l (2 * n) (pos first)) (2 * n + 1) second else l

abbrev pub pair_count : ℕ → List ℤ → ℕ
pair_count n l = if ltb n (length l / 2) then n + 1 else n

-- the state that the tables hold, in a round from a game with the counts and the playing order of g
unfoldable pub state_of : Game → List ℤ → List Bool → List ℕ → List ℤ → Tally → Bool → State
state_of g counters flags fields given tally eoi =
    record {
      game =
          record {
            counts = g.counts;
            routines = list_below most_routines (routine_in flags fields);
            counters = counters;
            listed = g.listed;
            starting = start_line fields tally.starting;
            broadcast = g.broadcast;
          };
      present = last_row present_row flags;
      end_signals = row_at ends_row flags;
      numbers = take tally.given (pairs_of given);
      lost = tally.lost;
      moved = tally.moved;
      eoi = eoi;
    }

abbrev pub state_in : Game → Tables → List ℤ → Bool → State
state_in g t given eoi = state_of g t.counters t.flags t.fields given t.tally eoi

-- the tables are as long as their types say, and no more are to start, and no more numbers given, than there is room for
pub record Whole (room : ℕ) (flags : List Bool) (fields : List ℕ) (tally : Tally) : Type 0 where
  pub flags_long : length flags ≡ flag_count
  pub fields_long : length fields ≡ field_count
  pub starting_fits : tally.starting ≤ most_entries
  pub given_fits : tally.given ≤ room

abbrev pub WholeIn : ℕ → Tables → Type 0
WholeIn room t = Whole room t.flags t.fields t.tally
