-- Bytes read as a stored game, and which of them have its form: document 02, Paper 2. Bytes past the end count as 0.
use Rattle.std.specs.Prelude.{ℕ, ◌+◌, ◌*◌, ◌/◌, ◌%◌, Bool, false, ◌&&◌, not, List, leb, ltb, eqb, length, get_or, take, drop, pos, if◌then◌else◌}
use Rattle.numbers.specs.Numbers.{half_at, signed}
use Rattle.numbers.specs.Bytes.{word_at}
use Rattle.numbers.specs.Counting.{all_below, all_from, list_below}
use Rattle.kinds.specs.declared.Counts.{Counts}
use Rattle.layout.specs.Layout.{most_routines, most_signals, most_counters}
use Rattle.lines.specs.declared.Line.{Line}
use Rattle.lines.specs.Lines.{most_entries, line_of}
use Rattle.game.specs.declared.Routine.{Routine}
use Rattle.game.specs.declared.Game.{Game}
use Rattle.game.specs.Game.{stopped, blank}
use Rattle.stored_games.specs.declared.Form.{Form}
use Rattle.stored_games.specs.declared.Parts.{Parts}
use Rattle.stored_games.specs.Bits.{has_bit}
use Rattle.stored_games.specs.Forms.{byte_bits}
use Rattle.stored_games.specs.Stored.{game_header_bytes, counter_bytes, count_bytes, counters_from, lists_from}

-- the header's R, E and C
abbrev pub counts_in : List ℕ → Counts
counts_in s = record { routines = half_at s 2; signals = half_at s 4; counters = half_at s 6 }

-- where a list ends
abbrev pub list_end : List ℕ → ℕ → ℕ
list_end s from = from + count_bytes + half_at s from

-- "each part following the one before": where the counters, the two lists and the set begin, and where it ends
unfoldable pub parts_of : Form → List ℕ → Parts
parts_of f s =
    let lists = lists_from f (counts_in s) in
    let starting = list_end s lists in
    let set = list_end s starting in
    record { counters = counters_from f (counts_in s); listed = lists; starting = starting; broadcast = set; end = set + f.setsize }

-- the record of routine r
abbrev pub record_at : Form → List ℕ → ℕ → List ℕ
record_at f s r = take f.recordsize (drop (game_header_bytes + f.recordsize * r) s)

-- a routine, by its record: "stage, flags (1 suspended, 2 begun, 4 to stop, 8 to suspend, 16 to resume), place in 16 bits, count left in
-- 32"
unfoldable pub routine_by_record : List ℕ → Routine
routine_by_record s =
    let flags = get_or s 1 0 in
    record {
      stage = get_or s 0 0;
      place = half_at s 2;
      left = word_at s 4;
      suspended = has_bit flags 0;
      begun = has_bit flags 1;
      stopping = has_bit flags 2;
      suspending = has_bit flags 3;
      resuming = has_bit flags 4;
    }

-- the first n values of a function in a list of m slots, and d in the others
unfoldable pub in_slots : {A : Type 0} → ℕ → ℕ → (ℕ → A) → A → List A
in_slots m n f d = list_below m (λ i. if ltb i n then f i else d)

-- a list: "a 16-bit count and one byte a routine"
abbrev pub line_in : List ℕ → ℕ → Line
line_in s from = line_of (in_slots most_entries (half_at s from) (λ i. get_or s (from + count_bytes + i) 0) 0) (half_at s from)

-- "signal i being bit i mod 8 of byte i / 8 (rounded down)" of a set that begins at a place
abbrev pub signal_in : List ℕ → ℕ → ℕ → Bool
signal_in s from e = has_bit (get_or s (from + e / byte_bits) 0) (e % byte_bits)

-- the game; "Counters have 32 bits, two's complement."
unfoldable pub game_in : Form → List ℕ → Game
game_in f s =
    let counts = counts_in s in
    let parts = parts_of f s in
    record {
      counts = counts;
      routines = in_slots most_routines counts.routines (λ r. routine_by_record (record_at f s r)) blank;
      counters = in_slots most_counters counts.counters (λ c. signed (word_at s (parts.counters + counter_bytes * c))) (pos 0);
      listed = line_in s parts.listed;
      starting = line_in s parts.starting;
      broadcast = in_slots most_signals counts.signals (signal_in s parts.broadcast) false;
    }

-- no fault of form: "A form other than 1, an R, E or C beyond document 01's limits"; R is at least 1
unfoldable pub counts_formed : Form → List ℕ → Bool
counts_formed f s =
    let counts = counts_in s in
    eqb (half_at s 0) f.number
    && leb 1 counts.routines
    && leb counts.routines most_routines
    && leb counts.signals f.mostsignals
    && leb counts.counters most_counters

-- "a wrong offset or length", "a list over 64"
unfoldable pub parts_formed : Form → List ℕ → Bool
parts_formed f s =
    let parts = parts_of f s in
    eqb (half_at s 8) game_header_bytes
    && eqb (half_at s 10) parts.counters
    && eqb (half_at s 12) parts.listed
    && leb (half_at s parts.listed) most_entries
    && leb (half_at s parts.starting) most_entries
    && eqb (length s) parts.end

-- "a stage over 4, an unnamed flag"
abbrev pub flag_limit : ℕ
flag_limit = 32

abbrev pub record_formed : List ℕ → Bool
record_formed s = leb (get_or s 0 0) stopped && ltb (get_or s 1 0) flag_limit

-- the bytes have the form
unfoldable pub is_formed : Form → List ℕ → Bool
is_formed f s =
    counts_formed f s
    && parts_formed f s
    && all_below (counts_in s).routines (λ r. record_formed (record_at f s r))
    -- "a set bit beyond E"
    && all_from (counts_in s).signals (f.setsize * byte_bits) (λ e. not (signal_in s (parts_of f s).broadcast e))
