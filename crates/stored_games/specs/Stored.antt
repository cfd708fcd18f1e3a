-- A game as bytes: document 02, Paper 2, part by part in its order.
use Rattle.std.specs.Prelude.{ℕ, ◌+◌, ◌*◌, Bool, false, List, [], ◌∷◌, ◌++◌, get_or, take}
use Rattle.numbers.specs.Counting.{list_below}
use Rattle.numbers.specs.Bytes.{half_bytes, word_bytes, complement}
use Rattle.kinds.specs.declared.Counts.{Counts}
use Rattle.lines.specs.declared.Line.{Line}
use Rattle.lines.specs.Lines.{entries_of}
use Rattle.game.specs.declared.Routine.{Routine}
use Rattle.game.specs.declared.Game.{Game}
use Rattle.game.specs.Game.{routine_at, counter_at}
use Rattle.stored_games.specs.declared.Form.{Form}
use Rattle.stored_games.specs.Bits.{from_bits, joined_below}
use Rattle.stored_games.specs.Forms.{byte_bits}

-- "Header of seven 16-bit numbers: form 1, R, E, C, and the offsets of records (14), counters and lists, each part following the one
-- before."
abbrev pub game_header_bytes : ℕ
game_header_bytes = 14

abbrev pub counter_bytes : ℕ
counter_bytes = 4

abbrev pub count_bytes : ℕ
count_bytes = 2

abbrev pub counters_from : Form → Counts → ℕ
counters_from f counts = game_header_bytes + f.recordsize * counts.routines

abbrev pub lists_from : Form → Counts → ℕ
lists_from f counts = counters_from f counts + counter_bytes * counts.counters

unfoldable pub game_header : Form → Counts → List ℕ
game_header f counts =
    half_bytes f.number
    ++ half_bytes counts.routines
    ++ half_bytes counts.signals
    ++ half_bytes counts.counters
    ++ half_bytes game_header_bytes
    ++ half_bytes (counters_from f counts)
    ++ half_bytes (lists_from f counts)

-- "flags (1 suspended, 2 begun, 4 to stop, 8 to suspend, 16 to resume)"
abbrev pub flags_of : Routine → ℕ
flags_of x = from_bits (x.suspended ∷ x.begun ∷ x.stopping ∷ x.suspending ∷ x.resuming ∷ [])

-- "A record has 8 bytes: stage, flags .., place in 16 bits, count left in 32."
abbrev pub fields_of : Routine → List ℕ
fields_of x = (x.stage ∷ flags_of x ∷ []) ++ half_bytes x.place ++ word_bytes x.left

-- as many of these as a record of the form has bytes
unfoldable pub record_of : Form → Routine → List ℕ
record_of f x = take f.recordsize (fields_of x)

-- "The lists are the playing order and those to start, each a 16-bit count and one byte a routine"
unfoldable pub line_bytes : Line → List ℕ
line_bytes l = half_bytes l.len ++ entries_of l

-- "signal i being bit i mod 8 of byte i / 8 (rounded down), lowest bit first": byte k of the set
unfoldable pub set_byte : List Bool → ℕ → ℕ
set_byte flags k = from_bits (list_below byte_bits (λ i. get_or flags (k * byte_bits + i) false))

unfoldable pub stored : Form → Game → List ℕ
stored f g =
    game_header f g.counts
    ++ joined_below g.counts.routines (λ r. record_of f (routine_at g r))
    -- "Counters have 32 bits, two's complement."
    ++ joined_below g.counts.counters (λ c. word_bytes (complement (counter_at g c)))
    ++ line_bytes g.listed
    ++ line_bytes g.starting
    -- "then 8 bytes of broadcast signals"
    ++ joined_below f.setsize (λ k. set_byte g.broadcast k ∷ [])

-- how many bytes that takes, with so many entries in the two lists
unfoldable pub length_of : Form → Counts → ℕ → ℕ → ℕ
length_of f counts listed starting = lists_from f counts + count_bytes + listed + count_bytes + starting + f.setsize
