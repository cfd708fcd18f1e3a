-- Whether the lists, the counters and the signals of a game fit a book, as a test of each slot of an array in turn: document 01,
-- "A game fits a book if". "anything kept beyond them is 0; every number lies in its range".
use Rattle.std.specs.Prelude.{ℕ, ◌<◌, ◌≡◌, Bool, false, ◌&&◌, ◌||◌, not, List, leb, ltb, eqb, get_or, replicate, ℤ, pos, if◌then◌else◌}
use Rattle.numbers.specs.Numbers.{byte_limit, lowest_counter, highest_counter, is_within}
use Rattle.layout.specs.Layout.{most_signals, most_counters}
use Rattle.lines.specs.declared.Line.{Line}
use Rattle.numbers.specs.Counting.{all_below}
use Rattle.lines.specs.Lines.{most_entries, item_at, is_in}

-- the entries of a list before entry i
abbrev pub entries_before : Line → ℕ → Line
entries_before l i = record { items = l.items; len = i }

-- slot i of a list: an entry, which is one of the routines and not among those before it ("no routine is twice in a list"), or behind
-- the list's length
unfoldable pub entry_fits : Line → ℕ → ℕ → Bool
entry_fits l routines i =
    if ltb i l.len then ltb (item_at l i) routines && not (is_in (entries_before l i) (item_at l i)) else eqb (item_at l i) 0

unfoldable pub line_fits : Line → ℕ → Bool
line_fits l routines = leb l.len most_entries && all_below most_entries (entry_fits l routines)

-- slot c of the counters: a counter of the book, which "holds −1,000,000 to 1,000,000", or beyond C, where only 0 lies from 0 to 0
abbrev pub counter_fits : ℤ → ℕ → ℕ → Bool
counter_fits v counters c = if ltb c counters then is_within v lowest_counter highest_counter else is_within v (pos 0) (pos 0)

unfoldable pub counters_fit : List ℤ → ℕ → Bool
counters_fit values counters = all_below most_counters (λ c. counter_fits (get_or values c (pos 0)) counters c)

-- slot e of the signals to broadcast: a signal of the book, or beyond E
abbrev pub signal_fits : Bool → ℕ → ℕ → Bool
signal_fits flag signals e = ltb e signals || not flag

unfoldable pub signals_fit : List Bool → ℕ → Bool
signals_fit flags signals = all_below most_signals (λ e. signal_fits (get_or flags e false) signals e)

-- a flag for each number that an entry of a list can be, none of them set
abbrev pub unflagged : List Bool
unflagged = replicate byte_limit false

-- the flags that are set are those of the routines in a list
abbrev pub Flagged : List Bool → Line → Type 0
Flagged seen l = (r : ℕ) → r < byte_limit → get_or seen r false ≡ is_in l r
