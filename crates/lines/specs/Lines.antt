-- Lists of routines: "the playing order of listed routines" (the paper's actual), "the routines to start in order" (to_start).
use Rattle.std.specs.Prelude.{ℕ, ◌+◌, Bool, List, [], ◌∷◌, ltb, eqb, get_or, set, take, replicate, if◌then◌else◌}
use Rattle.lines.specs.declared.Line.{Line}
use Rattle.numbers.specs.Counting.{any_below}

-- how many entries a list has room for
abbrev pub most_entries : ℕ
most_entries = 64

-- a list of these entries and this length
abbrev pub line_of : List ℕ → ℕ → Line
line_of items len = record { items = items; len = len }

-- a list without entries
abbrev pub empty : Line
empty = line_of (replicate most_entries 0) 0

-- entry i of a list
abbrev pub item_at : Line → ℕ → ℕ
item_at l i = get_or l.items i 0

-- how many entries count: as many as the length says, and no more than there are
abbrev pub used_of : Line → ℕ
used_of l = if ltb l.len most_entries then l.len else most_entries

-- routine r is in a list
unfoldable pub is_in : Line → ℕ → Bool
is_in l r = any_below (used_of l) (λ i. eqb (item_at l i) r)

-- routine r at a list's end; a full list takes no more
abbrev pub pushed : Line → ℕ → Line
pushed l r = if ltb l.len most_entries then line_of (set l.items l.len r) (l.len + 1) else l

-- the routines in a list, in order
abbrev pub entries_of : Line → List ℕ
entries_of l = take (used_of l) l.items

-- a list with these routines at its end, as far as it has room
unfoldable pub appended : Line → List ℕ → Line
appended l [] = l
appended l (r ∷ rs) = appended (pushed l r) rs
