-- What the answer is, said without computing: "a list, in rising number, of the routines that no chain of start steps leads to from
-- routine 0".
use Rattle.std.specs.Prelude.{ℕ, ◌<◌, List, ◌↔◌, length, get_or}
use Rattle.numbers.specs.Counting.{Among}
use Rattle.layout.specs.Layout.{routines_of}
use Rattle.unstarted.specs.Chains.{Chain}
use Rattle.unstarted.specs.Unstarted.{names_of}

-- each number of a list is greater than those before it
abbrev pub Rises : List ℕ → Type 0
Rises l = (i j : ℕ) → i < j → j < length l → get_or l i 0 < get_or l j 0

pub record NamesUnstarted (book : List ℕ) : Type 0 where
  -- "in rising number", so none is named twice
  pub rising : Rises (names_of book)
  -- those that are named are the routines of the book to which no chain leads; the empty chain leads to routine 0, so it is never named
  pub named : (r : ℕ) → Among r (names_of book) ↔ ((r < routines_of book) × (Chain book r → ⊥))
