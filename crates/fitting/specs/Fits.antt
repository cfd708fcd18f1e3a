-- "A game fits a book if": document 01's paragraph, clause by clause, and last the lengths of the arrays that the types fix.
use Rattle.std.specs.Prelude.{ℕ, ◌<◌, ◌≤◌, ◌≡◌, true, false, List, ◌⊎◌, pos, Option}
use Rattle.kinds.specs.declared.Kind.{Kind}
use Rattle.numbers.specs.Numbers.{CounterInRange}
use Rattle.forms.specs.Timed.{MayBeLeft}
use Rattle.verdicts.specs.Verdicts.{accepted}
use Rattle.layout.specs.Layout.{most_routines, most_signals, most_counters, routines_of, signals_of, counters_of, counts_of}
use Rattle.directory.specs.Directory.{step_count, routine_step}
use Rattle.lines.specs.declared.Line.{Line}
use Rattle.game.specs.declared.Game.{Game}
use Rattle.game.specs.declared.Outcome.{Outcome}
use Rattle.lines.specs.Lines.{most_entries, item_at}
use Rattle.game.specs.Game.{not_started, continuing, rested, stopped, blank, routine_at, counter_at, is_broadcast, Sized}

-- routine r is in a list
abbrev pub In : Line → ℕ → Type 0
In l r = (i : ℕ) × (i < l.len) × (item_at l i ≡ r)

-- P holds of both lists of a game, the playing order and those to start
abbrev pub BothLists : Game → (Line → Type 0) → Type 0
BothLists g P = P g.listed × P g.starting

-- the step at the place of routine r
abbrev pub step_here : List ℕ → Game → ℕ → Option Kind
step_here s g r = routine_step s r (routine_at g r).place

pub record Fits (s : List ℕ) (g : Game) : Type 0 where
  -- "its numbers of routines, counters and signals are the book's"
  pub numbers : g.counts ≡ counts_of s
  -- "and anything kept beyond them is 0", list entries behind a list's length too
  pub routines_beyond : (r : ℕ) → routines_of s ≤ r → r < most_routines → routine_at g r ≡ blank
  pub counters_beyond : (c : ℕ) → counters_of s ≤ c → c < most_counters → counter_at g c ≡ pos 0
  pub signals_beyond : (e : ℕ) → signals_of s ≤ e → e < most_signals → is_broadcast g e ≡ false
  pub entries_beyond : BothLists g (λ l. (i : ℕ) → l.len ≤ i → i < most_entries → item_at l i ≡ 0)
  -- "every number lies in its range": stages 0 to 4, "place (0 to its step count)", a counter "holds −1,000,000 to 1,000,000",
  -- a list has room for 64 entries, and an entry is one of the R routines
  pub stages_in_range : (r : ℕ) → r < routines_of s → (routine_at g r).stage ≤ stopped
  pub places_in_range : (r : ℕ) → r < routines_of s → (routine_at g r).place ≤ step_count s r
  pub counters_in_range : (c : ℕ) → c < counters_of s → CounterInRange (counter_at g c)
  pub lengths_in_range : BothLists g (λ l. l.len ≤ most_entries)
  pub entries_in_range : BothLists g (λ l. (i : ℕ) → i < l.len → item_at l i < routines_of s)
  -- "routines in stages 1 and 2 are listed, those in 0 and 4 are not, and 3 may be either"
  pub listed_stages :
      (r : ℕ) → r < routines_of s → ((routine_at g r).stage ≡ continuing) ⊎ ((routine_at g r).stage ≡ rested) → In g.listed r
  pub unlisted_stages :
      (r : ℕ) → r < routines_of s → ((routine_at g r).stage ≡ not_started) ⊎ ((routine_at g r).stage ≡ stopped) → In g.listed r → ⊥
  -- "no routine is twice in a list"
  pub none_twice : BothLists g (λ l. (i j : ℕ) → i < j → j < l.len → item_at l i ≡ item_at l j → ⊥)
  -- "those to start are in stage 0"
  pub start_stages : (r : ℕ) → In g.starting r → (routine_at g r).stage ≡ not_started
  -- "Begun is set only at a step of op 7, 9 or 11, and the count left then lies from 0 to n − 1; otherwise it is 0."
  pub left_where_begun : (r : ℕ) → r < routines_of s → (routine_at g r).begun ≡ true → MayBeLeft (step_here s g r) (routine_at g r).left
  pub left_elsewhere : (r : ℕ) → r < routines_of s → (routine_at g r).begun ≡ false → (routine_at g r).left ≡ 0
  -- the arrays are as long as their types say, as in every game that a program holds
  pub sized : Sized g

-- where nothing is turned down, the game of an answer fits the book
abbrev pub GivesFitting : List ℕ → Outcome → Type 0
GivesFitting s o = o.verdict ≡ accepted → Fits s o.game
