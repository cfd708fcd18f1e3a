-- A list of routines passes its test exactly where its entries are routines, none of them twice, with nothing behind its length.
-- By the test at each entry; the search for an entry among those before it is the search for a routine in a shorter list.
use Prim.Native.Nat.{ℕ, ◌+◌, ◌<◌, ◌≤◌}
use mathlib.Core.Path.{◌≡◌}
use mathlib.Core.Bool.{true}
use mathlib.Core.Logic.Iff
use mathlib.Core.Logic.{◌↔◌}
use native.Mathlib.Omega.{arith}
use native.Mathlib.Decide.{dec_lt}
use lib.Dec.{eqb}
use lib.ListN.{set}
use borrow.Author.Tests.{lt-ltb, le-ltb}
use Rattle.lines.specs.declared.Line.{Line}
use Rattle.lines.specs.Lines.{most_entries, item_at, used_of, is_in}
use Rattle.fitting.specs.Arrays.{entries_before, entry_fits, line_fits}
use Rattle.fitting.specs.Fits.{In}
use Rattle.fitting.proofs.Tests.{less, at_most, equal, denied, both, by_order, each, some}

-- routine r behind a list's last entry, where there is room
abbrev pub joined : Line → ℕ → Line
joined l r = record { items = set l.items l.len r; len = l.len + 1 }

pub record LineRight (l : Line) (routines : ℕ) : Type 0 where
  pub short : l.len ≤ most_entries
  pub entries : (i : ℕ) → i < l.len → item_at l i < routines
  pub beyond : (i : ℕ) → l.len ≤ i → i < most_entries → item_at l i ≡ 0
  pub once : (i j : ℕ) → i < j → j < l.len → item_at l i ≡ item_at l j → ⊥

-- all entries of a list that is not too long count, so the search goes through them
module _ (l : Line) (short : l.len ≤ most_entries) where
  pub used_all : used_of l ≡ l.len
  used_all =
      elim (dec_lt l.len most_entries) [
        | yes h ↦ rw (lt-ltb l.len most_entries h)
        | no n ↦ rw (le-ltb l.len most_entries (omega arith)) (omega arith)
      ]

  pub is_in_lem : (r : ℕ) → (is_in l r ≡ true) ↔ In l r
  unfolding is_in
  is_in_lem r = rw used_all (some l.len (λ i. eqb (item_at l i) r) (λ i. equal (item_at l i) r))

-- what the test at entry i says
abbrev EntryRight : Line → ℕ → ℕ → Type 0
EntryRight l routines i =
    (i < l.len → (item_at l i < routines) × (In (entries_before l i) (item_at l i) → ⊥)) × (l.len ≤ i → item_at l i ≡ 0)

module _ (l : Line) (routines : ℕ) where
  entry_right : (i : ℕ) → i < most_entries → (entry_fits l routines i ≡ true) ↔ EntryRight l routines i
  unfolding entry_fits
  entry_right i h =
      let before = is_in_lem (entries_before l i) (omega arith) (item_at l i) in
      let there = both (less (item_at l i) routines) (denied _ before) in
      by_order i l.len there (equal (item_at l i) 0)

  pub line_right : (line_fits l routines ≡ true) ↔ LineRight l routines
  unfolding line_fits
  line_right =
      Iff.trans
      (both (at_most l.len most_entries) (each most_entries (entry_fits l routines) entry_right)) (
        λ h.
            record {
              short = h.0;
              entries = λ i k. ((h.1 i (omega arith)).0 k).0;
              beyond = λ i k m. (h.1 i m).1 k;
              once = λ i j k m e. ((h.1 j (omega arith)).0 m).1 (i, k, e);
            },
        λ h. (h.short, λ i k. (λ m. (h.entries i m, λ v. h.once v.0 i v.1 m v.2), λ m. h.beyond i m k)),
      )
