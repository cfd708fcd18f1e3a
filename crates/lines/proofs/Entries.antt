-- How many entries of a list count at most; and the entries from one on: that entry and those behind it, or none once all are passed.
use Prim.Native.Nat.{ℕ, ◌+◌, ◌≤◌, ◌<◌}
use mathlib.Core.Path.{◌≡◌}
use mathlib.Core.List.{[], ◌∷◌}
use native.Mathlib.Omega.{arith}
use native.Mathlib.Numerals.{add-one}
use lib.ListN.{length, drop, length-take, drop_of_length-le}
use lib.Seq.{drop-cons, get_or-take}
use Rattle.lines.specs.declared.Line.{Line}
use Rattle.lines.specs.Lines.{most_entries, item_at, used_of, entries_of}

pub used_most : (l : Line) → used_of l ≤ most_entries
used_most l = grind arith

module _ (l : Line) (at : ℕ) where
  pub entries_on : length l.items ≡ most_entries → at < used_of l → drop at (entries_of l) ≡ item_at l at ∷ drop (at + 1) (entries_of l)
  entries_on long more =
      let inside : at < length (entries_of l) = simp (length-take, long) (omega (arith, used_most l)) in
      rw (drop-cons (entries_of l) at 0 inside, get_or-take (used_of l) l.items at 0 more, add-one)

  pub entries_over : used_of l ≤ at → drop at (entries_of l) ≡ []
  entries_over over = drop_of_length-le (entries_of l) {i = at} (simp length-take (omega arith))
