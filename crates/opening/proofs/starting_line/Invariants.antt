-- `opening::starting_line` meets its contract. The invariant: the entries below `at` are the row's, and those from there on are 0.
use Prim.Native.Nat.{ℕ, ◌<◌, ◌≤◌}
use mathlib.Core.Path.{◌≡◌}
use lib.ListN.{get_or, length}
use Rattle.lines.specs.Lines.{most_entries}
use Rattle.tables.specs.Tables.{starting_row, last_row}
use Rattle.opening.proofs.starting_line.Given as goal

abbrev pub invariant-loop-at : goal.invariant-loop-at
invariant-loop-at l = record {
  long : length l.items ≡ most_entries;
  row : (i : ℕ) → i < l.at → get_or l.items i 0 ≡ get_or (last_row starting_row l.tables.fields) i 0;
  beyond : (i : ℕ) → l.at ≤ i → i < most_entries → get_or l.items i 0 ≡ 0;
}
