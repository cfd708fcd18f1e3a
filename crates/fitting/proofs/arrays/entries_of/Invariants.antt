-- The invariant: every entry so far fits, and the flags tell which routines these are.
use mathlib.Core.Path.{◌≡◌}
use mathlib.Core.Bool.{true}
use lib.ListN.{length}
use Rattle.numbers.specs.Numbers.{byte_limit}
use Rattle.numbers.specs.Counting.{all_below}
use Rattle.fitting.specs.Arrays.{entries_before, entry_fits, Flagged}
use Rattle.fitting.proofs.arrays.entries_of.Given as goal

abbrev pub invariant-loop-item : goal.invariant-loop-item
invariant-loop-item l = record {
  fit : all_below l.item-index (entry_fits l.line l.routines) ≡ true;
  marked : Flagged l.seen (entries_before l.line l.item-index);
  size : length l.seen ≡ byte_limit;
}
