-- `arrays::routines_in` meets its contract: a list that is short enough fits if its entries do and nothing is behind them.
use mathlib.Core.Path.{◌≡◌}
use mathlib.Core.Bool.{and-true, and-false}
use borrow.Author.Rules.{rules}
use borrow.Author.Tests.{lt-leb}
use lib.ListN.{length}
use Rattle.lines.specs.Lines.{most_entries}
use Rattle.fitting.specs.Arrays.{line_fits}
use Rattle.fitting.proofs.Ranges.{line_parts}
use Rattle.fitting.proofs.arrays.routines_in.Goals as goal
use Rattle.fitting.proofs.arrays.routines_in.Goals.{else-line-le-MOST_ENTRIES-via-then-line-le-MOST_ENTRIES+else-rest_fits, else-line-le-MOST_ENTRIES-via-else-line-le-MOST_ENTRIES}

pub returns-then-rest_fits : goal.returns-then-rest_fits
returns-then-rest_fits c =
    let size : length c.args.line.now.items ≡ most_entries = search rules in
    let parts = line_parts c.args.line.now c.args.routines size c.if-line-le-MOST_ENTRIES.true in
    rw (parts, ← c.rest_fits.ensures, c.if-rest_fits.true, and-true) c.entries_of.ensures

pub returns-else-line-le-MOST_ENTRIES : goal.returns-else-line-le-MOST_ENTRIES
unfolding line_fits
returns-else-line-le-MOST_ENTRIES c =
    let size : length c.args.line.now.items ≡ most_entries = search rules in
    elim c.else-line-le-MOST_ENTRIES.branch [
      | else-line-le-MOST_ENTRIES-via-then-line-le-MOST_ENTRIES+else-rest_fits w ↦
          let parts = line_parts c.args.line.now c.args.routines size w.if-line-le-MOST_ENTRIES.true in
          rw (parts, ← w.rest_fits.ensures, w.if-rest_fits.false, and-false)
      | else-line-le-MOST_ENTRIES-via-else-line-le-MOST_ENTRIES w ↦ rw (lt-leb _ _ w.if-line-le-MOST_ENTRIES.false)
    ]
