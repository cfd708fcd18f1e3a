-- `actions::settle` meets its contract. The invariant: the entries that are left, settled from the fields and the list as both are, give
-- what all give at the start.
use mathlib.Core.Path.{◌≡◌}
use lib.ListN.{drop}
use Rattle.lines.specs.Lines.{line_of, empty}
use Rattle.opening.specs.Actions.{settled, settled_line}
use Rattle.opening.proofs.actions.settle.Given as goal

abbrev pub invariant-loop-routine : goal.invariant-loop-routine
invariant-loop-routine l =
    let rest = drop l.routine-index l.routine-items in
    let begun = l.initial.tables in
    (record l.tables { fields = settled l.tables.flags rest l.tables.fields }
    ≡ record begun { fields = settled begun.flags l.routine-items begun.fields })
    × (settled_line l.tables.flags rest l.tables.fields (line_of l.items l.len) ≡ settled_line begun.flags l.routine-items begun.fields empty)
