-- `actions::join` meets its contract. The invariant: the entries that are left, put behind the list and into stage 1 as both are, give what
-- all give at the start.
use mathlib.Core.Path.{◌≡◌}
use lib.ListN.{drop}
use Rattle.lines.specs.Lines.{line_of, appended}
use Rattle.opening.specs.Actions.{continued}
use Rattle.opening.proofs.actions.join.Given as goal

abbrev pub invariant-loop-routine : goal.invariant-loop-routine
invariant-loop-routine l =
    let rest = drop l.routine-index l.routine-items in
    (appended (line_of l.items l.len) rest ≡ appended (line_of l.initial.items l.initial.len) l.routine-items)
    × (record l.tables { fields = continued rest l.tables.fields }
    ≡ record l.initial.tables { fields = continued l.routine-items l.initial.tables.fields })
