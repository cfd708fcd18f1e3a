-- `turns::run` meets its contract: the steps that are still allowed lead to what all that are allowed led to, and each step that goes on
-- has room for its effect.
use Rattle.passing.proofs.Runs.{Inside}
use Rattle.passing.proofs.turns.run.Given as goal

abbrev pub invariant-loop-taken : goal.invariant-loop-taken
invariant-loop-taken l =
    Inside l.steps l.routine l.eoi l.initial.tables l.initial.given l.initial.marks l.tables l.given l.marks l.x l._taken
