-- `all_passes` meets its contract: the passes that are still allowed lead to what all that are allowed led to.
use Rattle.passing.proofs.AllPasses.{Among}
use Rattle.passing.proofs.all_passes.Given as goal

abbrev pub invariant-loop-passes : goal.invariant-loop-passes
invariant-loop-passes l =
    Among l.book l.order l.initial.tables l.initial.given l.initial.marks l.tables l.given l.marks l.eoi l.passes
