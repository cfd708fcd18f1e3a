-- `pass` meets its contract: what is left of the playing order leads to what the whole order led to, and the entry at hand is its first.
use Rattle.passing.proofs.OnePass.{Between}
use Rattle.passing.proofs.pass.Given as goal

abbrev pub invariant-loop-routine : goal.invariant-loop-routine
invariant-loop-routine l =
    Between l.book l.eoi l.initial.tables l.initial.given l.initial.marks l.fn.order l.tables l.given l.marks l.done l.routine-index
