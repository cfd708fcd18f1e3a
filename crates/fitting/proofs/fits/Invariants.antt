-- The invariant: every slot so far fits.
use mathlib.Core.Path.{◌≡◌}
use mathlib.Core.Bool.{true}
use Rattle.numbers.specs.Counting.{all_below}
use Rattle.fitting.specs.Routines.{slot_fits}
use Rattle.fitting.proofs.fits.Given as goal

abbrev pub invariant-loop-routine : goal.invariant-loop-routine
invariant-loop-routine l = all_below l.routine (slot_fits l.book l.game) ≡ true
