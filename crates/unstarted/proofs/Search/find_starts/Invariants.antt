-- The invariant: the steps that are left, from what is found so far, find what all of them find at the start.
use mathlib.Core.Path.{◌≡◌}
use Rattle.kinds.specs.Steps.{steps_in}
use Rattle.unstarted.specs.Unstarted.{with_steps}
use Rattle.unstarted.specs.Seen.{seen}
use Rattle.unstarted.proofs.Search.find_starts.Given as goal

abbrev pub invariant-loop-step : goal.invariant-loop-step
invariant-loop-step l = record {
  left :
      with_steps (steps_in l.step-iterator.rest.now) l.step-iterator.rest.now 0 (seen l.self)
      ≡ with_steps (steps_in l.steps) l.steps 0 (seen l.fn.self);
  size : l.step-iterator.size ≡ 8;
}
