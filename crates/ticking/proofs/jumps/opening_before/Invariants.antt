-- `ticking::jumps::opening_before` meets its contract. The invariant: the search from `at` on, with so many inner pairs open, is the whole
-- search.
use Prim.Native.Nat.{◌+◌, ◌≤◌}
use mathlib.Core.Path.{◌≡◌}
use Rattle.round.specs.Jumps.{opening_before}
use Rattle.ticking.proofs.jumps.opening_before.Given as goal

abbrev pub invariant-loop-at : goal.invariant-loop-at
invariant-loop-at l = (opening_before l.steps l.depth l.at ≡ opening_before l.steps 0 l.place) × (l.at + l.depth ≤ l.place)
