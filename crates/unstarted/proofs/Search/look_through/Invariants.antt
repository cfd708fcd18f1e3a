-- The invariant: the routines found so far, from the one at `at` on, find what is found from routine 0 on.
use Prim.Native.Nat.{◌-◌}
use mathlib.Core.Path.{◌≡◌}
use Rattle.layout.specs.Layout.{most_routines}
use Rattle.unstarted.specs.Unstarted.{with_found, found_from}
use Rattle.unstarted.specs.Seen.{seen}
use Rattle.unstarted.proofs.Search.look_through.Given as goal

abbrev pub invariant-loop-at : goal.invariant-loop-at
invariant-loop-at l =
    found_from (most_routines - l.at) l.book l.at (seen l.self) ≡ found_from most_routines l.book 0 (with_found 0 (seen l.fn.self))
