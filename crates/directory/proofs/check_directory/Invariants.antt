-- `directory::check_directory` meets its contract. The invariant: the entries before `routine` follow each other, and `sum` is the sum of
-- their counts.
use Prim.Native.Nat.{◌*◌, ◌≤◌}
use mathlib.Core.Path.{◌≡◌}
use Rattle.numbers.specs.Numbers.{half_limit}
use Rattle.directory.specs.Directory.{steps_before, EntriesFollow}
use Rattle.directory.proofs.check_directory.Given as goal

abbrev pub invariant-loop-routine : goal.invariant-loop-routine
invariant-loop-routine l =
    EntriesFollow l.book l.routine × (l.sum ≡ steps_before l.book l.routine) × (l.sum ≤ half_limit * l.routine)
