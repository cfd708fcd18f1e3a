-- `formed::StoredBytes::set_formed` meets its contract. The invariant: every bit before `at` passes, and `at` is not before `signals`, where the loop
-- begins. The bits before `signals` pass whatever they are, and those that are seen at once not to be set pass together.
use Prim.Native.Nat.{ℕ, ◌-◌, ◌≤◌}
use mathlib.Core.Path.{◌≡◌}
use mathlib.Core.Bool.{Bool, true, ◌||◌, not}
use mathlib.Core.List.{List}
use lib.Dec.{ltb}
use Rattle.numbers.specs.Counting.{all_below}
use Rattle.stored_games.specs.Reading.{signal_in}
use Rattle.loading.proofs.formed.StoredBytes.set_formed.Given as goal

-- the test of a bit, which one before `signals` passes
abbrev pub signal_passes : List ℕ → ℕ → ℕ → ℕ → Bool
signal_passes s from signals e = ltb e signals || not (signal_in s from e)

abbrev pub invariant-loop-at : goal.invariant-loop-at
invariant-loop-at l = (all_below l.at (signal_passes l.self.bytes.now l.from l.signals) ≡ true) × (l.signals ≤ l.at)

abbrev pub decreases-loop-at : goal.decreases-loop-at
decreases-loop-at l = l.all - l.at
