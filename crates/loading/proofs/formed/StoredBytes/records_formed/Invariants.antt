-- `formed::StoredBytes::records_formed` meets its contract. The invariant: every record before `routine` passes.
use mathlib.Core.Path.{◌≡◌}
use mathlib.Core.Bool.{true}
use Rattle.numbers.specs.Counting.{all_below}
use Rattle.stored_games.specs.Reading.{record_at, record_formed}
use Rattle.loading.proofs.formed.StoredBytes.records_formed.Given as goal

abbrev pub invariant-loop-routine : goal.invariant-loop-routine
invariant-loop-routine l = all_below l.routine (λ i. record_formed (record_at l.self.form.form l.self.bytes.now i)) ≡ true
