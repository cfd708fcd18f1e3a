-- `formed::StoredBytes::is_formed` meets its contract: where the parts are right, the records lie within the bytes.
use mathlib.Core.Path.{sym, ◌∙◌}
use Rattle.numbers.proofs.Tests.{clash}
use Rattle.loading.proofs.Inside.{parts_inside}
use Rattle.loading.proofs.formed.StoredBytes.is_formed.Goals as goal
use Rattle.loading.proofs.formed.StoredBytes.is_formed.Goals.{then-counts_formed, else-counts_formed}

pub records_formed-requires-clause-in_bounds : goal.records_formed-requires-clause-in_bounds
records_formed-requires-clause-in_bounds c =
    rw c.counts-counts.ensures.0 (elim c.if-counts_formed.branch [
      | then-counts_formed w ↦
          (parts_inside _ _ (sym w.parts_formed.ensures ∙ sym w.value-is ∙ c.if-parts_formed.true)).records
      | else-counts_formed w ↦ clash (sym w.value-is ∙ c.if-parts_formed.true) w.if-counts_formed.false
    ])
