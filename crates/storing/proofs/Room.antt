-- Within a book's limits the parts of a stored game lie near its front: a record has at most 8 bytes, a counter 4,
-- and there are at most 64 of each.
use Prim.Native.Nat.{◌≤◌}
use native.Mathlib.Omega.{arith}
use Rattle.kinds.specs.declared.Counts.{Counts}
use Rattle.stored_games.specs.declared.Form.{Form}
use Rattle.stored_games.specs.Forms.{Usable}
use Rattle.stored_games.specs.Stored.{counters_from, lists_from}
use Rattle.stored_games.proofs.Lengths.{record_bytes}
use Rattle.storing.specs.Puts.{WithinLimits}

module _ {f : Form} {counts : Counts} (usable : Usable f) (within : WithinLimits counts) where
  pub counters_near : counters_from f counts ≤ 526
  counters_near = omega (arith, record_bytes usable counts.routines, within.routines)

  pub lists_near : lists_from f counts ≤ 782
  lists_near = omega (arith, counters_near, within.counters)
