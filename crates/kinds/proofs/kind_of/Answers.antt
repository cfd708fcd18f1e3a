-- `kinds::kind_of` meets its contract. In each arm the op is known, so that its row of the table computes; the last arm has the op of the
-- table's last row, or one past the table. What the machine reads back of n is n, since n fits 32 bits.
use native.Mathlib.Omega.{arith}
use mir.Facts.{to_z-of_z}
use Rattle.kinds.specs.Steps.{row_of}
use Rattle.kinds.proofs.Rows.{last_kind}
use Rattle.kinds.proofs.kind_of.Goals as goal

pub returns-in-2 : goal.returns-in-2
unfolding row_of
returns-in-2 c = rw (c.in-2.is, to_z-of_z c.ranges.n)

pub returns-in_default : goal.returns-in_default
returns-in_default c = last_kind c.args.op c.args.a c.args.b _ (omega arith)
