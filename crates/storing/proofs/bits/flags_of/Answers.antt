-- `storing::bits::flags_of` meets its contract: each flag counts as its bit.
use native.Mathlib.Omega.{arith}
use Rattle.stored_games.specs.Bits.{from_bits}
use Rattle.storing.proofs.Flags.{bit_of_flag}
use Rattle.storing.proofs.bits.flags_of.Goals as goal

pub returns : goal.returns
unfolding from_bits
returns c =
    let x = c.args.x in
    rw (
      c.from.ensures,
      c.from-2.ensures,
      c.from-3.ensures,
      c.from-4.ensures,
      c.from-5.ensures,
      bit_of_flag x.suspended,
      bit_of_flag x.begun,
      bit_of_flag x.stopping,
      bit_of_flag x.suspending,
      bit_of_flag x.resuming,
    )
    (omega arith)
