-- `storing::bits::set_byte` meets its contract. The invariant: the value is the number of the bits from `bit` on.
use mathlib.Core.Path.{◌≡◌}
use Rattle.storing.proofs.Flags.{upper_bits}
use Rattle.storing.proofs.bits.set_byte.Given as goal

abbrev pub invariant-loop-bit : goal.invariant-loop-bit
invariant-loop-bit l = l.value ≡ upper_bits l.flags l.byte l.bit
