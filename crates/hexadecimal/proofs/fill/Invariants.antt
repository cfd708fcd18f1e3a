-- `hexadecimal::fill` meets its contract. The loop's invariant: the bytes left, put into the buffer as it is, give what all of them give
-- in the buffer as lent.
use Prim.Native.Nat.{◌-◌, ◌/◌}
use mathlib.Core.Path.{◌≡◌}
use lib.ListN.{length}
use Rattle.hexadecimal.specs.Hex.{written_from}
use Rattle.hexadecimal.proofs.fill.Given as goal

abbrev pub invariant-loop-count : goal.invariant-loop-count
invariant-loop-count l =
    written_from l.word (length l.word / 2 - l.count) l.bytes l.count ≡ written_from l.word (length l.word / 2) l.initial.bytes 0
