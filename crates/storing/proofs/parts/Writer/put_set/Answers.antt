-- `parts::Writer::put_set` meets its contract. The invariant: the first bytes of the set are put.
use mathlib.Core.Path.{refl}
use native.Mathlib.Omega.{arith}
use Rattle.storing.proofs.Puts.{joined_starts, joined_next, joined_place}
use Rattle.storing.proofs.parts.Writer.put_set.Goals as goal

pub loop-byte-init : goal.loop-byte-init
loop-byte-init c = joined_starts _ c.args.self.now (omega (arith, c.requires.1))

pub put-requires : goal.put-requires
put-requires c =
    let l = c.loop-byte in
    let place = joined_place _ l.byte l.invariant 1 (λ k. refl) in
    omega (arith, place, l.invariant.put.same_length, c.loop-byte-test.true, c.requires.1)

pub loop-byte-preserved : goal.loop-byte-preserved
loop-byte-preserved c =
    joined_next _ c.loop-byte.byte c.loop-byte.invariant (rw c.set_byte.ensures at c.put.ensures)
