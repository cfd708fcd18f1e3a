-- `parts::Writer::put_counters` meets its contract. The invariant: the bytes of the first counters are put. What the machine reads back of a
-- signed number is the number, since it fits 32 bits.
use mathlib.Core.Path.{refl, ap, ◌∙◌}
use native.Mathlib.Omega.{arith}
use borrow.Author.Rules.{rules}
use lib.IntN.{pos}
use lib.ListN.{length, get_or}
use mir.Syntax.{w32}
use mir.Val.{SFits}
use mir.Facts.{to_z-of_z}
use Rattle.storing.proofs.Puts.{joined_starts, joined_next, joined_place}
use Rattle.storing.proofs.Numbers.{counter_bytes_lem}
use Rattle.storing.proofs.parts.Writer.put_counters.Goals as goal

pub loop-value-init : goal.loop-value-init
loop-value-init c = joined_starts _ c.args.self.now (omega (arith, c.requires))

pub put-requires : goal.put-requires
put-requires c =
    let l = c.loop-value in
    let place = joined_place _ l.value-index l.invariant 4 (λ k. refl) in
    omega (arith, place, l.invariant.put.same_length, ap length c.to_le_bytes.ensures, c.loop-value-test.true, c.requires)

pub loop-value-preserved : goal.loop-value-preserved
loop-value-preserved c =
    let l = c.loop-value in
    let v = get_or c.args.values.now l.value-index (pos 0) in
    let fits : SFits w32 v = search rules in
    let bytes = c.to_le_bytes.ensures ∙ rw (to_z-of_z fits) (counter_bytes_lem v) in
    joined_next _ l.value-index l.invariant (rw bytes at c.put.ensures)
