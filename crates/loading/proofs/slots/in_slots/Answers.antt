-- `slots::in_slots` meets its contract: each turn fills the next slot.
use Rattle.loading.proofs.Filling.{slots_none, slots_next, slots_end}
use Rattle.loading.proofs.slots.in_slots.Goals as goal

pub loop-i-init : goal.loop-i-init
loop-i-init g c = λ f h. slots_none _ f _

pub loop-i-preserved : goal.loop-i-preserved
loop-i-preserved g c =
    let l = c.loop-i in
    λ f h. slots_next _ f _ l.i (l.invariant f h) (h l.i c.value.result c.loop-i-test.true c.value.ensures)

pub returns : goal.returns
returns g c = λ f h. slots_end _ f _ (c.loop-i.invariant f h) c.loop-i.auto.i-end c.loop-i-test.false
