-- `numbers::relation` meets its contract: what is read off the difference is the contract's three answers, and the weights choose among
-- them as the relation's number does.
use mathlib.Core.Path.{◌∙◌}
use mir.Facts.{to_z-of_z}
use Rattle.numbers.proofs.Differences.{raised_to}
use Rattle.numbers.proofs.Answered.{worked_out}
use Rattle.numbers.proofs.relation.Goals as goal

pub returns : goal.returns
returns c =
    let s = c.before.before.before.before in
    let v = raised_to s.ranges.v (rw (to_z-of_z s.ranges.v) at c.raised.ensures.0) in
    let n = raised_to s.ranges.n (rw (to_z-of_z s.ranges.n) at c.raised-2.ensures.0) in
    c.weighed-2.ensures.0
    ∙ rw (c.weighed.ensures.0, v, n)
    (worked_out s.args.relation s.args.v s.args.n s.ranges.relation.fits s.ranges.v s.ranges.n)
