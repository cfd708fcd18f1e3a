-- `ticking::act_of` meets its contract. In each arm the kind is known, so that the tick of that kind computes; what is left are the arms
-- that ask whether their thing is there.
use Rattle.tables.specs.Tables.{state_of}
use Rattle.round.specs.State.{is_there}
use Rattle.round.specs.Ticks.{waits_for, tick_of}
use Rattle.ticking.proofs.Acting.{choice_act, timed_act, end_held}
use Rattle.ticking.proofs.act_of.Goals as goal

pub returns-in-Wait : goal.returns-in-Wait
unfolding tick_of state_of is_there
returns-in-Wait c =
    let k = c.in-Wait in
    λ g t same. rw (k.is, choice_act, ← c.is_present.ensures, ← c.fresh-in-Wait.ensures) c.tries.ensures

pub returns-in-WaitFor : goal.returns-in-WaitFor
unfolding tick_of state_of is_there waits_for
returns-in-WaitFor c =
    let k = c.in-WaitFor in
    λ g t same. rw (k.is, timed_act, ← c.is_present-in-WaitFor.ensures, ← c.count_at-in-WaitFor.ensures) c.waits_for.ensures

pub returns-in-Join : goal.returns-in-Join
unfolding tick_of state_of is_there
returns-in-Join c =
    let k = c.in-Join in
    let r = rw k.is at c.requires.1 in
    λ g t same.
    rw (k.is, choice_act, end_held g _ _ _ _ t _ k.t r, ← c.end_there.ensures, ← c.fresh-in-Join.ensures)
    c.tries-in-Join.ensures

pub returns-in-JoinFor : goal.returns-in-JoinFor
unfolding tick_of state_of is_there waits_for
returns-in-JoinFor c =
    let k = c.in-JoinFor in
    let r = (rw k.is at c.requires.1).0 in
    λ g t same.
    rw (k.is, timed_act, end_held g _ _ _ _ t _ k.t r, ← c.end_there-in-JoinFor.ensures, ← c.count_at-in-JoinFor.ensures)
    c.waits_for-in-JoinFor.ensures

pub returns-in-Read : goal.returns-in-Read
unfolding tick_of state_of is_there
returns-in-Read c = λ g t same. rw (c.in-Read.is, choice_act, same) c.reads.ensures
