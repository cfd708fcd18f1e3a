-- `readers::read_routine` meets its contract: the part up to the routine's last step has just its steps, and what is found of the block
-- that they are is the walk over the routine.
use Rattle.std.proofs.lemmas.Result.{err_from_is_err_and}
use Rattle.reading.proofs.Views.{steps_taken}
use Rattle.reading.proofs.OwnBlock.{routine_past, routine_stops, routine_fault}
use Rattle.reading.proofs.readers.read_routine.Goals as goal

pub returns-in_err-block : goal.returns-in_err-block
returns-in_err-block c =
    let fault = err_from_is_err_and c.from_residual.result c.from_residual.ensures.1 in
    rw (fault.1, fault.2) (routine_fault _ _ (steps_taken c.args.part.now c.args.count c.requires) c.in_err-block.ensures.result_value)

pub returns-in-Beyond : goal.returns-in-Beyond
returns-in-Beyond c =
    let told = c.in_ok-block.ensures in
    routine_past _ _ (steps_taken c.args.part.now c.args.count c.requires) c.in_ok-block.block
    told.result_value told.stopped c.in-Beyond.is

pub returns-in_default : goal.returns-in_default
returns-in_default c =
    let told = c.in_ok-block.ensures in
    routine_stops _ _ (steps_taken c.args.part.now c.args.count c.requires) c.in_ok-block.block
    told.result_value told.stopped c.in_default.not-Beyond
