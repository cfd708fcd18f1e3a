-- `turns::run` meets its contract: the steps that are still allowed lead to what all that are allowed led to, and each step that goes on
-- has room for its effect.
use Prim.Native.Nat.{◌-◌}
use mathlib.Core.Path.{◌≡◌, refl, sym, ◌∙◌}
use native.Mathlib.Omega.{arith}
use Rattle.game.specs.declared.Game.{Game}
use Rattle.round.specs.Rounds.{most_ticks}
use Rattle.passing.proofs.Runs.{goes_fits, effect_room, goes_on_lem, halts, run_over}
use Rattle.passing.proofs.turns.run.Goals as goal

pub apply-requires-clause-fits_tables : goal.apply-requires-clause-fits_tables
apply-requires-clause-fits_tables c =
    let i = c.loop-taken.invariant in
    let p = c.requires in
    let g = p.roomy.0 in
    let act = λ (g : Game). sym (c.tick.ensures g _ refl) ∙ c.in-Goes.is in
    let room = effect_room i c.loop-taken-test.true _ _ act g p.roomy.1 in
    (goes_fits p.routine_lt_most_routines.1 _ _ _ _ (act g), rw i.given_long room, p.routine_lt_most_routines.0)

pub loop-taken-preserved : goal.loop-taken-preserved
loop-taken-preserved c =
    let i = c.loop-taken.invariant in
    let act = λ (g : Game). sym (c.tick.ensures g _ refl) ∙ c.in-Goes.is in
    let apply = c.apply in
    rw c.fresh-x.ensures
    (goes_on_lem i c.loop-taken-test.true _ _ act _ _ _ apply.ensures.eoi_after apply.ensures.marks_after
    (rw i.given_long at apply.ensures.whole_2) (apply.auto.given ∙ i.given_long) (apply.auto.marks ∙ i.marks_long))

pub returns-in-Halts-clause-marks_after : goal.returns-in-Halts-clause-marks_after
returns-in-Halts-clause-marks_after c =
    halts c.loop-taken.invariant c.loop-taken-test.true _ _ (λ (g : Game). sym (c.tick.ensures g _ refl) ∙ c.in-Halts.is)

pub returns-clause-marks_after : goal.returns-clause-marks_after
returns-clause-marks_after c =
    let z : most_ticks c.args.steps.now - c.loop-taken._taken ≡ 0 = omega (arith, c.loop-taken-test.false) in
    λ g. rw (z, run_over) at (c.loop-taken.invariant.leads g)
