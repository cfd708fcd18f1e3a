-- The block reader and the step reader meet their contracts. Each turn of the block reader's loop takes one step out of what is left of the
-- block; what the block reader ensures of each block that a step holds decides how the walk over the step goes on.
use Prim.Native.Nat.{ℕ, ◌<◌, min}
use mathlib.Core.Path.{◌≡◌, refl, sym, ap, ◌∙◌}
use mathlib.Core.Bool.{◌&&◌}
use mathlib.Core.List.{List}
use native.Mathlib.Omega.{arith}
use borrow.Author.Rules.{rules}
use lib.IntN.{ℤ}
use Rattle.std.specs.Prelude.{Some, if◌then◌else◌}
use Rattle.std.proofs.lemmas.Result.{err_from_is_err_and}
use Rattle.kinds.specs.Steps.{steps_in}
use Rattle.kinds.specs.Limits.{step_within}
use Rattle.kinds.specs.declared.Kind.{Kind}
use Rattle.forms.specs.declared.Form.{Form}
use Rattle.forms.specs.declared.Form.TheVariants.{ElseMarker, EndMarker}
use Rattle.forms.specs.Forms.{form_of}
use Rattle.blocks.specs.Blocks.{stands}
use Rattle.reading.specs.Found.{view_by, stop_view}
use Rattle.reading.proofs.Views.{view_beyond, stands_there, stands_below}
use Rattle.reading.proofs.Lowered.{block_lowered}
use Rattle.reading.proofs.Remaining.{left_none, left_unreadable, left_marker, left_plain, left_pausing, left_held, left_fault, held_ahead}
use Rattle.reading.proofs.Steps.{no_else, if_too_deep, while_too_deep, step_if, step_while, if_fault, while_fault}
use Rattle.reading.proofs.Steps.{while_closed, if_alone, second_fault, if_else}
use Rattle.reading.proofs.readers.+read_blocks.Goals.{read_while-then-body, read_while-else-body}
use Rattle.reading.proofs.readers.+read_blocks.Goals.{read_if-then-first, read_if-else-first}
use Rattle.reading.proofs.readers.+read_blocks.Goals as goal

-- what stands at the place of a step that is read
there :
    (limits : List (List (List ℤ))) (steps : List ℕ) (p : ℕ) {k : Kind} {f : Form} →
    p < steps_in steps → Some k ≡ step_within limits steps p → f ≡ form_of k → view_by limits steps p ≡ stands f
there limits steps p h e f = stands_there limits steps p h (sym e) ∙ ap stands (sym f)

pub read_block-loop-at-init : goal.read_block-loop-at-init
read_block-loop-at-init t c = (block_lowered _ _ _ _ _ _ _ c.requires, c.requires)

pub read_block-returns-in_default-clause-result_value :
    goal.read_block-returns-in_default-clause-result_value
read_block-returns-in_default-clause-result_value t c =
    let wrong = left_unreadable _ _ c.args.depth _ c.loop-at.pauses c.loop-at.lowest c.loop-at-test.true (sym c.in_default.ensures) in
    sym wrong ∙ c.loop-at.invariant.0

pub read_block-loop-at-preserved-in-Plain : goal.read_block-loop-at-preserved-in-Plain
read_block-loop-at-preserved-in-Plain t c =
    let stays = there _ _ _ c.loop-at-test.true c.in-Some.ensures c.in-Plain.ensures in
    (left_plain _ _ _ _ _ _ stays c.loop-at.invariant.1 ∙ c.loop-at.invariant.0, c.loop-at.invariant.1)

pub read_block-loop-at-preserved-in-Pausing : goal.read_block-loop-at-preserved-in-Pausing
read_block-loop-at-preserved-in-Pausing t c =
    let stays = there _ _ _ c.loop-at-test.true c.in-Some.ensures c.in-Pausing.ensures in
    (left_pausing _ _ _ _ c.loop-at.pauses _ stays c.loop-at.invariant.1 ∙ c.loop-at.invariant.0, c.loop-at.invariant.1)

pub read_block-returns-in-ElseMarker : goal.read_block-returns-in-ElseMarker
read_block-returns-in-ElseMarker t c =
    let stays = there _ _ _ c.loop-at-test.true c.in-Some.ensures c.in-ElseMarker.ensures in
    record { result_value = sym (left_marker _ _ _ _ _ _ ElseMarker stays refl) ∙ c.loop-at.invariant.0; stopped = stays }

pub read_block-returns-in-EndMarker : goal.read_block-returns-in-EndMarker
read_block-returns-in-EndMarker t c =
    let stays = there _ _ _ c.loop-at-test.true c.in-Some.ensures c.in-EndMarker.ensures in
    record { result_value = sym (left_marker _ _ _ _ _ _ EndMarker stays refl) ∙ c.loop-at.invariant.0; stopped = stays }

-- an if: a fault in it, and what goes on behind it
pub read_block-returns-in_err-held-in-IfOpening : goal.read_block-returns-in_err-held-in-IfOpening
read_block-returns-in_err-held-in-IfOpening t c =
    let form = there _ _ _ c.loop-at-test.true c.in-Some.ensures c.in-IfOpening.ensures in
    let fault = err_from_is_err_and c.from_residual.result c.from_residual.ensures.1 in
    let wrong = left_fault _ _ _ _ c.loop-at.pauses _ _ form refl c.in_err-held-in-IfOpening.ensures in
    rw (fault.1, fault.2) (record { result_value = wrong ∙ c.loop-at.invariant.0; stopped = tt })

pub read_block-loop-at-smaller-in-IfOpening : goal.read_block-loop-at-smaller-in-IfOpening
read_block-loop-at-smaller-in-IfOpening t c =
    let form = there _ _ _ c.loop-at-test.true c.in-Some.ensures c.in-IfOpening.ensures in
    let ahead = held_ahead _ _ _ _ c.loop-at.pauses _ _ form refl c.in_ok-held-in-IfOpening.ensures in
    omega (arith, ahead.0, c.loop-at-test.true)

pub read_block-loop-at-preserved-in-IfOpening : goal.read_block-loop-at-preserved-in-IfOpening
read_block-loop-at-preserved-in-IfOpening t c =
    let form = there _ _ _ c.loop-at-test.true c.in-Some.ensures c.in-IfOpening.ensures in
    let held = c.in_ok-held-in-IfOpening.ensures in
    let ahead = held_ahead _ _ _ _ c.loop-at.pauses _ _ form refl held in
    (left_held _ _ _ _ c.loop-at.pauses _ _ form refl held ∙ c.loop-at.invariant.0, omega (arith, ahead.1, c.loop-at.invariant.1))

-- a while: a fault in it, and what goes on behind it
pub read_block-returns-in_err-held-in-WhileOpening : goal.read_block-returns-in_err-held-in-WhileOpening
read_block-returns-in_err-held-in-WhileOpening t c =
    let form = there _ _ _ c.loop-at-test.true c.in-Some.ensures c.in-WhileOpening.ensures in
    let fault = err_from_is_err_and c.from_residual-in_err-held-in-WhileOpening.result c.from_residual-in_err-held-in-WhileOpening.ensures.1 in
    let wrong = left_fault _ _ _ _ c.loop-at.pauses _ _ form refl c.in_err-held-in-WhileOpening.ensures in
    rw (fault.1, fault.2) (record { result_value = wrong ∙ c.loop-at.invariant.0; stopped = tt })

pub read_block-loop-at-smaller : goal.read_block-loop-at-smaller
read_block-loop-at-smaller t c =
    let form = there _ _ _ c.loop-at-test.true c.in-Some.ensures c.in-WhileOpening.ensures in
    let ahead = held_ahead _ _ _ _ c.loop-at.pauses _ _ form refl c.in_ok-held-in-WhileOpening.ensures in
    omega (arith, ahead.0, c.loop-at-test.true)

pub read_block-loop-at-preserved : goal.read_block-loop-at-preserved
read_block-loop-at-preserved t c =
    let form = there _ _ _ c.loop-at-test.true c.in-Some.ensures c.in-WhileOpening.ensures in
    let held = c.in_ok-held-in-WhileOpening.ensures in
    let ahead = held_ahead _ _ _ _ c.loop-at.pauses _ _ form refl held in
    (left_held _ _ _ _ c.loop-at.pauses _ _ form refl held ∙ c.loop-at.invariant.0, omega (arith, ahead.1, c.loop-at.invariant.1))

pub read_block-returns : goal.read_block-returns
read_block-returns t c =
    record {
      result_value = sym (left_none _ _ c.args.depth _ _ _ c.loop-at-test.false) ∙ c.loop-at.invariant.0;
      stopped = view_beyond _ _ _ c.loop-at-test.false;
    }

pub read_if-returns-then-depth-eq0 : goal.read_if-returns-then-depth-eq0
read_if-returns-then-depth-eq0 t c = rw (if_too_deep _ _ c.args.at c.if-depth-eq0.true)

pub read_if-returns-in_err-first : goal.read_if-returns-in_err-first
read_if-returns-in_err-first t c =
    let fault = err_from_is_err_and c.from_residual.result c.from_residual.ensures.1 in
    rw (fault.1, fault.2, step_if _ _ c.args.at c.args.depth c.if-depth-eq0.false) (if_fault _ _ _ _ _ c.in_err-first.ensures.result_value)

-- an if whose first block no else stops
pub read_if-closed-requires : goal.read_if-closed-requires
read_if-closed-requires t c =
    λ e. let h = stands_below _ _ _ (c.in_ok-first.ensures.stopped ∙ ap stop_view e) in search rules

pub read_if-returns-in_default : goal.read_if-returns-in_default
read_if-returns-in_default t c =
    let block = c.in_ok-first.ensures in
    rw (c.closed.ensures, step_if _ _ c.args.at c.args.depth c.if-depth-eq0.false)
    (if_alone _ _ _ _ _ block.result_value block.stopped (no_else _ c.in_default.not-AtElse))

-- and one whose first block an else stops
pub read_if-overflow_add-first : goal.read_if-overflow_add-first
read_if-overflow_add-first t c =
    let h = stands_below _ _ _ (c.in_ok-first.ensures.stopped ∙ ap stop_view c.in-AtElse.is) in search rules

pub read_if-returns-in_err-second : goal.read_if-returns-in_err-second
read_if-returns-in_err-second t c =
    let fault = err_from_is_err_and c.from_residual-in_err-second.result c.from_residual-in_err-second.ensures.1 in
    let half = c.in_ok-first.ensures in
    rw (fault.1, fault.2, step_if _ _ c.args.at c.args.depth c.if-depth-eq0.false)
    (second_fault _ _ _ _ _ half.result_value (half.stopped ∙ ap stop_view c.in-AtElse.is) c.in_err-second.ensures.result_value)

pub read_if-closed-requires-2 : goal.read_if-closed-requires-2
read_if-closed-requires-2 t c =
    λ e. let h = stands_below _ _ _ (c.in_ok-second.ensures.stopped ∙ ap stop_view e) in search rules

pub read_if-returns : goal.read_if-returns
read_if-returns t c =
    let half = c.in_ok-first.ensures in
    let end = c.in_ok-second.ensures in
    let both : c.if-first.closed ≡ (c.in_ok-first.first.pauses && c.in_ok-second.second.pauses) =
    elim c.if-first.branch [
      | read_if-then-first w ↦ rw (w.closed-is, w.if-first.true)
      | read_if-else-first w ↦ rw (w.closed-is, w.if-first.false)
    ] in
    rw (c.closed-2.ensures, both, step_if _ _ c.args.at c.args.depth c.if-depth-eq0.false)
    (if_else _ _ _ _ _ half.result_value (half.stopped ∙ ap stop_view c.in-AtElse.is) end.result_value end.stopped)

pub read_while-returns-then-depth-eq0 : goal.read_while-returns-then-depth-eq0
read_while-returns-then-depth-eq0 t c = rw (while_too_deep _ _ c.args.at c.if-depth-eq0.true)

pub read_while-returns-in_err-body : goal.read_while-returns-in_err-body
read_while-returns-in_err-body t c =
    let fault = err_from_is_err_and c.from_residual.result c.from_residual.ensures.1 in
    rw (fault.1, fault.2, step_while _ _ c.args.at c.args.depth c.if-depth-eq0.false)
    (while_fault _ _ _ _ _ c.in_err-body.ensures.result_value)

pub read_while-closed-requires : goal.read_while-closed-requires
read_while-closed-requires t c =
    λ e. let h = stands_below _ _ _ (c.in_ok-body.ensures.stopped ∙ ap stop_view e) in search rules

pub read_while-returns : goal.read_while-returns
read_while-returns t c =
    let body = c.in_ok-body.body in
    let pick : c.if-body.lowest ≡ (if body.pauses then body.lowest else min c.args.low c.args.at) =
    elim c.if-body.branch [
      | read_while-then-body w ↦ rw (w.lowest-is, w.if-body.true)
      | read_while-else-body w ↦ rw (w.lowest-is, w.if-body.false, w.min-lowest.ensures)
    ] in
    rw (c.closed.ensures, pick, step_while _ _ c.args.at c.args.depth c.if-depth-eq0.false)
    (while_closed _ _ _ _ _ c.in_ok-body.ensures.result_value c.in_ok-body.ensures.stopped)
