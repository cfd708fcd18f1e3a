-- `formed::StoredBytes::records_formed` meets its contract. A record lies within the bytes, since all records do.
use mathlib.Core.Path.{refl, sym, ◌∙◌}
use native.Mathlib.Omega.{arith}
use Rattle.numbers.specs.Counting.{all_below}
use Rattle.numbers.proofs.Below.{all_fails, all_next, all_ends}
use Rattle.stored_games.proofs.Lengths.{piece_within}
use Rattle.loading.proofs.formed.StoredBytes.records_formed.Goals as goal

pub loop-routine-init : goal.loop-routine-init
unfolding all_below
loop-routine-init c = refl

pub record-requires : goal.record-requires
record-requires c =
    let piece = piece_within c.args.self.now.form.form.recordsize c.loop-routine-test.true in
    record {
      small = omega (arith, c.requires.small, c.loop-routine-test.true);
      in_bounds = omega (arith, c.requires.in_bounds, piece);
    }

pub returns-then-not-record_formed : goal.returns-then-not-record_formed
returns-then-not-record_formed c =
    let formed = rw c.record.ensures at c.record_formed.ensures in
    sym (all_fails _ _ c.loop-routine.routine c.loop-routine-test.true (sym formed ∙ c.if-not-record_formed.true))

pub loop-routine-preserved : goal.loop-routine-preserved
loop-routine-preserved c =
    let formed = rw c.record.ensures at c.record_formed.ensures in
    all_next _ c.loop-routine.routine c.loop-routine.invariant (sym formed ∙ c.if-not-record_formed.false)

pub returns : goal.returns
returns c =
    let l = c.loop-routine in
    sym (all_ends _ l.invariant l.auto.routine-end c.loop-routine-test.false)
