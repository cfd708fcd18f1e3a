-- `formed::StoredBytes::set_formed` meets its contract. The invariant: every bit before `at` passes, and `at` is not before `signals`, where the loop
-- begins. The bits before `signals` pass whatever they are, and those that are seen at once not to be set pass together.
use mathlib.Core.Path.{sym}
use native.Mathlib.Omega.{arith}
use native.Mathlib.Decide.{dec_lt}
use borrow.Author.Rules.{rules}
use borrow.Author.Tests.{lt-ltb, le-ltb}
use Rattle.numbers.specs.Counting.{all_from}
use Rattle.numbers.proofs.Below.{all_holds, all_true, all_fails}
use Rattle.loading.proofs.formed.StoredBytes.set_formed.Invariants.{signal_passes}
use Rattle.loading.proofs.formed.StoredBytes.set_formed.Goals as goal

-- the contract's test of a bit
pub loop-at-init : goal.loop-at-init
loop-at-init c =
    (all_true (signal_passes c.args.self.now.bytes.now c.args.from c.args.signals) _ (λ i h. rw (lt-ltb i _ h)), search rules)

pub returns-then-clear-eq0 : goal.returns-then-clear-eq0
unfolding all_from
returns-then-clear-eq0 c =
    let l = c.loop-at in
    sym
    (all_fails (signal_passes c.args.self.now.bytes.now c.args.from c.args.signals) _ l.at c.loop-at-test.true
    (rw (le-ltb l.at _ l.invariant.1, c.clear_from-clear.ensures.none c.if-clear-eq0.true)))

pub loop-at-preserved : goal.loop-at-preserved
loop-at-preserved c =
    let l = c.loop-at in
    let t = signal_passes c.args.self.now.bytes.now c.args.from c.args.signals in
    let clear = c.clear_from-clear.ensures in (
      all_true t _ (λ i below.
          elim (dec_lt i l.at) [
            | yes k ↦ all_holds t l.at l.invariant.0 i k
            | no k ↦ rw (le-ltb i c.args.signals (omega (arith, l.invariant.1, k)), clear.clear i (omega (arith, k)) below)
          ]),
      omega (arith, l.invariant.1),
    )

pub returns : goal.returns
unfolding all_from
returns c =
    let l = c.loop-at in
    let t = signal_passes c.args.self.now.bytes.now c.args.from c.args.signals in
    sym (all_true t _ (λ i h. all_holds t l.at l.invariant.0 i (omega (arith, h, c.loop-at-test.false))))
