-- `all_passes` meets its contract: the passes that are still allowed lead to what all that are allowed led to.
use Prim.Native.Nat.{◌-◌}
use mathlib.Core.Path.{◌≡◌, ◌∙◌}
use native.Mathlib.Omega.{arith}
use Rattle.round.specs.Rounds.{most_passes}
use Rattle.passing.proofs.AllPasses.{pass_asks, ends, goes, no_pass}
use Rattle.passing.proofs.all_passes.Goals as goal

pub pass-requires-clause-pass_asks : goal.pass-requires-clause-pass_asks
pass-requires-clause-pass_asks c =
    let i = c.loop-passes.invariant in
    let asked = c.requires.passes_ask in
    (asked.0, rw i.given_long (pass_asks i c.loop-passes-test.true asked.0 asked.1))

pub returns-then-pass-clause-passes_after : goal.returns-then-pass-clause-passes_after
returns-then-pass-clause-passes_after c =
    (c.loop-passes.eoi, ends c.loop-passes.invariant c.loop-passes-test.true _ _ _ _ c.pass.ensures.continued_after c.if-pass.true)

pub loop-passes-preserved : goal.loop-passes-preserved
loop-passes-preserved c =
    let i = c.loop-passes.invariant in
    let pass = c.pass.ensures in
    goes i c.loop-passes-test.true _ _ _ _ pass.continued_after c.if-pass.false (rw i.given_long at pass.whole_2)
    (pass.given_len_unchanged ∙ i.given_long) (c.pass.auto.marks ∙ i.marks_long)

pub returns-clause-passes_after : goal.returns-clause-passes_after
returns-clause-passes_after c =
    let i = c.loop-passes.invariant in
    let all : c.loop-passes.passes ≡ most_passes = omega (arith, i.few, c.loop-passes-test.false) in
    let none : most_passes - most_passes ≡ 0 = omega arith in
    (c.loop-passes.eoi, λ g. rw (all, none, no_pass) at (i.leads g))
