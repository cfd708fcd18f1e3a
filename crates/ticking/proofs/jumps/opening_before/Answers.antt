-- `ticking::jumps::opening_before` meets its contract: each op takes one of the search's branches.
use mathlib.Core.Path.{◌≡◌, sym, ◌∙◌}
use native.Mathlib.Omega.{arith}
use borrow.Author.Rules.{rules}
use Rattle.std.proofs.lemmas.Bool.Decides.{nat_tests}
use Rattle.round.specs.Jumps.{opening_before}
use Rattle.ticking.proofs.Searches.{opening_on}
use Rattle.ticking.proofs.jumps.opening_before.Goals as goal

pub loop-at-preserved-in-17 : goal.loop-at-preserved-in-17
loop-at-preserved-in-17 c =
    let h = sym (opening_on _ c.loop-at.depth c.loop-at.at c.loop-at-test.true) ∙ c.loop-at.invariant.0 in
    (grind (arith, nat_tests), omega arith)

pub loop-at-preserved : goal.loop-at-preserved
loop-at-preserved c =
    let h = sym (opening_on _ c.loop-at.depth c.loop-at.at c.loop-at-test.true) ∙ c.loop-at.invariant.0 in
    (grind (arith, nat_tests), omega arith)

pub returns : goal.returns
unfolding opening_before
returns c = let z : c.loop-at.at ≡ 0 = omega arith in (rw z at c.loop-at.invariant.0, search rules)
