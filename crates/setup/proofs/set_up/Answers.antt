-- `setup::set_up` meets its contract: the verdict is the book's, and decides between the new game and the lent one as the contract does.
-- The new game fits an accepted book.
use mathlib.Core.Path.{◌∙◌}
use borrow.Author.Tests.{eq-eqb, ne_eqb}
use Rattle.fitting.proofs.Outcomes.{promised}
use Rattle.setup.specs.SetUp.{set_up}
use Rattle.setup.proofs.SetUp.{set_up_fits}
use Rattle.setup.proofs.set_up.Goals as goal

pub returns-then-verdict-eq0 : goal.returns-then-verdict-eq0
unfolding set_up
returns-then-verdict-eq0 c =
    let read = c.verdict_of-verdict.ensures ∙ c.read_book.ensures in
    promised (set_up_fits _ _)
    (rw (← read, eq-eqb _ _ c.if-verdict-eq0.true, ← c.counts_of.ensures, ← c.new_game-next.ensures))

pub returns : goal.returns
unfolding set_up
returns c =
    let read = c.verdict_of-verdict.ensures ∙ c.read_book.ensures in
    promised (set_up_fits _ _) (rw (← read, ne_eqb _ _ c.if-verdict-eq0.false))
