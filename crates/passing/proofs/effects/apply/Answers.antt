-- `effects::apply` meets its contract: what is left are a mark and an addition, whose effect on the state computes.
use mir.Syntax.{w32}
use mir.Val.{SFits}
use mir.Facts.{to_z-of_z}
use borrow.Author.Rules.{rules}
use Rattle.passing.proofs.Held.{mark_held, add_held}
use Rattle.passing.proofs.effects.apply.Goals as goal

pub returns-in-Mark-clause-eoi_after : goal.returns-in-Mark-clause-eoi_after
returns-in-Mark-clause-eoi_after c = λ g eoi. rw c.in-Mark.is (mark_held g _ _ _ _ _ eoi _ _)

pub returns-in-Add-clause-eoi_after : goal.returns-in-Add-clause-eoi_after
returns-in-Add-clause-eoi_after c =
    let fits : SFits w32 c.in-Add.v.sum = search rules in
    λ g eoi. rw (c.in-Add.is, c.put_counter-in-Add.ensures, to_z-of_z fits) (add_held g _ _ _ _ _ eoi _ _)
