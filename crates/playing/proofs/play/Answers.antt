-- `playing::play` meets its contract: what passes the checks is played, and a refusal is the definition's.
use mathlib.Core.Path.{◌∙◌}
use Rattle.playing.proofs.Answering.{plays, promised}
use Rattle.playing.proofs.play.Goals as goal

pub returns-in-Ok : goal.returns-in-Ok
returns-in-Ok c =
    let a = c.args in
    let (accepts, fit, room) = c.in-Ok.ensures.passed in
    let p = promised a.book.now a.game a.marks.now (c.round.ensures ∙ plays _ _ _ accepts fit room) in
    record { marks_after = p.0; lost_le_most_lost = p.1.0; demand3 = p.1.1.0; by_the_rules = p.1.1.1 }

pub returns-in-Err : goal.returns-in-Err
returns-in-Err c =
    let a = c.args in
    let told = rw c.from.ensures at (c.turned_down.ensures a.marks.now) in
    let p = promised a.book.now a.game a.marks.now (told ∙ c.in-Err.ensures.refusal) in
    record { marks_after = p.0; lost_le_most_lost = p.1.0; demand3 = p.1.1.0; by_the_rules = p.1.1.1 }
