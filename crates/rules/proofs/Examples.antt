-- Whatever answer the rules give is the definition's answer, which is evaluated.
use mathlib.Core.Path.{ap, ◌∙◌}
use Rattle.game.specs.Game.{routine_at}
use Rattle.round.specs.Answers.{Answer}
use Rattle.round.specs.examples.Examples.{from_set_up, marks_in_both, room_for_two, as_told}
use Rattle.rules.specs.Examples.{StandsInFirstBlock}
use Rattle.rules.proofs.OneAnswer.{only_answer}

pub stands_in_first_block : StandsInFirstBlock
stands_in_first_block x given =
    let g = from_set_up marks_in_both in
    let (_, _, _, _, _, _, place, _, _) = as_told in
    ap (λ (y : Answer). (routine_at y.game 0).place) (only_answer marks_in_both g room_for_two x given) ∙ place
