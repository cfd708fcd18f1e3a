-- A round behind which only the place differs between the branch that was taken and the other.
use Rattle.std.specs.Prelude.{◌≡◌}
use Rattle.game.specs.Game.{routine_at}
use Rattle.round.specs.Answers.{Answer}
use Rattle.round.specs.examples.Examples.{from_set_up, marks_in_both, room_for_two}
use Rattle.rules.specs.Claims.{ByTheRules}

-- If counter 0 equals 0, rest, mark 1; else, rest, mark 1. Behind the first round the routine stands behind the rest of the first block,
-- at place 2, and not at place 5, where the same is left to be run
abbrev pub StandsInFirstBlock : Type 0
StandsInFirstBlock =
    (answer : Answer) → ByTheRules marks_in_both (from_set_up marks_in_both) room_for_two answer → (routine_at answer.game 0).place ≡ 2
