-- `kept_rounds::play_kept` meets its contract: the answer is the round or its refusal. What is promised besides holds of the definition's
-- answer.
use mathlib.Core.Path.{◌∙◌}
use Rattle.kept_rounds.proofs.Rounds.{lost_promised}
use Rattle.kept_rounds.proofs.play_kept.Goals as goal

pub returns-in-Ok-clause-lost_le_most_lost : goal.returns-in-Ok-clause-lost_le_most_lost
returns-in-Ok-clause-lost_le_most_lost c = lost_promised _ _ _ _ c.in-Ok.ensures

pub returns-in-Err-clause-marks_after : goal.returns-in-Err-clause-marks_after
returns-in-Err-clause-marks_after c = c.turned_down.ensures _ _ ∙ c.in-Err.ensures

pub returns-in-Err-clause-lost_le_most_lost : goal.returns-in-Err-clause-lost_le_most_lost
returns-in-Err-clause-lost_le_most_lost c = lost_promised _ _ _ _ (c.turned_down.ensures _ _ ∙ c.in-Err.ensures)
