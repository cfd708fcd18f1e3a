-- `stored_games::form_1` meets its contract: form 1 is one that the laws and the code hold for.
use Rattle.stored_games.proofs.Forms.{form1_usable}
use Rattle.stored_games.proofs.form_1.Goals as goal

pub invariant_of-result : goal.invariant_of-result
invariant_of-result c = record { usable = form1_usable }
