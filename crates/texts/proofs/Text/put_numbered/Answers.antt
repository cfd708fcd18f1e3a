-- `Text::put_numbered` meets its contract: the number is put behind the word.
use Rattle.texts.proofs.Behind.{puts_then}
use Rattle.texts.proofs.Text.put_numbered.Goals as goal

pub returns : goal.returns
returns g c = puts_then c.put.ensures c.put_in.ensures
