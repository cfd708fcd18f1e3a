-- `listing::put_round_line` meets its contract: its parts are put one behind another.
use Rattle.texts.specs.Texts.{ascii}
use Rattle.texts.proofs.Behind.{puts_then}
use Rattle.listing.specs.Listing.{round_line}
use Rattle.listing.proofs.put_round_line.Goals as goal

pub returns : goal.returns
unfolding ascii round_line
returns c = puts_then (puts_then (puts_then c.put_numbered.ensures c.put_numbered-2.ensures) c.put_numbered-3.ensures) c.put.ensures
