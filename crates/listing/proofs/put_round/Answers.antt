-- `listing::put_round` meets its contract: the lines of the marks are put behind the round's own.
use Rattle.texts.proofs.Behind.{puts_then}
use Rattle.listing.specs.Listing.{round_lines}
use Rattle.listing.proofs.put_round.Goals as goal

pub returns : goal.returns
unfolding round_lines
returns c = puts_then c.put_round_line.ensures c.put_marks.ensures
