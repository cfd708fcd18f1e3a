-- `listing::put_refusal` meets its contract: its parts are put one behind another.
use Rattle.texts.specs.Texts.{ascii}
use Rattle.texts.proofs.Behind.{puts_then}
use Rattle.listing.specs.Listing.{refusal_line}
use Rattle.listing.proofs.put_refusal.Goals as goal

pub returns : goal.returns
unfolding ascii refusal_line
returns c =
    puts_then
    (puts_then (rw c.from.ensures at c.put_numbered.ensures) (rw c.from-2.ensures at c.put_numbered-2.ensures))
    c.put.ensures
