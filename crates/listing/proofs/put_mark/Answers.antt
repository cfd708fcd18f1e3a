-- `listing::put_mark` meets its contract: its parts are put one behind another.
use mir.Facts.{to_z-of_z}
use Rattle.texts.specs.Texts.{ascii}
use Rattle.texts.proofs.Behind.{puts_then}
use Rattle.listing.specs.Listing.{mark_line}
use Rattle.listing.proofs.put_mark.Goals as goal

pub returns : goal.returns
unfolding ascii mark_line
returns c =
    let fits = c.ranges in
    puts_then
    (puts_then (rw (to_z-of_z fits.routine) at c.put_numbered.ensures) (rw (to_z-of_z fits.number) at c.put_numbered-2.ensures))
    c.put.ensures
