-- `parts::Writer::put_header` meets its contract: the seven numbers are put one behind another.
use Rattle.stored_games.specs.Stored.{game_header}
use Rattle.storing.proofs.Puts.{writes_then}
use Rattle.storing.proofs.parts.Writer.put_header.Goals as goal

pub returns : goal.returns
unfolding game_header
returns c =
    let to-two = writes_then c.put_half.ensures c.put_half-2.ensures in
    let to-four = writes_then (writes_then to-two c.put_half-3.ensures) c.put_half-4.ensures in
    let counters = rw c.counters_from.ensures at c.put_half-6.ensures in
    let lists = rw c.lists_from.ensures at c.put_half-7.ensures in
    writes_then (writes_then (writes_then to-four c.put_half-5.ensures) counters) lists
