-- `parts::Writer::put_line` meets its contract: the count is put, and behind it the entries that count.
use native.Mathlib.Nat.{sub-zero}
use Rattle.stored_games.specs.Stored.{line_bytes}
use Rattle.storing.proofs.Puts.{writes_then}
use Rattle.storing.proofs.parts.Writer.put_line.Goals as goal

pub returns : goal.returns
unfolding line_bytes
returns c =
    let used = c.used-all in
    writes_then c.put_half.ensures (rw (sub-zero used.result, used.ensures.0) at c.put.ensures)
