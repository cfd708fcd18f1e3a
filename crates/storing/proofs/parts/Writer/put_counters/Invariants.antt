-- `parts::Writer::put_counters` meets its contract. The invariant: the bytes of the first counters are put.
use lib.IntN.{pos}
use lib.ListN.{get_or}
use Rattle.numbers.specs.Bytes.{word_bytes, complement}
use Rattle.stored_games.specs.Bits.{joined_below}
use Rattle.storing.specs.Puts.{Writes}
use Rattle.storing.proofs.parts.Writer.put_counters.Given as goal

abbrev pub invariant-loop-value : goal.invariant-loop-value
invariant-loop-value l =
    Writes (joined_below l.value-index (λ c. word_bytes (complement (get_or l.values c (pos 0))))) l.initial.self l.self
