-- `parts::Writer::put_set` meets its contract. The invariant: the first bytes of the set are put.
use mathlib.Core.List.{[], ◌∷◌}
use Rattle.stored_games.specs.Bits.{joined_below}
use Rattle.stored_games.specs.Stored.{set_byte}
use Rattle.storing.specs.Puts.{Writes}
use Rattle.storing.proofs.parts.Writer.put_set.Given as goal

abbrev pub invariant-loop-byte : goal.invariant-loop-byte
invariant-loop-byte l = Writes (joined_below l.byte (λ k. set_byte l.flags k ∷ [])) l.initial.self l.self
