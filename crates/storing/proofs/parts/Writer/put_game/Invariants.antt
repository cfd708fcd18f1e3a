-- `parts::Writer::put_game` meets its contract. The invariant: the records of the first routines are put behind the header.
use Rattle.stored_games.proofs.Ends.{records_part}
use Rattle.storing.specs.Puts.{Writes}
use Rattle.storing.proofs.parts.Writer.put_game.Given as goal

abbrev pub invariant-loop-routine : goal.invariant-loop-routine
invariant-loop-routine l = Writes (records_part l.fn.form.form l.fn.game l.routine-index) l.initial.self l.self
