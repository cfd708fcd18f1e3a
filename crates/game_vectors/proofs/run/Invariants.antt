-- `game_vectors::run` is safe and ends. The loop's invariant: what is kept lies within the piece.
use Rattle.std.proofs.Common.{◌≤◌, length}
use Rattle.game_vectors.proofs.run.Given as goal

abbrev pub invariant-loop : goal.invariant-loop
invariant-loop l = l.kept ≤ length l.piece
