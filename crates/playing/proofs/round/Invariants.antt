-- `round` meets its contract. The invariant: the first `at` routines are taken apart. Once all are, the round is opened; its passes are
-- played out, and the tables behind them have the round's game.
use mathlib.Core.Path.{◌≡◌}
use Rattle.opening.proofs.Taking.{Taken}
use Rattle.playing.proofs.round.Given as goal

abbrev pub invariant-loop-at : goal.invariant-loop-at
invariant-loop-at l =
    let t = l.tables in
    Taken l.fn.game.routines l.at t.flags t.fields × (t.counters ≡ l.fn.game.counters) × (t.tally ≡ l.initial.tables.tally)
