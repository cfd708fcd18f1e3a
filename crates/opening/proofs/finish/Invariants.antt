-- `opening::finish` meets its contract. The invariant: the routines below `at` are the tables' own.
use Prim.Native.Nat.{ℕ, ◌<◌}
use mathlib.Core.Path.{◌≡◌}
use lib.ListN.{get_or}
use Rattle.game.specs.Game.{blank}
use Rattle.tables.specs.Tables.{routine_in}
use Rattle.opening.proofs.finish.Given as goal

abbrev pub invariant-loop-at : goal.invariant-loop-at
invariant-loop-at l = (i : ℕ) → i < l.at → get_or l.routine-items i blank ≡ routine_in l.tables.flags l.tables.fields i
