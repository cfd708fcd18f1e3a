-- `slots::in_slots` meets its contract. The invariant: the first `i` slots are filled.
use Prim.Native.Nat.{ℕ, ◌<◌}
use mathlib.Core.Path.{◌≡◌}
use Rattle.stored_games.specs.Reading.{in_slots}
use Rattle.loading.proofs.slots.in_slots.Given as goal

abbrev pub invariant-loop-i : goal.invariant-loop-i
invariant-loop-i g l = (f : ℕ → _) → ((k : ℕ) (r : _) → k < l.count → goal.F-post g l.value k r → r ≡ f k) → l.slots ≡ in_slots g.row.N l.i f l.fn.other
