-- An order touches nothing but its own list or set.
-- By kind: a routine that is replaced differs in one flag, which is left out on both sides.
use Prim.Native.Nat.{ℕ, zero, suc}
use mathlib.Core.Path.{◌≡◌, refl, ap}
use mathlib.Core.List.{List, map}
use lib.ListN.{set}
use lib.Seq.{map-set_same}
use Rattle.game.specs.declared.Routine.{Routine}
use Rattle.game.specs.declared.Game.{Game}
use Rattle.game.specs.Game.{blank, routine_at, with_routines}
use Rattle.game.proofs.Outcomes.{game_either}
use Rattle.orders.specs.Orders.{order_verdict, obeyed, ordered}
use Rattle.orders.specs.Without.{without}

routine_apart :
    (g : Game) (n : ℕ) (f : Routine → Routine) (y : Routine) → f y ≡ f (routine_at g n) →
    with_routines g (map f (set g.routines n y)) ≡ with_routines g (map f g.routines)
routine_apart g n f y e = ap (with_routines g) (map-set_same f g.routines n y blank e)

pub obeyed_apart : (g : Game) (kind n : ℕ) → without kind (obeyed g kind n) ≡ without kind g
unfolding obeyed without
obeyed_apart g zero n = refl
obeyed_apart g (suc zero) n = refl
obeyed_apart g (suc (suc zero)) n = routine_apart g n _ _ refl
obeyed_apart g (suc (suc (suc zero))) n = routine_apart g n _ _ refl
obeyed_apart g (suc (suc (suc (suc zero)))) n = routine_apart g n _ _ refl
obeyed_apart g (suc (suc (suc (suc (suc kind))))) n = refl

pub order_apart : (s : List ℕ) (g : Game) (kind n : ℕ) → without kind (ordered s g kind n).game ≡ without kind g
unfolding ordered
order_apart s g kind n =
    game_either (order_verdict s g kind n) (obeyed g kind n) g (λ h. without kind h ≡ without kind g) (λ e. obeyed_apart g kind n) refl
