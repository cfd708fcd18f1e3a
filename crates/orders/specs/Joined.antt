-- What an order does to its list or set: "Each joins its list for the next round."
use Rattle.std.specs.Prelude.{ℕ, zero, suc, ◌≡◌, true, ◌⊎◌}
use Rattle.game.specs.declared.Game.{Game}
use Rattle.game.specs.Game.{routine_at, is_broadcast}
use Rattle.fitting.specs.Fits.{In}

-- by kind: n is to be broadcast, to start, to stop, to suspend, to resume
unfoldable pub Joined : ℕ → Game → ℕ → Type 0
Joined zero g n = is_broadcast g n ≡ true
Joined (suc zero) g n = In g.starting n
Joined (suc (suc zero)) g n = (routine_at g n).stopping ≡ true
Joined (suc (suc (suc zero))) g n = (routine_at g n).suspending ≡ true
Joined (suc (suc (suc (suc zero)))) g n = (routine_at g n).resuming ≡ true
Joined (suc (suc (suc (suc (suc kind))))) g n = ⊥

-- what was in a list or set is still there, and n is all that came to it
pub record OnlyAdds (n : ℕ) (before after : ℕ → Type 0) : Type 0 where
  pub stays : (m : ℕ) → before m → after m
  pub only : (m : ℕ) → after m → before m ⊎ (m ≡ n)
