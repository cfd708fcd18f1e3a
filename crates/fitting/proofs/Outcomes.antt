-- What a contract promises of an answer, from what it is equal to.
use Prim.Native.Nat.{ℕ}
use mathlib.Core.Path.{◌≡◌, sym, subst}
use mathlib.Core.List.{List}
use Rattle.game.specs.declared.Outcome.{Outcome}
use Rattle.fitting.specs.Fits.{GivesFitting}

pub promised : {s : List ℕ} {r o : Outcome} → GivesFitting s o → r ≡ o → (r ≡ o) × GivesFitting s r
promised {s} f e = (e, subst (GivesFitting s) (sym e) f)
