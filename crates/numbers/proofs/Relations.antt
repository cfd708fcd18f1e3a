-- The relation test answers 1 exactly where the relation holds, for any relation's number: 2 and above are "greater".
-- Each of the three tests is read as the order that it tests; two numbers are equal where each is at most the other.
use Prim.Native.Nat.{ℕ, zero, suc}
use mathlib.Core.Path.{◌≡◌}
use mathlib.Core.Logic.{◌↔◌}
use mathlib.Core.Bool.{true, false}
use native.Mathlib.Omega.{arith}
use lib.Dec.{eqb}
use lib.IntN.{ℤ}
use Rattle.std.proofs.lemmas.Int.{ints}
use Rattle.numbers.specs.Numbers.{relation_of}
use Rattle.numbers.specs.Relations.{Holds}
use Rattle.numbers.proofs.Tests.{clash}

pub relation_holds : (relation : ℕ) (v n : ℤ) → (eqb (relation_of relation v n) 1 ≡ true) ↔ Holds relation v n
relation_holds zero v n = (λ e. grind (arith, ints), λ h. grind (arith, ints))
relation_holds (suc zero) v n = (λ e. grind (arith, ints), λ h. grind (arith, ints))
relation_holds (suc (suc k)) v n = (λ e. grind (arith, ints), λ h. grind (arith, ints))

pub relation_fails : (relation : ℕ) (v n : ℤ) → eqb (relation_of relation v n) 1 ≡ false → Holds relation v n → ⊥
relation_fails relation v n e h = clash ((relation_holds relation v n).1 h) e
