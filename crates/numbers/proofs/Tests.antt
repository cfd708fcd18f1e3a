-- Laws of tests: two tests joined by && or ||, a test that is not true or has both values, a choice by a test and a claim by one, a test of
-- order turned round. Those that the library has are its laws, under the names by which they are known here.
use mathlib.Core.Path.{◌≡◌, refl, sym, ◌∙◌}
use mathlib.Core.Bool.{Bool, true, false, not, ◌&&◌, ◌||◌, true≢false}
use mathlib.Core.Logic.{◌⊎◌, inl, inr}
use native.Mathlib.Omega.{arith}
use lib.IntN.{ℤ}
use lib.Signed.{lt_z, le_z}
use Rattle.std.specs.Prelude.{if◌then◌else◌}
use Rattle.std.proofs.lemmas.Bool.{and_from, cond_both}
use Rattle.std.proofs.lemmas.Int.{ints}
pub use Rattle.std.proofs.lemmas.Bool.{and_parts as and_both, or_parts as neither, false_from_ne_true as not_true_false}

-- no test has both values
pub clash : {P : Type 0} {t : Bool} → t ≡ true → t ≡ false → P
clash h k = absurd (true≢false (sym h ∙ k))

pub both_true : {a b : Bool} → a ≡ true → b ≡ true → (a && b) ≡ true
both_true {a} {b} h k = and_from a b h k

pub first_or_second : (a b : Bool) → (a || b) ≡ true → (a ≡ true) ⊎ ((a ≡ false) × (b ≡ true))
first_or_second true b h = inl refl
first_or_second false b h = inr (refl, h)

-- a claim on both sides of a choice, each where it is taken, holds of what is taken
pub by_test : {A : Type 0} (P : A → Type 0) (t : Bool) {x y : A} → (t ≡ true → P x) → (t ≡ false → P y) → P (if t then x else y)
by_test P t {x} {y} p q = cond_both t x y P p q

-- a claim that follows from either value holds
pub by_flag : {P : Type 0} (t : Bool) → (t ≡ true → P) → (t ≡ false → P) → P
by_flag true p q = p refl
by_flag false p q = q refl

-- a test of order, turned round
pub turned : (x y : ℤ) → lt_z y x ≡ not (le_z x y)
turned x y = grind (arith, ints)
