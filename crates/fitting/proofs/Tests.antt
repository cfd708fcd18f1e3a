-- What a test says where it passes, as an equivalence: tests of numbers, joined tests, a choice by a test,
-- and a test at each, or at one, of the first n numbers. By the two directions of each.
use Prim.Native.Nat.{ℕ, ◌<◌, ◌≤◌}
use mathlib.Core.Path.{◌≡◌, refl}
use mathlib.Core.Bool.{Bool, true, false, ◌&&◌, ◌||◌, not}
use mathlib.Core.Logic.Iff
use mathlib.Core.Logic.{◌↔◌}
use lib.Dec.{ltb, leb, eqb}
use borrow.Author.Tests.{ltb-true, ltb-false, lt-ltb, le-ltb, leb-true, le-leb, eqb-true, eq-eqb, not-true}
use Rattle.std.specs.Prelude.{if◌then◌else◌}
use Rattle.numbers.proofs.Tests.{clash, and_both, both_true, not_true_false}
use Rattle.numbers.specs.Counting.{all_below, any_below}
use Rattle.numbers.proofs.Below.{all_holds, all_true, any_holds, any_found}

pub less : (a b : ℕ) → (ltb a b ≡ true) ↔ (a < b)
less a b = (ltb-true a b, lt-ltb a b)

pub not_less : (a b : ℕ) → (ltb a b ≡ false) ↔ (b ≤ a)
not_less a b = (ltb-false a b, le-ltb a b)

pub at_most : (a b : ℕ) → (leb a b ≡ true) ↔ (a ≤ b)
at_most a b = (leb-true a b, le-leb a b)

pub equal : (a b : ℕ) → (eqb a b ≡ true) ↔ (a ≡ b)
equal a b = (eqb-true a b, eq-eqb a b)

pub fails : (t : Bool) → (not t ≡ true) ↔ (t ≡ false)
fails t = (not-true t, λ e. rw e)

pub refuted : {P : Type 0} {t : Bool} → (t ≡ true) ↔ P → (t ≡ false) ↔ (P → ⊥)
refuted {t = t} p = (λ e k. clash (p.1 k) e, λ n. not_true_false t (λ e. n (p.0 e)))

pub denied : {P : Type 0} (t : Bool) → (t ≡ true) ↔ P → (not t ≡ true) ↔ (P → ⊥)
denied t p = Iff.trans (fails t) (refuted p)

-- the second of two tests may lean on what the first says
pub and_then : {P Q : Type 0} {a b : Bool} → (a ≡ true) ↔ P → (P → (b ≡ true) ↔ Q) → ((a && b) ≡ true) ↔ (P × Q)
and_then {a = a} {b = b} p q = (
  λ h. let (first, second) = and_both a b h in (p.0 first, (q (p.0 first)).0 second),
  λ h. both_true (p.1 h.0) ((q h.0).1 h.1),
)

pub both : {P Q : Type 0} {a b : Bool} → (a ≡ true) ↔ P → (b ≡ true) ↔ Q → ((a && b) ≡ true) ↔ (P × Q)
both p q = and_then p (λ _. q)

-- one of two tests: the second where the first fails
pub or_else : {B Q : Type 0} {y : Bool} (t : Bool) → (t ≡ false) ↔ B → (y ≡ true) ↔ Q → ((t || y) ≡ true) ↔ (B → Q)
or_else true b q = (λ h k. clash refl (b.1 k), λ h. refl)
or_else false b q = (λ h _. q.0 h, λ h. q.1 (h (b.0 refl)))

-- a choice by a test t, which says A where it passes and B where it fails
pub choice :
    {A B P Q : Type 0} {x y : Bool} (t : Bool) →
    (t ≡ true) ↔ A → (t ≡ false) ↔ B → (x ≡ true) ↔ P → (y ≡ true) ↔ Q →
    ((if t then x else y) ≡ true) ↔ ((A → P) × (B → Q))
choice true a b p q = (λ h. (λ _. p.0 h, λ k. clash refl (b.1 k)), λ h. p.1 (h.0 (a.0 refl)))
choice false a b p q = (λ h. (λ k. clash (a.1 k) refl, λ _. q.0 h), λ h. q.1 (h.1 (b.0 refl)))

pub by_order :
    {P Q : Type 0} {x y : Bool} (a b : ℕ) → (x ≡ true) ↔ P → (y ≡ true) ↔ Q →
    ((if ltb a b then x else y) ≡ true) ↔ ((a < b → P) × (b ≤ a → Q))
by_order a b = choice (ltb a b) (less a b) (not_less a b)

pub each :
    {P : ℕ → Type 0} (n : ℕ) (test : ℕ → Bool) → ((i : ℕ) → i < n → (test i ≡ true) ↔ P i) →
    (all_below n test ≡ true) ↔ ((i : ℕ) → i < n → P i)
each n test p = (λ h i l. (p i l).0 (all_holds test n h i l), λ h. all_true test n (λ i l. (p i l).1 (h i l)))

pub some :
    {P : ℕ → Type 0} (n : ℕ) (test : ℕ → Bool) → ((i : ℕ) → (test i ≡ true) ↔ P i) →
    (any_below n test ≡ true) ↔ ((i : ℕ) × (i < n) × P i)
some n test p = (
  λ h. let (i, l, e) = any_found test n h in (i, l, (p i).0 e),
  λ h. any_holds test n h.0 h.1 ((p h.0).1 h.2),
)
