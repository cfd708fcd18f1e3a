-- Counting the places that pass a test, by the laws of the sum that a count is: a test that passes wherever another does, and at one place
-- more, counts more; there are no more to count than places; and what is counted.
use Prim.Native.Nat.{ℕ, zero, suc, ◌+◌, ◌<◌, ◌≤◌}
use mathlib.Core.Path.{◌≡◌, refl}
use mathlib.Core.Bool.{Bool, true, false}
use mathlib.Core.Logic.{◌↔◌}
use native.Mathlib.Decide.{ℕ_discrete}
use native.Mathlib.Nat.{add-zero}
use native.Mathlib.Numerals.{add-one}
use native.Mathlib.Omega.{arith}
use borrow.Author.Tests.{ne_eqb}
use Rattle.std.specs.Prelude.{if◌then◌else◌}
use Rattle.numbers.specs.Counting.{count_below, Counted, sum_below}
use Rattle.numbers.proofs.Tests.{clash}
use Rattle.numbers.proofs.Below.{without, below_le, below_without}

-- what one place counts
abbrev pub one : Bool → ℕ
one t = if t then 1 else 0

pub one_le : (a b : Bool) → (a ≡ true → b ≡ true) → one a ≤ one b
one_le true true up = omega arith
one_le true false up = clash (up refl) refl
one_le false true up = omega arith
one_le false false up = omega arith

-- where whatever passes the first test passes the second: place x passes the second, if c is set, and not the first
pub count_drops :
    (P Q : ℕ → Bool) → ((x : ℕ) → P x ≡ true → Q x ≡ true) →
    (n x : ℕ) → x < n → P x ≡ false → (c : Bool) → (c ≡ true → Q x ≡ true) → count_below P n + one c ≤ count_below Q n
count_drops P Q up n x l out c there =
    let counts : ℕ → ℕ = λ i. one (Q i) in
    let fewer : (i : ℕ) → one (P i) ≤ without x counts i =
    λ i. elim (ℕ_discrete i x) [
      | yes e ↦ rw (e, out) (omega arith)
      | no d ↦ rw (ne_eqb i x d) (one_le (P i) (Q i) (up i))
    ]
    in
    omega (arith, below_le _ _ fewer n, below_without x counts n l, one_le c (Q x) there)

-- the numbers that are such are those counted by a test that passes at them alone
module _ (test : ℕ → Bool) (Such : ℕ → Type 0) where
  pub counted : (n : ℕ) → ((i : ℕ) → i < n → (test i ≡ true) ↔ Such i) → Counted Such n (count_below test n)
  unfolding sum_below
  counted zero h = Counted.none
  counted (suc n) h = next (test n) (counted n (λ i l. h i (omega arith))) (h n (omega arith))
    where
      next : (t : Bool) {k m : ℕ} → Counted Such k m → (t ≡ true) ↔ Such k → Counted Such (suc k) (m + one t)
      next true c h = rw add-one (Counted.such c (h.0 refl))
      next false c h = rw add-zero (Counted.other c (λ x. clash (h.1 x) refl))
