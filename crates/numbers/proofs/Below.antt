-- A test at each, or at one, of the first n numbers, with one turn of a loop over them; and a sum over them: smaller summands have a
-- smaller sum, a sum can be cut in two, and one summand can be taken out. By induction on n: the last of the first n + 1 numbers is n.
use Prim.Native.Nat.{ℕ, zero, suc, ◌+◌, ◌<◌, ◌≤◌}
use mathlib.Core.Path.{◌≡◌, refl}
use mathlib.Core.Bool.{Bool, true, false, and-false, or-true, or-false}
use mathlib.Core.Logic.{◌≢◌}
use native.Mathlib.Nat.{add-zero, add-suc}
use native.Mathlib.Omega.{arith}
use native.Mathlib.Decide.{ℕ_discrete}
use native.Mathlib.Numerals.{add-one}
use borrow.Author.Tests.{eq-eqb, ne_eqb}
use lib.Dec.{eqb}
use Rattle.std.specs.Prelude.{if◌then◌else◌}
use Rattle.numbers.proofs.Tests.{clash, and_both, both_true, by_flag}
use Rattle.numbers.specs.Counting.{all_below, any_below, sum_below}

module _ (test : ℕ → Bool) where
  pub all_holds : (n : ℕ) → all_below n test ≡ true → (i : ℕ) → i < n → test i ≡ true
  unfolding all_below
  all_holds zero h i l = absurd (omega arith)
  all_holds (suc n) h i l =
      let both = and_both (all_below n test) (test n) h in
      elim (ℕ_discrete i n) [ yes e ↦ rw e both.1 | no ne ↦ all_holds n both.0 i (omega arith) ]

  pub all_true : (n : ℕ) → ((i : ℕ) → i < n → test i ≡ true) → all_below n test ≡ true
  unfolding all_below
  all_true zero h = refl
  all_true (suc n) h = both_true (all_true n (λ i l. h i (omega arith))) (h n (omega arith))

  pub all_fails : (n i : ℕ) → i < n → test i ≡ false → all_below n test ≡ false
  unfolding all_below
  all_fails zero i l h = absurd (omega arith)
  all_fails (suc n) i l h =
      elim (ℕ_discrete i n) [ yes e ↦ rw (← e, h, and-false) | no ne ↦ rw (all_fails n i (omega arith) h) ]

  -- the loop goes on behind number i
  pub all_next : (i : ℕ) → all_below i test ≡ true → test i ≡ true → all_below (i + 1) test ≡ true
  unfolding all_below
  all_next i h t = rw (add-one, h, t)

  -- the loop ends
  pub all_ends : {n i : ℕ} → all_below i test ≡ true → i ≤ n → n ≤ i → all_below n test ≡ true
  all_ends {n} {i} h l m = let e : n ≡ i = omega arith in rw e h

  pub any_holds : (n i : ℕ) → i < n → test i ≡ true → any_below n test ≡ true
  unfolding any_below
  any_holds zero i l h = absurd (omega arith)
  any_holds (suc n) i l h =
      elim (ℕ_discrete i n) [ yes e ↦ rw (← e, h, or-true) | no ne ↦ rw (any_holds n i (omega arith) h) ]

  pub any_next : (i : ℕ) → any_below i test ≡ false → test i ≡ false → any_below (i + 1) test ≡ false
  unfolding any_below
  any_next i h t = rw (add-one, h, t)

  pub any_ends : {n i : ℕ} → any_below i test ≡ false → i ≤ n → n ≤ i → any_below n test ≡ false
  any_ends {n} {i} h l m = let e : n ≡ i = omega arith in rw e h

  pub any_found : (n : ℕ) → any_below n test ≡ true → (i : ℕ) × (i < n) × (test i ≡ true)
  unfolding any_below
  any_found zero h = clash h refl
  any_found (suc n) h =
      by_flag (test n) (λ e. (n, omega arith, e)) (λ e.
      let before = any_found n (rw (e, or-false) at h) in
      (before.0, omega arith, before.2))

pub below_le : (f g : ℕ → ℕ) → ((r : ℕ) → f r ≤ g r) → (n : ℕ) → sum_below f n ≤ sum_below g n
unfolding sum_below
below_le f g h zero = omega arith
below_le f g h (suc n) = omega (arith, h n, below_le f g h n)

pub below_same : (f g : ℕ → ℕ) (n : ℕ) → ((i : ℕ) → i < n → f i ≡ g i) → sum_below f n ≡ sum_below g n
unfolding sum_below
below_same f g zero h = refl
below_same f g (suc n) h = omega (arith, below_same f g n (λ i l. h i (omega arith)), h n (omega arith))

-- behind m summands come those that are m further on
pub below_cut : (f : ℕ → ℕ) (m n : ℕ) → sum_below f (m + n) ≡ sum_below f m + sum_below (λ i. f (m + i)) n
unfolding sum_below
below_cut f m zero = simp add-zero
below_cut f m (suc n) = rw add-suc (omega (arith, below_cut f m n))

-- the summands but that of r
abbrev pub without : ℕ → (ℕ → ℕ) → ℕ → ℕ
without r f q = if eqb q r then 0 else f q

module _ (r : ℕ) (f : ℕ → ℕ) where
  without_own : without r f r ≡ 0
  without_own = rw (eq-eqb r r refl)

  pub without_other : (q : ℕ) → q ≢ r → without r f q ≡ f q
  without_other q n = rw (ne_eqb q r n)

  pub below_without : (n : ℕ) → r < n → sum_below (without r f) n + f r ≡ sum_below f n
  unfolding sum_below
  below_without zero l = absurd (omega arith)
  below_without (suc n) l =
      elim (ℕ_discrete n r) [
        | yes e ↦
            let before = below_same (without r f) f r (λ i h. without_other i (λ d. omega arith)) in
            rw e (omega (arith, without_own))
        | no d ↦ omega (arith, without_other n d, below_without n (omega arith))
      ]
