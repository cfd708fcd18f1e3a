-- The first refusal of a row of tests is accepted if no test refuses, and otherwise it is the answer of the lowest place that does.
-- By the number of places, after the laws of one answer or else another, which are by cases on whether the first accepts.
use Prim.Native.Nat.{ℕ, zero, suc, ◌+◌, ◌-◌, ◌≤◌, ◌<◌}
use mathlib.Core.Path.{◌≡◌, refl, sym, ◌∙◌, ap}
use mathlib.Core.Bool.{Bool, true, false}
use native.Mathlib.Nat.{sub-zero, sub-eq-zero_of_le}
use native.Mathlib.Omega.{arith}
use native.Mathlib.Decide.{ℕ_discrete}
use borrow.Author.Tests.{eq-eqb, ne_eqb}
use Rattle.numbers.proofs.Left.{more_left}
use Rattle.verdicts.specs.declared.Verdict.{Verdict}
use Rattle.verdicts.specs.Verdicts.{accepted, refused, ◌or_else◌, unless, first_refusal}

pub or_else_clear : (v w : Verdict) → v.number ≡ 0 → (v or_else w) ≡ w
or_else_clear v w h = rw (eq-eqb v.number 0 h)

pub or_else_refused : (v w : Verdict) → (v.number ≡ 0 → ⊥) → (v or_else w) ≡ v
or_else_refused v w h = rw (ne_eqb v.number 0 h)

pub or_else_both : (v w : Verdict) → (v or_else w).number ≡ 0 → (v.number ≡ 0) × (w.number ≡ 0)
or_else_both v w h =
    elim (ℕ_discrete v.number 0) [
      | yes e ↦ (e, rw (or_else_clear v w e) at h)
      | no n ↦ absurd (n (rw (or_else_refused v w n) at h))
    ]

pub or_else_past : (v w : Verdict) → v ≡ accepted → (v or_else w) ≡ w
or_else_past v w e = or_else_clear v w (ap (λ u. u.number) e)

pub or_else_told : (v w : Verdict) {k p : ℕ} → v ≡ refused (suc k) p → (v or_else w) ≡ refused (suc k) p
or_else_told v w e = or_else_refused v w (λ z. omega (arith, ap (λ u. u.number) e, z)) ∙ e

pub or_else_again : (v w : Verdict) → (v or_else v or_else w) ≡ (v or_else w)
or_else_again v w =
    elim (ℕ_discrete v.number 0) [
      | yes e ↦ or_else_clear v (v or_else w) e
      | no n ↦ or_else_refused v (v or_else w) n ∙ sym (or_else_refused v w n)
    ]

pub or_else_assoc : (u v w : Verdict) → ((u or_else v) or_else w) ≡ (u or_else (v or_else w))
or_else_assoc u v w =
    elim (ℕ_discrete u.number 0) [
      | yes e ↦ rw (or_else_clear u v e, or_else_clear u (v or_else w) e)
      | no n ↦ rw (or_else_refused u v n, or_else_refused u (v or_else w) n, or_else_refused u w n)
    ]

-- what holds at j, and at each place from j + 1 to e, holds at each from j to e
with_first : (P : ℕ → Type 0) (j e : ℕ) → P j → ((k : ℕ) → j + 1 ≤ k → k < e → P k) → (k : ℕ) → j ≤ k → k < e → P k
with_first P j e first later k l m = elim (ℕ_discrete k j) [ yes same ↦ rw same first | no other ↦ later k (omega arith) m ]

module _ (at : ℕ → Verdict) where
  pub first_none : (n j : ℕ) → ((i : ℕ) → j ≤ i → i < j + n → (at i).number ≡ 0) → first_refusal at n j ≡ accepted
  unfolding first_refusal
  first_none zero j h = refl
  first_none (suc n) j h =
      or_else_clear (at j) (first_refusal at n (j + 1)) (h j (omega arith) (omega arith))
      ∙ first_none n (j + 1) (λ i l m. h i (omega arith) (omega arith))

  pub first_all : (n j : ℕ) → (first_refusal at n j).number ≡ 0 → (i : ℕ) → j ≤ i → i < j + n → (at i).number ≡ 0
  unfolding first_refusal
  first_all zero j h i l m = absurd (omega arith)
  first_all (suc n) j h i l m =
      let both = or_else_both (at j) (first_refusal at n (j + 1)) h in
      with_first (λ k. (at k).number ≡ 0) j (j + suc n) both.0 (λ k l m. first_all n (j + 1) both.1 k l (omega arith)) i l m

  pub first_at :
      (n j : ℕ) → ((first_refusal at n j).number ≡ 0 → ⊥) →
      (i : ℕ) × (j ≤ i) × (i < j + n) × (first_refusal at n j ≡ at i) × ((at i).number ≡ 0 → ⊥)
      × ((k : ℕ) → j ≤ k → k < i → (at k).number ≡ 0)
  unfolding first_refusal
  first_at zero j h = absurd (h refl)
  first_at (suc n) j h =
      elim (ℕ_discrete (at j).number 0) [
        | yes e ↦
            let past = or_else_clear (at j) (first_refusal at n (j + 1)) e in
            let found = first_at n (j + 1) (λ z. h (rw past z)) in
            (found.0, omega arith, omega arith, past ∙ found.3, found.4, with_first (λ k. (at k).number ≡ 0) j found.0 e found.5)
        | no ne ↦ (j, omega arith, omega arith, or_else_refused (at j) (first_refusal at n (j + 1)) ne, ne, λ k l m. absurd (omega arith))
      ]

  pub first_is :
      (n j i : ℕ) → j ≤ i → i < j + n → ((at i).number ≡ 0 → ⊥) → ((k : ℕ) → j ≤ k → k < i → (at k).number ≡ 0) →
      first_refusal at n j ≡ at i
  unfolding first_refusal
  first_is zero j i l m h clear = absurd (omega arith)
  first_is (suc n) j i l m h clear =
      elim (ℕ_discrete j i) [
        | yes e ↦ rw e (or_else_refused (at i) (first_refusal at n (i + 1)) h)
        | no ne ↦
            or_else_clear (at j) (first_refusal at n (j + 1)) (clear j (omega arith) (omega arith))
            ∙ first_is n (j + 1) i (omega arith) (omega arith) h (λ k a b. clear k (omega arith) b)
      ]

-- a test that tells nothing has passed
pub passed : (t : Bool) (k p : ℕ) → (k ≡ 0 → ⊥) → (unless t (refused k p)).number ≡ 0 → t ≡ true
passed true k p h e = refl
passed false k p h e = absurd (h e)

-- the tests at the first n places tell nothing exactly where what they ask holds
pub record Decides (at : ℕ → Verdict) (n : ℕ) (Good : ℕ → Type 0) : Type 0 where
  pub clear : (i : ℕ) → i < n → Good i → (at i).number ≡ 0
  pub good : (i : ℕ) → i < n → (at i).number ≡ 0 → Good i

module _ {at : ℕ → Verdict} {n : ℕ} {Good : ℕ → Type 0} (tests : Decides at n Good) where
  pub all_good : (first_refusal at n 0).number ≡ 0 → (i : ℕ) → i < n → Good i
  all_good e i l = tests.good i l (first_all at n 0 e i (omega arith) (omega arith))

  pub all_clear : ((i : ℕ) → i < n → Good i) → first_refusal at n 0 ≡ accepted
  all_clear g = first_none at n 0 (λ i l m. tests.clear i (omega arith) (g i (omega arith)))

  pub not_good : (i : ℕ) → i < n → ((at i).number ≡ 0 → ⊥) → Good i → ⊥
  not_good i l h g = h (tests.clear i l g)

  -- a claim on the first refusal, where there is one
  pub first_claim :
      (P : Verdict → Type 0) → ((first_refusal at n 0).number ≡ 0 → ⊥) →
      ((i : ℕ) → i < n → ((k : ℕ) → k < i → Good k) → ((at i).number ≡ 0 → ⊥) → P (at i)) → P (first_refusal at n 0)
  first_claim P h f =
      let found = first_at at n 0 h in
      let here : found.0 < n = omega arith in
      rw found.3 (f found.0 here (λ k l. tests.good k (omega arith) (found.5 k (omega arith) l)) found.4)

  pub first_told :
      {c p : ℕ} (i : ℕ) → i < n → ((k : ℕ) → k < i → Good k) → at i ≡ refused (suc c) p → first_refusal at n 0 ≡ refused (suc c) p
  first_told i l before e =
      first_is at n 0 i (omega arith) (omega arith) (λ z. omega (arith, ap (λ u. u.number) e, z))
      (λ k a b. tests.clear k (omega arith) (before k b))
      ∙ e

-- one turn of a loop over n places: at place i the search begins, stops, goes on, or has come to its end
pub first_begins : (at : ℕ → Verdict) (n : ℕ) → first_refusal at (n - 0) 0 ≡ first_refusal at n 0
first_begins at n = rw (sub-zero n)

module _ (at : ℕ → Verdict) (n i : ℕ) where
  pub first_stops : i < n → ((at i).number ≡ 0 → ⊥) → first_refusal at (n - i) i ≡ at i
  unfolding first_refusal
  first_stops h r = rw (more_left h, ne_eqb _ _ r)

  pub first_goes : i < n → (at i).number ≡ 0 → first_refusal at (n - i) i ≡ first_refusal at (n - (i + 1)) (i + 1)
  unfolding first_refusal
  first_goes h r = rw (more_left h, eq-eqb _ _ r)

  pub first_next : i < n → first_refusal at (n - i) i ≡ (at i or_else first_refusal at (n - (i + 1)) (i + 1))
  unfolding first_refusal
  first_next h = rw (more_left h)

  pub first_ends : n ≤ i → first_refusal at (n - i) i ≡ accepted
  unfolding first_refusal
  first_ends h = rw (sub-eq-zero_of_le h)
