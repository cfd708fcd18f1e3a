-- Lists of the first values of a function.
use Prim.Native.Nat.{ℕ, zero, suc, ◌<◌}
use mathlib.Core.Path.{◌≡◌, refl, ap}
use mathlib.Core.Logic.{◌≢◌}
use native.Mathlib.Omega.{arith}
use lib.ListN.{length, get_or, set}
use Rattle.numbers.specs.Counting.{list_below}

module _ {A : Type 0} where
  pub below_length : (n : ℕ) (f : ℕ → A) → length (list_below n f) ≡ n
  unfolding list_below
  below_length zero f = refl
  below_length (suc n) f = ap suc (below_length n (λ i. f (suc i)))

  pub below_read : (n : ℕ) (f : ℕ → A) (i : ℕ) (d : A) → i < n → get_or (list_below n f) i d ≡ f i
  unfolding list_below
  below_read zero f i d h = absurd (omega arith)
  below_read (suc n) f zero d h = refl
  below_read (suc n) f (suc i) d h = below_read n (λ j. f (suc j)) i d (omega arith)

  -- functions that are the same below n have the same first n values
  pub values_agree : (n : ℕ) (f g : ℕ → A) → ((i : ℕ) → i < n → f i ≡ g i) → list_below n f ≡ list_below n g
  unfolding list_below
  values_agree zero f g h = refl
  values_agree (suc n) f g h = rw (h 0 (omega arith), values_agree n (λ i. f (suc i)) (λ i. g (suc i)) (λ i l. h (suc i) (omega arith)))

  pub values_same : (n : ℕ) (f g : ℕ → A) → ((i : ℕ) → g i ≡ f i) → list_below n g ≡ list_below n f
  values_same n f g h = values_agree n g f (λ i l. h i)

  -- a function that differs at r alone
  pub below_set : (n : ℕ) (f g : ℕ → A) (r : ℕ) → ((i : ℕ) → i ≢ r → g i ≡ f i) → list_below n g ≡ set (list_below n f) r (g r)
  unfolding list_below
  below_set zero f g r h = refl
  below_set (suc n) f g zero h = rw (values_same n (λ i. f (suc i)) (λ i. g (suc i)) (λ i. h (suc i) (λ e. omega arith)))
  below_set (suc n) f g (suc r) h =
      rw (h 0 (λ e. omega arith), below_set n (λ i. f (suc i)) (λ i. g (suc i)) r (λ i d. h (suc i) (λ e. d (omega arith))))
