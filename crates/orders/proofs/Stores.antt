-- A store in a list: what holds of each entry behind it and of one entry, and what a map makes of the list and of its entries.
-- By the place that is stored to and the others, and by induction over the list.
use Prim.Native.Nat.{ℕ, zero, suc, ◌<◌}
use mathlib.Core.Path.{◌≡◌, refl, sym, ◌∙◌, ap}
use mathlib.Core.List.{List, [], ◌∷◌, map}
use native.Mathlib.Decide.{ℕ_discrete, dec_lt}
use native.Mathlib.Omega.{arith}
use lib.ListN.{length, get_or, set, get_or-map}
use lib.Seq.{get_or-set_same, get_or-set_other, set_out, map-set_same}

-- what holds of the entry put in place n, and of the others, holds of each
pub set_each :
    {A : Type 0} (l : List A) (n : ℕ) (y d : A) (P : ℕ → A → Type 0) → n < length l → P n y →
    ((i : ℕ) → (i ≡ n → ⊥) → P i (get_or l i d)) → (i : ℕ) → P i (get_or (set l n y) i d)
set_each l n y d P h here others i =
    elim (ℕ_discrete i n) [ yes e ↦ rw (e, get_or-set_same l n y d h) here | no m ↦ rw (get_or-set_other l n i y d m) (others i m) ]

-- a claim on one entry once y is put in place n, or beyond the list: on y there, and on the entry as it was
pub entry_set :
    {A : Type 0} (P : A → Type 0) (l : List A) (n : ℕ) (y d : A) (m : ℕ) → (m ≡ n → P y) → P (get_or l m d) → P (get_or (set l n y) m d)
entry_set P l n y d m new old =
    elim (ℕ_discrete m n) [
      | no other ↦ rw (get_or-set_other l n m y d other) old
      | yes e ↦
          elim (dec_lt n (length l)) [
            | yes h ↦ rw (e, get_or-set_same l n y d h) (new e)
            | no out ↦ rw (set_out l n y (omega arith)) old
          ]
    ]

module _ {A B : Type 0} (f : A → B) where
  pub map_set : (l : List A) (i : ℕ) (x : A) → map f (set l i x) ≡ set (map f l) i (f x)
  map_set [] i x = refl
  map_set (y ∷ l) zero x = refl
  map_set (y ∷ l) (suc i) x = ap (λ (m : List B). f y ∷ m) (map_set l i x)

  -- two lists of which f makes the same have at each place what is the same to f
  pub same_at_lem : (l m : List A) (d : A) → map f l ≡ map f m → (i : ℕ) → f (get_or l i d) ≡ f (get_or m i d)
  same_at_lem l m d e i = sym (get_or-map f l i d) ∙ ap (λ k. get_or k i (f d)) e ∙ get_or-map f m i d

  -- so has a list where an entry gave way to one that is the same to f
  pub same_set : (l : List A) (i : ℕ) (x d : A) → f x ≡ f (get_or l i d) → (j : ℕ) → f (get_or (set l i x) j d) ≡ f (get_or l j d)
  same_set l i x d e = same_at_lem (set l i x) l d (map-set_same f l i x d e)
