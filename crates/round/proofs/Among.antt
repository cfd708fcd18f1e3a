-- Laws of some items: what holds of each, what is somewhere among them, and that of some routines none is there twice. Each law is by
-- induction on the items: of two lists joined, of those that pass a test, and of the item at a place.
use Prim.Native.Nat.{ℕ, zero, suc, ◌<◌, ◌≤◌}
use mathlib.Core.Path.{◌≡◌, refl, sym, ◌∙◌, ap}
use mathlib.Core.Bool.{Bool, true, false}
use mathlib.Core.List.{List, [], ◌∷◌, ◌++◌}
use mathlib.Core.Logic.{◌⊎◌, inl, inr, ⊎_elim}
use native.Mathlib.Omega.{arith}
use native.Mathlib.Decide.{ℕ_discrete}
use lib.ListN.{length, get_or}
use Rattle.numbers.specs.Counting.{All, Somewhere, Among}
use Rattle.numbers.proofs.Tests.{clash, by_test}
use Rattle.numbers.proofs.Counting.{among_at}
use Rattle.fitting.proofs.Room.{few}
use Rattle.round.specs.Actions.{kept}

pub all_append : {A : Type 0} (P : A → Type 0) (xs ys : List A) → All P xs → All P ys → All P (xs ++ ys)
all_append P [] ys h k = k
all_append P (x ∷ xs) ys h k = (h.0, all_append P xs ys h.1 k)

pub among_all : (P : ℕ → Type 0) (r : ℕ) (rs : List ℕ) → All P rs → Among r rs → P r
among_all P r [] a h = absurd h
among_all P r (q ∷ qs) a (inl e) = rw e a.0
among_all P r (q ∷ qs) a (inr h) = among_all P r qs a.1 h

pub each_among : (P : ℕ → Type 0) (rs : List ℕ) → ((r : ℕ) → Among r rs → P r) → All P rs
each_among P [] h = tt
each_among P (r ∷ rs) h = (h r (inl refl), each_among P rs (λ q k. h q (inr k)))

pub all_among : (P : ℕ → Type 0) (rs : List ℕ) → All P rs → All (λ r. P r × Among r rs) rs
all_among P rs all = each_among (λ r. P r × Among r rs) rs (λ r h. (among_all P r rs all h, h))

-- somewhere in two lists, one after the other
module _ {A : Type 0} (P : A → Type 0) where
  pub somewhere_append : (a b : List A) → Somewhere P (a ++ b) → Somewhere P a ⊎ Somewhere P b
  somewhere_append [] b h = inr h
  somewhere_append (x ∷ a) b (inl h) = inl (inl h)
  somewhere_append (x ∷ a) b (inr h) = elim (somewhere_append a b h) [ inl k ↦ inl (inr k) | inr k ↦ inr k ]

  pub in_first : (a b : List A) → Somewhere P a → Somewhere P (a ++ b)
  in_first [] b w = elim w [ ]
  in_first (h ∷ a) b (inl w) = inl w
  in_first (h ∷ a) b (inr w) = inr (in_first a b w)

  pub in_second : (a b : List A) → Somewhere P b → Somewhere P (a ++ b)
  in_second [] b w = w
  in_second (h ∷ a) b w = inr (in_second a b w)

  -- in the one or in the other, as a flag says
  pub in_either : (a b : List A) (t : Bool) → (t ≡ true → Somewhere P a) → (t ≡ false → Somewhere P b) → Somewhere P (a ++ b)
  in_either a b true f s = in_first a b (f refl)
  in_either a b false f s = in_second a b (s refl)

pub among_or : (r : ℕ) (rs : List ℕ) → Among r rs ⊎ (Among r rs → ⊥)
among_or r [] = inr (λ h. h)
among_or r (q ∷ qs) =
    elim (ℕ_discrete r q) [
      | yes e ↦ inl (inl e)
      | no n ↦ ⊎_elim (λ h. inl (inr h)) (λ m. inr (λ h. ⊎_elim n m h)) (among_or r qs)
    ]

-- one among them is at a place
pub among_place : (r : ℕ) (rs : List ℕ) → Among r rs → (i : ℕ) × (i < length rs) × (get_or rs i 0 ≡ r)
among_place r [] h = absurd h
among_place r (q ∷ qs) (inl e) = (0, omega arith, sym e)
among_place r (q ∷ qs) (inr h) = let (i, l, e) = among_place r qs h in (suc i, omega arith, e)

-- no routine is among them twice
abbrev pub Distinct : List ℕ → Type 0
Distinct [] = Unit {0}
Distinct (r ∷ rs) = (Among r rs → ⊥) × Distinct rs

pub distinct_joined :
    (a b : List ℕ) → Distinct a → Distinct b → ((r : ℕ) → Among r a → Among r b → ⊥) → Distinct (a ++ b)
distinct_joined [] b d e apart = e
distinct_joined (r ∷ rs) b d e apart = (
  λ h. ⊎_elim d.0 (apart r (inl refl)) (somewhere_append (λ q. r ≡ q) rs b h),
  distinct_joined rs b d.1 e (λ q h. apart q (inr h)),
)

-- no routine twice, by places
distinct_places : (rs : List ℕ) → Distinct rs → (i j : ℕ) → i < j → j < length rs → get_or rs i 0 ≡ get_or rs j 0 → ⊥
distinct_places [] d i j l h e = omega arith
distinct_places (r ∷ rs) d i zero l h e = omega arith
distinct_places (r ∷ rs) d zero (suc j) l h e = d.0 (rw e (among_at rs j (omega arith)))
distinct_places (r ∷ rs) d (suc i) (suc j) l h e = distinct_places rs d.1 i j (omega arith) (omega arith) e

pub places_distinct : (rs : List ℕ) → ((i j : ℕ) → i < j → j < length rs → get_or rs i 0 ≡ get_or rs j 0 → ⊥) → Distinct rs
places_distinct [] once = tt
places_distinct (r ∷ rs) once = (
  λ h. let (i, l, e) = among_place r rs h in once 0 (suc i) (omega arith) (omega arith) (sym e),
  places_distinct rs (λ i j l h. once (suc i) (suc j) (omega arith) (omega arith)),
)

-- so different numbers below n are at most n
pub distinct_few : (n : ℕ) (rs : List ℕ) → Distinct rs → All (λ r. r < n) rs → length rs ≤ n
distinct_few n rs d below =
    few n (length rs) (λ i. get_or rs i 0) (λ i h. among_all (λ r. r < n) (get_or rs i 0) rs below (among_at rs i h)) (distinct_places rs d)

-- those that pass a test
module _ (test : ℕ → Bool) where
  pub among_kept : (r : ℕ) (rs : List ℕ) → test r ≡ true → Among r rs → Among r (kept test rs)
  unfolding kept
  among_kept r [] t h = absurd h
  among_kept r (q ∷ qs) t (inl e) =
      by_test (Among r) (test q) (λ p. inl e) (λ p. clash t (ap test e ∙ p))
  among_kept r (q ∷ qs) t (inr h) =
      let rest = among_kept r qs t h in by_test (Among r) (test q) (λ p. inr rest) (λ p. rest)

  among_before : (r : ℕ) (rs : List ℕ) → Among r (kept test rs) → Among r rs
  unfolding kept
  among_before r [] = λ h. h
  among_before r (q ∷ qs) =
      by_test (λ l. Among r l → Among r (q ∷ qs)) (test q) (λ p h. ⊎_elim inl (λ k. inr (among_before r qs k)) h)
      (λ p h. inr (among_before r qs h))

  pub all_kept : (P : ℕ → Type 0) (rs : List ℕ) → All P rs → All P (kept test rs)
  all_kept P rs all = each_among P (kept test rs) (λ r h. among_all P r rs all (among_before r rs h))

  pub distinct_kept : (rs : List ℕ) → Distinct rs → Distinct (kept test rs)
  unfolding kept
  distinct_kept [] d = tt
  distinct_kept (r ∷ rs) d =
      let rest = distinct_kept rs d.1 in
      by_test Distinct (test r) (λ p. (λ h. d.0 (among_before r rs h), rest)) (λ p. rest)

  pub kept_short : (rs : List ℕ) → length (kept test rs) ≤ length rs
  unfolding kept
  kept_short [] = omega arith
  kept_short (r ∷ rs) =
      let rest = kept_short rs in
      by_test (λ qs. length qs ≤ suc (length rs)) (test r) {x = r ∷ kept test rs} {y = kept test rs} (λ e. omega arith) (λ e. omega arith)
