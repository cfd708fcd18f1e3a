-- Counting: a test at each, or at one, of the first n numbers, how many of them pass it, the values of a function at them, and a sum over
-- them; how many items of a list pass a test, what holds of each, or of some, and a sum over them.
use Rattle.std.specs.Prelude.{ℕ, zero, suc, ◌+◌, ◌≡◌, Bool, true, false, ◌&&◌, ◌||◌, List, [], ◌∷◌, ◌⊎◌, ltb, if◌then◌else◌}

unfoldable pub all_below : ℕ → (ℕ → Bool) → Bool
all_below zero test = true
all_below (suc n) test = all_below n test && test n

-- a test at each number from m to before n, as a loop that begins at m
unfoldable pub all_from : ℕ → ℕ → (ℕ → Bool) → Bool
all_from m n test = all_below n (λ i. ltb i m || test i)

unfoldable pub any_below : ℕ → (ℕ → Bool) → Bool
any_below zero test = false
any_below (suc n) test = any_below n test || test n

-- the first n values of a function
unfoldable pub list_below : {A : Type 0} → ℕ → (ℕ → A) → List A
list_below zero f = []
list_below (suc n) f = f 0 ∷ list_below n (λ i. f (suc i))

unfoldable pub sum_below : (ℕ → ℕ) → ℕ → ℕ
sum_below f zero = 0
sum_below f (suc n) = sum_below f n + f n

-- how many of the first n numbers pass a test
abbrev pub count_below : (ℕ → Bool) → ℕ → ℕ
count_below test n = sum_below (λ p. if test p then 1 else 0) n

-- the same, said without computing: of the first n numbers, m are such
pub data Counted (Such : ℕ → Type 0) : ℕ → ℕ → Type 0 where
  none : Counted Such 0 0
  such : {n m : ℕ} → Counted Such n m → Such n → Counted Such (suc n) (suc m)
  other : {n m : ℕ} → Counted Such n m → (Such n → ⊥) → Counted Such (suc n) m

-- a sum over the numbers of a list
unfoldable pub sum_over : (ℕ → ℕ) → List ℕ → ℕ
sum_over f [] = 0
sum_over f (r ∷ rs) = f r + sum_over f rs

-- how many items of a list pass a test
unfoldable pub how_many : {A : Type 0} → (A → Bool) → List A → ℕ
how_many test [] = 0
how_many test (x ∷ xs) = let rest = how_many test xs in if test x then rest + 1 else rest

-- P holds of each item of a list
abbrev pub All : {A : Type 0} → (A → Type 0) → List A → Type 0
All P [] = Unit {0}
All P (x ∷ xs) = P x × All P xs

-- P holds of some item of a list
abbrev pub Somewhere : {A : Type 0} → (A → Type 0) → List A → Type 0
Somewhere P [] = ⊥
Somewhere P (x ∷ xs) = P x ⊎ Somewhere P xs

-- a number is one of a list
abbrev pub Among : ℕ → List ℕ → Type 0
Among r rs = Somewhere (λ q. r ≡ q) rs
