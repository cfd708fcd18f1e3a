-- Counting: of n numbers at most n pass a test, none if it fails at each; what stands at a place of a list is among its items. By induction
-- on n and on the list.
use Prim.Native.Nat.{ℕ, zero, suc, ◌<◌, ◌≤◌}
use mathlib.Core.Path.{◌≡◌, refl}
use mathlib.Core.Bool.{Bool, false}
use mathlib.Core.List.{List, [], ◌∷◌}
use mathlib.Core.Logic.{inl, inr}
use native.Mathlib.Omega.{arith}
use lib.ListN.{length, get_or}
use Rattle.numbers.specs.Counting.{sum_below, count_below, Among}

pub count_all : (P : ℕ → Bool) (n : ℕ) → count_below P n ≤ n
unfolding sum_below
count_all P zero = omega arith
count_all P (suc n) = let before = count_all P n in grind arith

pub count_none : (P : ℕ → Bool) (n : ℕ) → ((i : ℕ) → i < n → P i ≡ false) → count_below P n ≡ 0
unfolding sum_below
count_none P zero none = refl
count_none P (suc n) none = rw (none n (omega arith)) (omega (arith, count_none P n (λ i l. none i (omega arith))))

pub among_at : (rs : List ℕ) (i : ℕ) → i < length rs → Among (get_or rs i 0) rs
among_at [] i h = absurd (omega arith)
among_at (r ∷ rs) zero h = inl refl
among_at (r ∷ rs) (suc i) h = inr (among_at rs i (omega arith))
