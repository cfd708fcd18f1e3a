-- A part of a list is the join of the pieces that it is cut into.
use Prim.Native.Nat.{ℕ, zero, suc, ◌+◌, ◌*◌, ◌<◌}
use mathlib.Core.Path.{◌≡◌, refl, sym, ap}
use mathlib.Core.List.{List, [], ◌∷◌, ◌++◌}
use native.Mathlib.Omega.{arith}
use native.Mathlib.Nat.{zero-add, suc-add, mul-zero, mul-suc}
use lib.ListN.{take, drop}
use lib.Seq.{drop-drop, take-nil}
use Rattle.stored_games.specs.Bits.{joined_below}

-- the first m, and n behind them
pub take_more : (m n : ℕ) (s : List ℕ) → take m s ++ take n (drop m s) ≡ take (m + n) s
take_more zero n s = rw zero-add
take_more (suc m) n [] = rw suc-add (take-nil n)
take_more (suc m) n (x ∷ s) = rw suc-add (ap (λ l. x ∷ l) (take_more m n s))

-- the same at a place
pub part_more : (at m n : ℕ) (s : List ℕ) → take m (drop at s) ++ take n (drop (at + m) s) ≡ take (m + n) (drop at s)
part_more at m n s = rw (← drop-drop m at s) (take_more m n (drop at s))

-- functions that are the same below n give the same lists
pub joined_same : (n : ℕ) (f g : ℕ → List ℕ) → ((k : ℕ) → k < n → f k ≡ g k) → joined_below n f ≡ joined_below n g
unfolding joined_below
joined_same zero f g h = refl
joined_same (suc n) f g h = rw (joined_same n f g (λ k l. h k (omega arith)), h n (omega arith))

-- n pieces of one size, from a place on
pub joined_pieces :
    (at size n : ℕ) (s : List ℕ) → joined_below n (λ k. take size (drop (at + size * k) s)) ≡ take (size * n) (drop at s)
unfolding joined_below
joined_pieces at size zero s = rw mul-zero
joined_pieces at size (suc n) s =
    rw (joined_pieces at size n s, part_more at (size * n) size s) (ap (λ m. take m (drop at s)) (sym (mul-suc size n)))
