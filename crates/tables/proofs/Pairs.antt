-- Pairs in a buffer.
use Prim.Native.Nat.{ℕ, zero, suc, ◌+◌, ◌*◌, ◌/◌, ◌<◌}
use mathlib.Core.Path.{◌≡◌, refl}
use mathlib.Core.List.{List, [], ◌∷◌}
use native.Mathlib.Omega.{arith}
use lib.IntN.{ℤ, pos}
use lib.ListN.{length, set}
use Rattle.tables.specs.Tables.{pairs_of}

pub pairs_length : (l : List ℤ) → length (pairs_of l) ≡ length l / 2
unfolding pairs_of
pairs_length [] = refl
pairs_length (a ∷ []) = refl
pairs_length (a ∷ b ∷ l) = let h = pairs_length l in omega arith

pub pairs_set :
    (l : List ℤ) (n e : ℕ) (v : ℤ) → n < length l / 2 → pairs_of (set (set l (2 * n) (pos e)) (2 * n + 1) v) ≡ set (pairs_of l) n (e, v)
unfolding pairs_of
pairs_set [] n e v h = absurd (omega arith)
pairs_set (a ∷ []) n e v h = absurd (omega arith)
pairs_set (a ∷ b ∷ l) zero e v h = refl
pairs_set (a ∷ b ∷ l) (suc n) e v h =
    let two : 2 * suc n ≡ suc (suc (2 * n)) = omega arith in
    let three : suc (suc (2 * n)) + 1 ≡ suc (suc (2 * n + 1)) = omega arith in
    rw (two, three, pairs_set l n e v (omega arith))
