-- Parts of a list, item by item: a part of two or four bytes is the number that is read there, as bytes.
use Prim.Native.Nat.{ℕ, zero, suc, ◌+◌, ◌≤◌, ◌<◌}
use mathlib.Core.Path.{◌≡◌, refl, sym, ap, ◌∙◌}
use mathlib.Core.List.{List, [], ◌∷◌}
use native.Mathlib.Omega.{arith}
use native.Mathlib.Nat.{add-zero}
use lib.ListN.{length, get_or, take, drop, length-drop}
use lib.Seq.{length-take-le, get_or-take, get_or-drop, ext_get_or}
use Rattle.numbers.specs.Numbers.{half_at}
use Rattle.numbers.specs.Bytes.{half_bytes, word_bytes, word_at}
use Rattle.numbers.specs.Counting.{list_below}
use Rattle.numbers.proofs.Lists.{below_length, below_read}
use Rattle.stored_games.specs.Claims.{AreBytes}
use Rattle.stored_games.proofs.Bytes.{half_bytes_lem, word_bytes_lem}

-- a list is what is read of it place by place
pub spelled : (s : List ℕ) → list_below (length s) (λ i. get_or s i 0) ≡ s
unfolding list_below
spelled [] = refl
spelled (x ∷ s) = ap (λ l. x ∷ l) (spelled s)

-- the first of the first values
pub below_front : (n m : ℕ) (f : ℕ → ℕ) → n ≤ m → take n (list_below m f) ≡ list_below n f
unfolding list_below
below_front zero m f h = refl
below_front (suc n) zero f h = absurd (omega arith)
below_front (suc n) (suc m) f h = ap (λ l. f 0 ∷ l) (below_front n m (λ i. f (suc i)) (omega arith))

-- no item of a front is greater than that of the whole
pub front_item : (n : ℕ) (s : List ℕ) (i : ℕ) → get_or (take n s) i 0 ≤ get_or s i 0
front_item zero s i = omega arith
front_item (suc n) [] i = omega arith
front_item (suc n) (x ∷ s) zero = omega arith
front_item (suc n) (x ∷ s) (suc i) = front_item n s i

pub part_bytes : (s : List ℕ) → AreBytes s → (from n : ℕ) → AreBytes (take n (drop from s))
part_bytes s bytes from n i = omega (arith, front_item n (drop from s) i, get_or-drop from s i 0, bytes (from + i))

module _ (s : List ℕ) (from n : ℕ) (h : from + n ≤ length s) where
  pub part_long : length (take n (drop from s)) ≡ n
  part_long = length-take-le n (drop from s) (omega (arith, length-drop from s))

  pub part_item : (i : ℕ) → i < n → get_or (take n (drop from s)) i 0 ≡ get_or s (from + i) 0
  part_item i l = get_or-take n (drop from s) i 0 l ∙ get_or-drop from s i 0

  abbrev items : ℕ → ℕ
  items i = get_or s (from + i) 0

  pub part_spelled : list_below n items ≡ take n (drop from s)
  part_spelled =
      let long = below_length n items in
      ext_get_or 0 (list_below n items) (take n (drop from s)) (long ∙ sym part_long)
      (λ i l. let near : i < n = omega (arith, l, long) in below_read n items i 0 near ∙ sym (part_item i near))

module _ (s : List ℕ) (bytes : AreBytes s) (from : ℕ) where
  pub half_part : from + 2 ≤ length s → half_bytes (half_at s from) ≡ take 2 (drop from s)
  unfolding list_below
  half_part h = half_bytes_lem _ _ (bytes from) (bytes (from + 1)) ∙ (rw (add-zero from) at (part_spelled s from 2 h))

  pub word_part : from + 4 ≤ length s → word_bytes (word_at s from) ≡ take 4 (drop from s)
  unfolding list_below
  word_part h =
      let last : from + 2 + 1 ≡ from + 3 = omega arith in
      word_bytes_lem _ _ _ _ (bytes from) (bytes (from + 1)) (bytes (from + 2)) (bytes (from + 2 + 1))
      ∙ rw last (rw (add-zero from) at (part_spelled s from 4 h))
