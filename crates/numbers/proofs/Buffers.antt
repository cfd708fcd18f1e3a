-- Laws of a buffer that is written over from a place on: item by item, and part behind part.
use Prim.Native.Nat.{ℕ, suc, ◌+◌, ◌≤◌, ◌<◌}
use mathlib.Core.Path.{◌≡◌}
use mathlib.Core.List.{List, ◌∷◌, ◌++◌, append_assoc}
use native.Mathlib.Numerals.{add-one}
use native.Mathlib.Omega.{arith}
use lib.ListN.{length, set, take, drop, length-append}
use lib.Seq.{take-suc-set, drop-set-lt, drop-drop, take_at, drop_at, length-take-le}
use Rattle.numbers.specs.Buffers.{with_part}

module _ {A : Type 0} where
  -- the first item of a part is written
  pub part_one :
      (x : A) (at : ℕ) (part buffer : List A) → at < length buffer →
      with_part (at + 1) part (set buffer at x) ≡ with_part at (x ∷ part) buffer
  part_one x at part buffer h =
      let n = length part in
      let cut : suc at + n ≡ at + suc n = omega arith in
      let below : at < suc at = omega arith in
      let rest : drop n (drop (suc at) buffer) ≡ drop (suc n) (drop at buffer) =
      rw (drop-drop n (suc at) buffer, drop-drop (suc n) at buffer, cut)
      in
      rw (add-one, take-suc-set buffer at x h, drop-set-lt (suc at) buffer at x below, rest, append_assoc)

  -- two parts one behind the other are one
  pub part_behind :
      (at : ℕ) (one other buffer : List A) → at ≤ length buffer →
      with_part (at + length one) other (with_part at one buffer) ≡ with_part at (one ++ other) buffer
  part_behind at one other buffer h =
      let front = take at buffer in
      let rest = drop (length one) (drop at buffer) in
      let long : length (front ++ one) ≡ at + length one = omega (arith, length-append front one, length-take-le at buffer h) in
      let whole : front ++ (one ++ rest) ≡ (front ++ one) ++ rest = rw append_assoc in
      rw (
        whole,
        take_at (front ++ one) rest (at + length one) long,
        drop_at (front ++ one) rest (at + length one) long,
        drop-drop (length other) (length one) (drop at buffer),
        length-append one other,
        append_assoc front one (other ++ drop (length one + length other) (drop at buffer)),
        append_assoc one other (drop (length one + length other) (drop at buffer)),
      )
