-- `hexadecimal::fill` meets its contract. The loop's invariant: the bytes left, put into the buffer as it is, give what all of them give
-- in the buffer as lent. The digits of a byte are those of its pair.
use Prim.Native.Nat.{ℕ, zero, suc, ◌+◌, ◌-◌, ◌*◌, ◌/◌, ◌≤◌, ◌<◌}
use mathlib.Core.List.{List, []}
use mathlib.Core.Path.{◌≡◌, refl, sym, ◌∙◌}
use native.Mathlib.Nat.{sub-eq-zero_of_le}
use native.Mathlib.Omega.{arith}
use lib.ListN.{length, get_or, set, drop}
use Rattle.std.proofs.lemmas.List.{get_or-drop, get_or-take}
use Rattle.std.specs.Option.{unwrap_or}
use Rattle.std.specs.Simd.{first_chunks}
use Rattle.numbers.proofs.Left.{more_left}
use Rattle.digits.specs.Digits.{digit_of}
use Rattle.hexadecimal.specs.Hex.{byte_of, written_from}
use Rattle.hexadecimal.proofs.fill.Goals as goal

-- byte j of pair i
in_pair :
    (k i j p : ℕ) (s : List ℕ) → i < k → j < 2 → p ≡ i * 2 + j → get_or (get_or (first_chunks 2 k s) i []) j 0 ≡ get_or s p 0
in_pair zero i j p s h w e = absurd (omega arith)
in_pair (suc k) zero j p s h w e = let here : p ≡ j = omega arith in rw here (get_or-take 2 s j 0 w)
in_pair (suc k) (suc i) j p s h w e =
    let there : p ≡ 2 + (i * 2 + j) = omega arith in
    rw there (in_pair k i j (i * 2 + j) (drop 2 s) (omega arith) w refl ∙ get_or-drop 2 s (i * 2 + j) 0)

module _ (word l : List ℕ) (n i : ℕ) where
  goes : i < n → written_from word (n - i) l i ≡ written_from word (n - (i + 1)) (set l i (byte_of word i)) (i + 1)
  unfolding written_from
  goes h = rw (more_left h)

  ends : n ≤ i → written_from word (n - i) l i ≡ l
  unfolding written_from
  ends h = rw (sub-eq-zero_of_le h)

pub loop-count-preserved : goal.loop-count-preserved
loop-count-preserved c =
    let l = c.loop-count in
    let word = c.args.word.now in
    let within : l.count < length word / 2 = rw c.as_chunks.ensures.front_len at c.loop-count-test.true in
    let high : c.unwrap_or.result ≡ unwrap_or (digit_of (get_or word (l.count * 2) 0)) 0 =
    rw (c.unwrap_or.ensures, c.digit.ensures.value, c.as_chunks.ensures.front, in_pair _ _ 0 (l.count * 2) word within (omega arith) (omega arith)) in
    let low : c.unwrap_or-in-loop-count.result ≡ unwrap_or (digit_of (get_or word (l.count * 2 + 1) 0)) 0 =
    rw (
      c.unwrap_or-in-loop-count.ensures,
      c.digit-in-loop-count.ensures.value,
      c.as_chunks.ensures.front,
      in_pair _ _ 1 (l.count * 2 + 1) word within (omega arith) (omega arith),
    ) in
    rw (high, low) (sym (goes word l.bytes _ l.count within) ∙ l.invariant)

pub returns : goal.returns
returns c =
    let l = c.loop-count in
    let past : length c.args.word.now / 2 ≤ l.count = rw c.as_chunks.ensures.front_len at c.loop-count-test.false in
    sym (ends c.args.word.now l.bytes _ l.count past) ∙ l.invariant
