-- Where a part of a list lies, and what is read there. Of lists that are joined each is such a part, behind those in front of it.
use Prim.Native.Nat.{ℕ, zero, suc, ◌+◌, ◌*◌, ◌<◌}
use mathlib.Core.Path.{◌≡◌, refl, sym, ◌∙◌}
use mathlib.Core.List.{List, [], ◌++◌, append_assoc, append-nil}
use native.Mathlib.Omega.{arith}
use native.Mathlib.Decide.{dec_lt}
use native.Mathlib.Nat.{add-zero, mul_comm}
use lib.ListN.{length, get_or, take, drop, length-append, get_or-append}
use lib.Seq.{take_at, drop_at, get_or-drop}
use Rattle.numbers.specs.Numbers.{half_limit, word_limit, half_at}
use Rattle.numbers.specs.Bytes.{half_bytes, word_bytes, word_at}
use Rattle.stored_games.specs.Bits.{joined_below}
use Rattle.stored_games.proofs.Bytes.{half_back, word_back}
use Rattle.stored_games.proofs.Lengths.{joined_length}

-- a part lies at a place: so much is in front of it, and something behind it
pub record Part (s : List ℕ) (from : ℕ) (part : List ℕ) : Type 0 where
  pub front : List ℕ
  pub rest : List ℕ
  pub split : s ≡ front ++ part ++ rest
  pub place : length front ≡ from

module _ {s : List ℕ} {from : ℕ} where
  module _ {part : List ℕ} (p : Part s from part) where
    dropped : drop from s ≡ part ++ p.rest
    dropped = rw (p.split, append_assoc p.front part p.rest) (drop_at p.front (part ++ p.rest) from p.place)

    pub part_taken : (n : ℕ) → length part ≡ n → take n (drop from s) ≡ part
    part_taken n e = rw dropped (take_at part p.rest n e)

    pub part_read : (i : ℕ) → i < length part → get_or s (from + i) 0 ≡ get_or part i 0
    part_read i h = sym (get_or-drop from s i 0) ∙ rw dropped (get_or-append part p.rest 0 i h)

  pub first : (a b : List ℕ) → Part s from (a ++ b) → Part s from a
  first a b p =
      record {
        front = p.front;
        rest = b ++ p.rest;
        split = p.split ∙ rw (← (append_assoc p.front a b), append_assoc (p.front ++ a) b p.rest);
        place = p.place;
      }

  pub second : (a b : List ℕ) (n : ℕ) → from + length a ≡ n → Part s from (a ++ b) → Part s n b
  second a b n e p =
      record {
        front = p.front ++ a;
        rest = p.rest;
        split = p.split ∙ rw (← (append_assoc p.front a b));
        place = omega (arith, length-append p.front a, p.place, e);
      }

  pub half_read : (n : ℕ) → Part s from (half_bytes n) → n < half_limit → half_at s from ≡ n
  half_read n p h =
      rw (rw (add-zero from) at (part_read p 0 (omega arith)), part_read p 1 (omega arith)) (half_back n h)

  pub word_read : (n : ℕ) → Part s from (word_bytes n) → n < word_limit → word_at s from ≡ n
  word_read n p h =
      let last : from + 2 + 1 ≡ from + 3 = omega arith in
      rw (
        last,
        rw (add-zero from) at (part_read p 0 (omega arith)),
        part_read p 1 (omega arith),
        part_read p 2 (omega arith),
        part_read p 3 (omega arith),
      )
      (word_back n h)

  -- the k-th of lists of one length
  pub joined_at :
      (size n : ℕ) (f : ℕ → List ℕ) → ((k : ℕ) → length (f k) ≡ size) → Part s from (joined_below n f) →
      (k : ℕ) → k < n → Part s (from + size * k) (f k)
  unfolding joined_below
  joined_at size zero f each p k h = absurd (omega arith)
  joined_at size (suc n) f each p k h =
      elim (dec_lt k n) [
        | yes l ↦ joined_at size n f each (first (joined_below n f) (f n) p) k l
        | no l ↦
            let same : k ≡ n = omega arith in
            rw same (second (joined_below n f) (f n) (from + size * n) (omega (arith, joined_length size n f each, mul_comm n size)) p)
      ]

-- a list is a part of itself
pub whole : (s : List ℕ) → Part s 0 s
whole s = record { front = []; rest = []; split = sym (append-nil s); place = refl }
