-- `words::place_in` meets its contract. The loop's invariant: the search among the names that are left finds what the whole search does,
-- and each name that was passed had a byte at least, its space or its end. The measure is the bytes left.
use Prim.Native.Nat.{ℕ, zero, suc, ◌+◌, ◌-◌, ◌≤◌, ◌<◌}
use mathlib.Core.Path.{◌≡◌, refl, sym, ◌∙◌}
use mathlib.Core.Bool.{true, false}
use mathlib.Core.List.{List}
use native.Mathlib.Nat.{sub-zero}
use native.Mathlib.Omega.{arith}
use lib.Dec.{eqb}
use lib.ListN.{length, length-drop}
use Rattle.std.proofs.lemmas.Bool.{eqb-false}
use Rattle.numbers.proofs.Left.{more_left}
use Rattle.words.specs.Words.{space, found_at, first_of, rest_of, is_same, place_from, place_of}
use Rattle.words.proofs.place_in.Goals as goal

module _ (names word : List ℕ) where
  begins : place_from names word (length names - 0) 0 ≡ place_of names word
  unfolding place_of
  begins = rw (sub-zero (length names))

  ends : (n k : ℕ) → eqb (length names) 0 ≡ true → place_from names word n k ≡ k
  unfolding place_from
  ends zero k h = refl
  ends (suc n) k h = rw h

  shorter : eqb (length names) 0 ≡ false → length (rest_of names) + 1 ≤ length names
  shorter h = omega (arith, eqb-false (length names) 0 h, length-drop (found_at names 0 space + 1) names)

  -- the first of the names that are left, of which k were passed
  module _ (n k : ℕ) (few : k < n) (some : eqb (length names) 0 ≡ false) where
    stops : is_same (first_of names) word ≡ true → place_from names word (n - k) k ≡ k
    unfolding place_from
    stops e = rw (more_left few, some, e)

    goes : is_same (first_of names) word ≡ false → place_from names word (n - k) k ≡ place_from (rest_of names) word (n - (k + 1)) (k + 1)
    unfolding place_from
    goes e = rw (more_left few, some, e)

pub loop-left-init : goal.loop-left-init
loop-left-init c = (begins _ _, omega arith)

pub returns-then-is : goal.returns-then-is
returns-then-is c =
    let l = c.loop-left in
    let left = l.left.now in
    let some : eqb (length left) 0 ≡ false = sym c.is_empty.ensures ∙ c.loop-left-test.true in
    let same = rw c.first.ensures at (sym c.is.ensures ∙ c.if-is.true) in
    let few : l.count < length c.args.names.now = omega (arith, l.invariant.1, shorter left c.args.word.now some) in
    sym (stops left c.args.word.now (length c.args.names.now) l.count few some same) ∙ l.invariant.0

pub loop-left-preserved : goal.loop-left-preserved
loop-left-preserved c =
    let l = c.loop-left in
    let left = l.left.now in
    let some : eqb (length left) 0 ≡ false = sym c.is_empty.ensures ∙ c.loop-left-test.true in
    let other = rw c.first.ensures at (sym c.is.ensures ∙ c.if-is.false) in
    let few : l.count < length c.args.names.now = omega (arith, l.invariant.1, shorter left c.args.word.now some) in
    let on = sym (goes left c.args.word.now (length c.args.names.now) l.count few some other) ∙ l.invariant.0 in
    (rw c.rest-left.ensures on, rw c.rest-left.ensures (omega (arith, l.invariant.1, shorter left c.args.word.now some)))

pub returns : goal.returns
returns c =
    let l = c.loop-left in
    let none : eqb (length l.left.now) 0 ≡ true = sym c.is_empty.ensures ∙ c.loop-left-test.false in
    sym (ends l.left.now c.args.word.now (length c.args.names.now - l.count) l.count none) ∙ l.invariant.0
