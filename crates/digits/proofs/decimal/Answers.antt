-- `digits::decimal` meets its contract. The loop's invariant: the value and the rest of the word give what the whole word gives.
use Prim.Native.Nat.{ℕ, ◌+◌, ◌-◌, ◌≤◌, ◌<◌}
use mathlib.Core.List.{List}
use mathlib.Core.Path.{◌≡◌, sym, ◌∙◌}
use native.Mathlib.Nat.{sub-zero, sub-eq-zero_of_le}
use lib.ListN.{length, get_or}
use lib.Dec.{eqb}
use mathlib.Core.Bool.{true, false}
use Rattle.std.specs.Prelude.{Some, None}
use Rattle.numbers.proofs.Left.{more_left}
use Rattle.digits.specs.Digits.{digit_of, with_digit, decimal_from, decimal_of}
use Rattle.digits.proofs.decimal.Goals as goal

module _ (word : List ℕ) (v i : ℕ) where
  goes :
      i < length word → {w : ℕ} → with_digit v (digit_of (get_or word i 0)) ≡ Some w →
      decimal_from word (length word - i) v i ≡ decimal_from word (length word - (i + 1)) w (i + 1)
  unfolding decimal_from
  goes h e = rw (more_left h, e)

  fails : i < length word → with_digit v (digit_of (get_or word i 0)) ≡ None → decimal_from word (length word - i) v i ≡ None
  unfolding decimal_from
  fails h e = rw (more_left h, e)

  ends : length word ≤ i → decimal_from word (length word - i) v i ≡ Some v
  unfolding decimal_from
  ends h = rw (sub-eq-zero_of_le h)

filled : (word : List ℕ) → eqb (length word) 0 ≡ false → decimal_of word ≡ decimal_from word (length word) 0 0
unfolding decimal_of
filled word h = rw h

pub returns-then-is_empty : goal.returns-then-is_empty
unfolding decimal_of
returns-then-is_empty c =
    let none : eqb (length c.args.word.now) 0 ≡ true = sym c.is_empty.ensures ∙ c.if-is_empty.true in
    rw none

pub loop-c-init : goal.loop-c-init
loop-c-init c = rw (sub-zero (length c.args.word.now))

pub returns-in_err-value : goal.returns-in_err-value
returns-in_err-value c =
    let s = c.args.word.now in
    let l = c.loop-c in
    let some : eqb (length s) 0 ≡ false = sym c.is_empty.ensures ∙ c.if-is_empty.false in
    let none = fails s l.value l.c-index c.loop-c-test.true (sym c.with_digit.ensures ∙ c.in_err-value.was) in
    c.from_residual.ensures ∙ sym (filled s some ∙ sym l.invariant ∙ none)

pub loop-c-preserved : goal.loop-c-preserved
loop-c-preserved c =
    let l = c.loop-c in
    let on = goes c.args.word.now l.value l.c-index c.loop-c-test.true (sym c.with_digit.ensures ∙ c.in_ok-value.was) in
    sym on ∙ l.invariant

pub returns : goal.returns
returns c =
    let s = c.args.word.now in
    let l = c.loop-c in
    let some : eqb (length s) 0 ≡ false = sym c.is_empty.ensures ∙ c.if-is_empty.false in
    sym (filled s some ∙ sym l.invariant ∙ ends s l.value l.c-index c.loop-c-test.false)
