-- A test at each item of a list, as one at each of its places, and as a fold that notes whether all items so far pass it; and a choice
-- between two tests by whether a place lies below a limit, which is one of the items up to the limit and one of those from there on.
use Prim.Native.Nat.{ℕ, zero, suc, min, ◌+◌, ◌-◌, ◌<◌, ◌≤◌}
use mathlib.Core.Path.{◌≡◌, refl, sym, ap, ◌∙◌}
use mathlib.Core.Bool.{Bool, true, false, ◌&&◌, and-true, and_assoc}
use mathlib.Core.List.{List, [], ◌∷◌}
use native.Mathlib.Nat.{add-zero, add-suc}
use native.Mathlib.Omega.{arith}
use native.Mathlib.Decide.{dec_lt}
use borrow.Author.Tests.{lt-ltb, le-ltb, le-leb}
use lib.Dec.{ltb, eqb}
use lib.ListN.{length, get_or, take, drop, length-take, length-drop}
use lib.IntN.{ℤ, pos}
use Rattle.std.proofs.lemmas.List.{get_or-take, get_or-drop, take_all}
use Rattle.std.specs.List.{fold, list_all}
use Rattle.std.proofs.lemmas.List.Recursion.{and_at, and_from_places}
use Rattle.std.specs.Prelude.{if◌then◌else◌, not}
use Rattle.numbers.proofs.Tests.{clash, not_true_false, by_flag}
use Rattle.numbers.proofs.Below.{all_holds, all_true}
use Rattle.numbers.specs.Numbers.{lowest_counter, highest_counter, is_within}
use Rattle.numbers.specs.Counting.{all_below}
use Rattle.layout.specs.Layout.{most_counters, most_signals}
use Rattle.lines.specs.declared.Line.{Line}
use Rattle.lines.specs.Lines.{most_entries, item_at}
use Rattle.fitting.specs.Arrays.{entry_fits, line_fits, counters_fit, signals_fit}

all_same : (f g : ℕ → Bool) (n : ℕ) → ((i : ℕ) → i < n → f i ≡ g i) → all_below n f ≡ all_below n g
unfolding all_below
all_same f g zero h = refl
all_same f g (suc n) h = rw (all_same f g n (λ i l. h i (omega arith)), h n (omega arith))

same_test : (x y : Bool) → (x ≡ true → y ≡ true) → (y ≡ true → x ≡ true) → x ≡ y
same_test x y f g = by_flag x (λ e. e ∙ sym (f e)) (λ e. e ∙ sym (not_true_false y (λ t. clash (g t) e)))

module _ {A : Type 0} (test : A → Bool) where
  pub folded : (xs : List A) (fit : Bool) → fold (λ b x. b && test x) fit xs ≡ (fit && list_all test xs)
  folded [] fit = sym (and-true fit)
  folded (x ∷ xs) fit = folded xs (fit && test x) ∙ and_assoc fit (test x) (list_all test xs)

  all_of : (xs : List A) (d : A) → list_all test xs ≡ all_below (length xs) (λ i. test (get_or xs i d))
  all_of xs d =
      same_test _ _
      (λ h. all_true _ (length xs) (λ i l. and_at (list_all test) test refl (λ _ _. refl) xs i d l h))
      (λ h. and_from_places (list_all test) test refl (λ _ _. refl) xs d (all_holds _ (length xs) h))

-- a choice by a limit m: from m on, a place is counted from there
cut :
    (a b : ℕ → Bool) (m k : ℕ) →
    all_below (m + k) (λ i. if ltb i m then a i else b i) ≡ (all_below m a && all_below k (λ i. b (m + i)))
unfolding all_below
cut a b m zero = rw (add-zero, and-true) (all_same _ a m (λ i l. rw (lt-ltb i m l)))
cut a b m (suc k) = rw (add-suc, cut a b m k, le-ltb (m + k) m (omega arith), and_assoc)

by_limit :
    (a b : ℕ → Bool) (m n : ℕ) → m ≤ n →
    all_below n (λ i. if ltb i m then a i else b i) ≡ (all_below m a && all_below (n - m) (λ i. b (m + i)))
by_limit a b m n l =
    let e : n ≡ m + (n - m) = omega arith in
    ap (λ (k : ℕ). all_below k (λ i. if ltb i m then a i else b i)) e ∙ cut a b m (n - m)

-- of an array, the items before a limit and those from there on
module _ {A : Type 0} (xs : List A) (d : A) (n m : ℕ) (size : length xs ≡ n) (within : m ≤ n) where
  all_taken : (test : A → Bool) → all_below m (λ i. test (get_or xs i d)) ≡ list_all test (take m xs)
  all_taken test =
      let e : length (take m xs) ≡ m = omega (arith, length-take {A = A}) in
      sym
      (all_of test (take m xs) d ∙
      rw e (all_same _ _ m (λ i l. rw (get_or-take m xs i d l))))

  all_dropped : (test : A → Bool) → all_below (n - m) (λ i. test (get_or xs (m + i) d)) ≡ list_all test (drop m xs)
  all_dropped test =
      let e : length (drop m xs) ≡ n - m = omega (arith, length-drop {A = A}) in
      sym
      (all_of test (drop m xs) d ∙
      rw e (all_same _ _ (n - m) (λ i l. rw (get_or-drop m xs i d))))

-- the items from m on, as the code's slice has them
pub to_end : {A : Type 0} (xs : List A) (n m : ℕ) → length xs ≡ n → take (n - m) (drop m xs) ≡ drop m xs
to_end {A = A} xs n m size = take_all (n - m) (drop m xs) (omega (arith, length-drop {A = A}))

-- a list that is short enough: its entries, and what is behind them
pub line_parts :
    (l : Line) (routines : ℕ) → length l.items ≡ most_entries → l.len ≤ most_entries →
    line_fits l routines ≡ (all_below l.len (entry_fits l routines) && list_all (λ v. eqb v 0) (drop l.len l.items))
unfolding line_fits entry_fits
line_parts l routines size short =
    rw (le-leb l.len most_entries short)
    (by_limit _ (λ i. eqb (item_at l i) 0) l.len most_entries short
    ∙ rw (all_dropped l.items 0 most_entries l.len size short (λ v. eqb v 0))
    (ap (λ (b : Bool). b && list_all (λ v. eqb v 0) (drop l.len l.items)) (all_same _ _ l.len (λ i h. rw (lt-ltb i l.len h)))))

same_limit : (i k n : ℕ) → i < n → ltb i k ≡ ltb i (min k n)
same_limit i k n l =
    elim (dec_lt i k) [
      | yes h ↦ rw (lt-ltb i k h, lt-ltb i (min k n) (omega arith))
      | no h ↦ rw (le-ltb i k (omega arith), le-ltb i (min k n) (omega arith))
    ]

-- the counters of a book, as far as there is room for them, and what is beyond them
pub counters_parts :
    (values : List ℤ) (counters end : ℕ) → length values ≡ most_counters → end ≡ min counters most_counters →
    counters_fit values counters
    ≡ (
    list_all (λ v. is_within v lowest_counter highest_counter) (take end values)
    && list_all (λ v. is_within v (pos 0) (pos 0)) (drop end values))
unfolding counters_fit
counters_parts values counters end size e =
    let few : end ≤ most_counters = omega arith in
    let within : ℤ → Bool = λ v. is_within v lowest_counter highest_counter in
    let none : ℤ → Bool = λ v. is_within v (pos 0) (pos 0) in
    all_same _ (λ i. if ltb i end then within (get_or values i (pos 0)) else none (get_or values i (pos 0))) most_counters (λ i l. rw (e, same_limit i counters most_counters l))
    ∙ by_limit _ _ end most_counters few
    ∙ rw (
      all_taken values (pos 0) most_counters end size few (λ v. is_within v lowest_counter highest_counter),
      all_dropped values (pos 0) most_counters end size few (λ v. is_within v (pos 0) (pos 0)),
    )

-- the signals from E on
pub signals_part :
    (flags : List Bool) (signals from : ℕ) → length flags ≡ most_signals → from ≡ min signals most_signals →
    signals_fit flags signals ≡ list_all not (drop from flags)
unfolding signals_fit
signals_part flags signals from size e =
    let few : from ≤ most_signals = omega arith in
    all_same _ (λ i. if ltb i from then true else not (get_or flags i false)) most_signals
    (λ i l. rw (same_limit i signals most_signals l, e) (by_flag (ltb i (min signals most_signals)) (λ t. rw t) (λ t. rw t)))
    ∙ by_limit (λ _. true) _ from most_signals few
    ∙ rw (all_true (λ _. true) from (λ _ _. refl), all_dropped flags false most_signals from size few not)
