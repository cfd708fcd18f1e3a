-- A search in a list of routines is one among its entries.
-- By induction on how many entries count: the last of the first n + 1 is entry n.
use Prim.Native.Nat.{ℕ, zero, suc, ◌≤◌}
use mathlib.Core.Path.{◌≡◌, refl, sym, ◌∙◌}
use mathlib.Core.Bool.{◌||◌, or-false, or_assoc}
use mathlib.Core.List.{List, [], ◌∷◌, ◌++◌}
use native.Mathlib.Omega.{arith}
use native.Mathlib.Decide.{ℕ_discrete}
use borrow.Author.Tests.{ne_eqb}
use lib.Dec.{eqb}
use lib.ListN.{length, get_or, take}
use lib.Seq.{take-suc}
use Rattle.lines.specs.declared.Line.{Line}
use Rattle.numbers.specs.Counting.{any_below}
use Rattle.lines.specs.Lines.{most_entries, used_of, is_in, entries_of}
use Rattle.fitting.proofs.Lists.{LineRight, used_all}
use Rattle.rules.specs.Schedulers.{is_among}

-- a routine among some, and in a list
among_append : (t : ℕ) (l m : List ℕ) → is_among t (l ++ m) ≡ (is_among t l || is_among t m)
unfolding is_among
among_append t [] m = refl
among_append t (u ∷ l) m = rw (among_append t l m, or_assoc)

same_either_way : (a b : ℕ) → eqb a b ≡ eqb b a
same_either_way a b = elim (ℕ_discrete a b) [ yes e ↦ rw e | no n ↦ ne_eqb a b n ∙ sym (ne_eqb b a (λ e. n (sym e))) ]

among_first : (t : ℕ) (l : List ℕ) (n : ℕ) → n ≤ length l → any_below n (λ i. eqb (get_or l i 0) t) ≡ is_among t (take n l)
unfolding any_below
among_first t l zero h = unfold is_among in refl
among_first t l (suc n) h =
    rw (take-suc l n 0 h, among_append, among_first t l n (omega arith)) (unfold is_among in rw (or-false, same_either_way t (get_or l n 0)))

module _ (l : Line) {routines : ℕ} (t : LineRight l routines) (z : length l.items ≡ most_entries) where
  pub entries_among : (r : ℕ) → is_in l r ≡ is_among r (entries_of l)
  unfolding is_in
  entries_among r = among_first r l.items (used_of l) (omega (arith, used_all l t.short))
