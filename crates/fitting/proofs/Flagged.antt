-- The flags that a list's entries leave, one by one: behind the first n entries they tell which routines are among those.
-- A flag that is set is that of the entry; the others stay as they were.
use Prim.Native.Nat.{ℕ, ◌+◌, ◌<◌, ◌≤◌}
use mathlib.Core.Path.{◌≡◌, refl, sym, subst, ◌∙◌}
use mathlib.Core.Bool.{Bool, true, false, and-false, or-true, or-false}
use mathlib.Core.List.{List}
use native.Mathlib.Omega.{arith}
use native.Mathlib.Decide.{ℕ_discrete}
use native.Mathlib.Numerals.{add-one}
use borrow.Author.Tests.{lt-ltb, le-ltb, eq-eqb, ne_eqb}
use lib.Dec.{eqb}
use lib.ListN.{length, get_or, set, get_or-replicate}
use lib.Seq.{get_or-set_same, get_or-set_other}
use Rattle.numbers.specs.Numbers.{byte_limit}
use Rattle.numbers.specs.Counting.{any_below}
use Rattle.lines.specs.declared.Line.{Line}
use Rattle.lines.specs.Lines.{most_entries, item_at, is_in}
use Rattle.fitting.specs.Arrays.{entries_before, entry_fits, unflagged, Flagged}
use Rattle.fitting.proofs.Lists.{used_all}

module _ (l : Line) where
  in_first : (n : ℕ) → n ≤ most_entries → (r : ℕ) → is_in (entries_before l n) r ≡ any_below n (λ i. eqb (item_at l i) r)
  unfolding is_in
  in_first n h r = rw (used_all (entries_before l n) h)

  pub flagged_none : (seen : List Bool) → seen ≡ unflagged → Flagged seen (entries_before l 0)
  unfolding any_below
  flagged_none seen none r h = rw none (get_or-replicate byte_limit r false false h ∙ sym (in_first 0 (omega arith) r))

  pub flagged_next :
      (seen : List Bool) (n : ℕ) → n < most_entries → item_at l n < length seen → Flagged seen (entries_before l n) →
      Flagged (set seen (item_at l n) true) (entries_before l (n + 1))
  unfolding any_below
  flagged_next seen n h inside so_far r small =
      rw (in_first (n + 1) (omega arith) r, add-one)
      (elim (ℕ_discrete (item_at l n) r) [
        | yes e ↦ rw (← e, get_or-set_same seen (item_at l n) true false inside, eq-eqb (item_at l n) (item_at l n) refl, or-true)
        | no d ↦
            rw (ne_eqb (item_at l n) r d, or-false)
            (get_or-set_other seen (item_at l n) r true false (λ e. d (sym e)) ∙ so_far r small ∙ in_first n (omega arith) r)
      ])

  pub flagged_all : (seen : List Bool) {n : ℕ} → n ≤ l.len → l.len ≤ n → Flagged seen (entries_before l n) → Flagged seen l
  flagged_all seen {n} h k marks = let e : n ≡ l.len = omega arith in subst (λ (m : ℕ). Flagged seen (entries_before l m)) e marks

  -- entry i, behind the flags of those before it
  module _ (routines : ℕ) {i : ℕ} (used : i < l.len) where
    pub entry_beyond : routines ≤ item_at l i → entry_fits l routines i ≡ false
    unfolding entry_fits
    entry_beyond h = rw (lt-ltb i l.len used, le-ltb (item_at l i) routines h)

    module _ (seen : List Bool) (marks : Flagged seen (entries_before l i)) (small : item_at l i < byte_limit) where
      pub entry_twice : get_or seen (item_at l i) false ≡ true → entry_fits l routines i ≡ false
      unfolding entry_fits
      entry_twice h = rw (lt-ltb i l.len used, ← (marks (item_at l i) small), h, and-false)

      pub entry_new : item_at l i < routines → get_or seen (item_at l i) false ≡ false → entry_fits l routines i ≡ true
      unfolding entry_fits
      entry_new k h = rw (lt-ltb i l.len used, lt-ltb (item_at l i) routines k, ← (marks (item_at l i) small), h)
