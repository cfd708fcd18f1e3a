-- `effects::is_to_start` meets its contract: with room for all that are to start, a test at each below their count is one at each entry.
use Prim.Native.Nat.{ℕ, zero, suc, ◌+◌, ◌≤◌}
use mathlib.Core.Path.{◌≡◌, refl, ap, ◌∙◌}
use mathlib.Core.Bool.{Bool, or-false}
use mathlib.Core.List.{List, [], ◌∷◌, ◌++◌}
use native.Mathlib.Nat.{add-zero, zero-add}
use native.Mathlib.Omega.{arith}
use native.Mathlib.Decide.{dec_lt}
use borrow.Author.Rules.{rules}
use borrow.Author.Tests.{lt-ltb, le-ltb}
use lib.Dec.{ltb, eqb}
use lib.ListN.{get_or}
use Rattle.std.specs.Prelude.{if◌then◌else◌}
use Rattle.std.specs.List.{list_any, range_with_len}
use Rattle.std.proofs.lemmas.List.Folds.{list_any-append}
use Rattle.std.proofs.lemmas.Iterator.{YieldsList-from_range}
use Rattle.std.proofs.lemmas.Iterator.Search.{any_from_yields_List}
use Rattle.numbers.specs.Counting.{any_below}
use Rattle.lines.specs.Lines.{most_entries, is_in}
use Rattle.tables.specs.Tables.{last_row, starting_row}
use Rattle.passing.specs.Effects.{is_starting}
use Rattle.passing.proofs.effects.is_to_start.Goals as goal

range_more : (a n : ℕ) → range_with_len a (suc n) ≡ range_with_len a n ++ ((a + n) ∷ [])
range_more a zero = rw add-zero
range_more a (suc n) =
    let e : a + 1 + n ≡ a + suc n = omega arith in
    ap (λ (l : List ℕ). a ∷ l) (rw e at (range_more (a + 1) n))

any_of_range : (p : ℕ → Bool) (n : ℕ) → list_any p (range_with_len 0 n) ≡ any_below n p
unfolding any_below
any_of_range p zero = refl
any_of_range p (suc n) =
    ap (list_any p) (range_more 0 n) ∙ list_any-append p (range_with_len 0 n) _ ∙ rw (any_of_range p n, zero-add, or-false)

-- with room for all that are to start, all of them count
used_all : (n : ℕ) → n ≤ most_entries → (if ltb n most_entries then n else most_entries) ≡ n
used_all n h =
    elim (dec_lt n most_entries) [
      | yes l ↦ rw (lt-ltb _ _ l)
      | no l ↦ rw (le-ltb n most_entries (omega arith)) (omega arith)
    ]

starting_by :
    (fields : List ℕ) (n r : ℕ) → n ≤ most_entries →
    is_starting fields n r ≡ list_any (λ i. eqb (get_or (last_row starting_row fields) i 0) r) (range_with_len 0 n)
unfolding is_starting is_in
starting_by fields n r h = rw (used_all n h, any_of_range)

pub returns : goal.returns
returns c =
    let t = c.args.tables.now in
    rw (starting_by _ _ _ c.requires)
    (any_from_yields_List (λ i. eqb (get_or (last_row starting_row t.fields) i 0) c.args.routine) _ _ _ c.any.ensures.ran
    (YieldsList-from_range 0 t.tally.starting t.tally.starting refl (omega arith)) (λ x b q h. search rules))
