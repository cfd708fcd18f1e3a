-- `lines::is_in` meets its contract: a routine is among the entries that count where it is one of the first so many items.
use Prim.Native.Nat.{ℕ, zero, suc, ◌≤◌}
use mathlib.Core.Path.{◌≡◌, refl, ◌∙◌}
use mathlib.Core.Bool.{Bool}
use mathlib.Core.List.{List}
use native.Mathlib.Numerals.{add-one}
use native.Mathlib.Omega.{arith}
use borrow.Author.Rules.{rules}
use lib.Dec.{eqb}
use lib.ListN.{length, get_or, take}
use Rattle.std.specs.List.{list_any}
use Rattle.std.proofs.lemmas.List.Folds.{list_any_more}
use Rattle.numbers.specs.Counting.{any_below}
use Rattle.lines.specs.Lines.{is_in}
use Rattle.lines.proofs.is_in.Goals as goal

any_entry : (test : ℕ → Bool) (items : List ℕ) (n : ℕ) → n ≤ length items → list_any test (take n items) ≡ any_below n (λ i. test (get_or items i 0))
unfolding any_below
any_entry test items zero h = refl
any_entry test items (suc n) h = rw (← (add-one n), list_any_more test items n 0 (omega arith), any_entry test items n (omega arith))

pub returns : goal.returns
unfolding is_in
returns c =
    let items = c.args.line.items in
    let found : c.contains.result ≡ list_any (λ x. eqb x c.args.routine) (take c.used.result items) = c.contains.ensures.value in
    let inside : c.used.result ≤ length items = search rules in
    found ∙ any_entry (λ x. eqb x c.args.routine) items c.used.result inside ∙ rw c.used.ensures.0
