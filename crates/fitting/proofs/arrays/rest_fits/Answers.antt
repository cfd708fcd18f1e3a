-- `arrays::rest_fits` meets its contract: the fold goes over the items from the length on.
use mathlib.Core.Path.{◌≡◌, ◌∙◌}
use mathlib.Core.Bool.{Bool, true, ◌&&◌}
use Prim.Native.Nat.{ℕ}
use borrow.Author.Rules.{rules}
use lib.Dec.{eqb}
use lib.ListN.{length, drop}
use Rattle.std.proofs.Common.{tests}
use Rattle.std.proofs.lemmas.Iterator.{YieldsList-from_slice}
use Rattle.std.proofs.lemmas.Iterator.Consumers.{fold_from_yields_List}
use Rattle.lines.specs.Lines.{most_entries}
use Rattle.fitting.proofs.Ranges.{folded, to_end}
use Rattle.fitting.proofs.arrays.rest_fits.Goals as goal

pub returns : goal.returns
returns c =
    let line = c.args.line.now in
    let size : length line.items ≡ most_entries = search rules in
    let none : ℕ → Bool = λ v. eqb v 0 in
    let rest = drop line.len line.items in
    let items = YieldsList-from_slice rest (c.iter.ensures.rest ∙ to_end line.items most_entries line.len size) in
    let over =
    fold_from_yields_List _ (λ b v. b && none v) true c.fold.result c.fold.ensures.ran items (λ a x b q k. search (rules, tests)) in
    over ∙ folded none rest true
