-- `arrays::signals_fit` meets its contract: the fold goes over the flags that are beyond the signals of the book.
use mathlib.Core.Path.{sym, ◌∙◌}
use mathlib.Core.Bool.{true, not, ◌&&◌}
use borrow.Author.Rules.{rules}
use lib.ListN.{drop}
use Rattle.std.proofs.Common.{tests}
use Rattle.std.proofs.lemmas.Iterator.{YieldsList-from_slice}
use Rattle.std.proofs.lemmas.Iterator.Consumers.{fold_from_yields_List}
use Rattle.layout.specs.Layout.{most_signals}
use Rattle.fitting.proofs.Ranges.{folded, to_end, signals_part}
use Rattle.fitting.proofs.arrays.signals_fit.Goals as goal

pub returns : goal.returns
returns c =
    let beyond = drop c.min.result c.args.flags.now in
    let items = YieldsList-from_slice beyond (c.iter.ensures.rest ∙ to_end c.args.flags.now most_signals c.min.result c.told-flags) in
    let over =
    fold_from_yields_List _ (λ b v. b && not v) true c.fold.result c.fold.ensures.ran items (λ a x b q k. search (rules, tests)) in
    over ∙ folded not beyond true ∙ sym (signals_part _ _ _ c.told-flags c.min.ensures)
