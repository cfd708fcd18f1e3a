-- `arrays::are_within` meets its contract: the fold goes over the values.
use mathlib.Core.Path.{◌∙◌}
use mathlib.Core.Bool.{Bool, true, ◌&&◌}
use borrow.Author.Rules.{rules}
use lib.IntN.{ℤ}
use Rattle.std.proofs.Common.{tests}
use Rattle.std.proofs.lemmas.Iterator.{YieldsList-from_slice}
use Rattle.std.proofs.lemmas.Iterator.Consumers.{fold_from_yields_List}
use Rattle.numbers.specs.Numbers.{is_within}
use Rattle.fitting.proofs.Ranges.{folded}
use Rattle.fitting.proofs.arrays.are_within.Goals as goal

pub returns : goal.returns
returns c =
    let within : ℤ → Bool = λ v. is_within v c.args.low c.args.high in
    let items = YieldsList-from_slice c.args.values.now cc in
    let over =
    fold_from_yields_List _ (λ b v. b && within v) true c.fold.result c.fold.ensures.ran items (λ a x b q k. search (rules, tests)) in
    over ∙ folded within c.args.values.now true
