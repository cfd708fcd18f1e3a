-- `arrays::counters_fit` meets its contract: the values up to the end are the counters of the book, as far as there is room for them.
use mathlib.Core.Path.{ap, ◌∙◌}
use lib.IntN.{pos}
use Rattle.std.specs.List.{list_all}
use Rattle.numbers.specs.Numbers.{is_within}
use Rattle.layout.specs.Layout.{most_counters}
use Rattle.fitting.proofs.Ranges.{to_end, counters_parts}
use Rattle.fitting.proofs.arrays.counters_fit.Goals as goal

pub returns-then-are_within : goal.returns-then-are_within
returns-then-are_within c =
    let values = c.args.values.now in
    let end = c.min-end.result in
    let parts = counters_parts values c.args.counters end c.told-values c.min-end.ensures in
    let rest = ap (list_all (λ v. is_within v (pos 0) (pos 0))) (to_end values most_counters end c.told-values) in
    rw (parts, ← c.are_within.ensures, c.if-are_within.true) (c.are_within-then-are_within.ensures ∙ rest)

pub returns-else-are_within : goal.returns-else-are_within
returns-else-are_within c =
    let parts = counters_parts c.args.values.now c.args.counters c.min-end.result c.told-values c.min-end.ensures in
    rw (parts, ← c.are_within.ensures, c.if-are_within.false)
