-- `ticking::tries::find` meets its contract: of the pairs, those of the signal are kept, and the k-th of their numbers is answered.
use Prim.Native.Nat.{◌-◌}
use mathlib.Core.Path.{sym, ◌∙◌}
use lib.ListN.{take}
use borrow.Author.Rules.{rules}
use borrow.Author.Tests.{tests}
use Rattle.std.proofs.lemmas.Iterator.{YieldsList-from_slice, YieldsList-from_map}
use Rattle.std.proofs.lemmas.Iterator.Adapters.{option_map_id}
use Rattle.std.proofs.lemmas.Iterator.Consumers.{YieldsList-from_filter, YieldsList-at, nth_from_yields_List}
use Rattle.ticking.proofs.Seeking.{chunks, number_in, is_of, numbers_in, kth}
use Rattle.ticking.proofs.tries.find.Goals as goal

pub returns : goal.returns
returns c =
    let a = c.args in
    let pairs = take a.count (chunks a.given.now) in
    let found =
    nth_from_yields_List c.nth.result c.nth.new.self (a.k - 1) c.nth.ensures.ran
    (YieldsList-from_map _ number_in
    (YieldsList-at c.map.ensures.source
    (YieldsList-from_filter _ (is_of a.e)
    (YieldsList-at c.filter.ensures.source (YieldsList-from_slice pairs (search rules)))
    c.filter.ensures.closure (λ x b q k. search (rules, tests))))
    c.map.ensures.closure (λ x r q k. search (rules, tests)))
    in
    rw numbers_in (sym (option_map_id c.nth.result) ∙ found ∙ kth _ a.k c.requires.2)
