-- `pass` meets its contract: what is left of the playing order leads to what the whole order led to, and the entry at hand is its first.
use Prim.Native.Nat.{ℕ, ◌<◌, ◌≤◌}
use mathlib.Core.Path.{◌≡◌, ◌∙◌}
use native.Mathlib.Omega.{arith}
use lib.ListN.{length, take, get_or, length-take}
use lib.Seq.{get_or-take}
use borrow.Author.Rules.{rules}
use Rattle.lines.specs.declared.Line.{Line}
use Rattle.lines.specs.Lines.{most_entries, used_of, item_at}
use Rattle.lines.proofs.Entries.{entries_over}
use Rattle.passing.proofs.OnePass.{turn_asks, goes_on_lem, pass_none}
use Rattle.passing.proofs.pass.Goals as goal

-- the entries that count, as a slice
module _ (order : Line) {n i : ℕ} (used : n ≡ used_of order) where
  below : i < length (take n order.items) → i < used_of order
  below h = omega (arith, simp length-take at h)

  entry : (more : i < length (take n order.items)) → get_or (take n order.items) i 0 ≡ item_at order i
  entry more = get_or-take n order.items i 0 (omega (arith, below more))

  over : length order.items ≡ most_entries → n ≤ most_entries → length (take n order.items) ≤ i → used_of order ≤ i
  over long few h = omega (arith, simp length-take at h)

pub turn-taken-requires-clause-ready : goal.turn-taken-requires-clause-ready
turn-taken-requires-clause-ready c =
    let order = c.args.order in
    rw (c.from.ensures ∙ entry order c.used.ensures.0 c.loop-routine-test.true)
    (c.requires.by_index _ (below order c.used.ensures.0 c.loop-routine-test.true))

pub turn-taken-requires-clause-turn_asks : goal.turn-taken-requires-clause-turn_asks
turn-taken-requires-clause-turn_asks c =
    let i = c.loop-routine.invariant in
    let asked = c.requires.pass_asks in
    let order = c.args.order in
    let more = below order c.used.ensures.0 c.loop-routine-test.true in
    let is = c.from.ensures ∙ entry order c.used.ensures.0 c.loop-routine-test.true in
    let items_long : length order.items ≡ most_entries = search rules in
    (asked.0, rw i.given_long (turn_asks i items_long more _ is asked.0 asked.1))

pub loop-routine-preserved : goal.loop-routine-preserved
loop-routine-preserved c =
    let i = c.loop-routine.invariant in
    let turn = c.turn-taken.ensures in
    let order = c.args.order in
    let more = below order c.used.ensures.0 c.loop-routine-test.true in
    let is = c.from.ensures ∙ entry order c.used.ensures.0 c.loop-routine-test.true in
    let items_long : length order.items ≡ most_entries = search rules in
    let long = i.given_long in
    rw c.is_done-done.ensures
    (goes_on_lem i items_long more _ is _ _ _ _ turn.turn_after (rw long at turn.whole_2) (turn.given_len_unchanged ∙ long)
    (c.turn-taken.auto.marks ∙ i.marks_long))

pub returns-clause-continued_after : goal.returns-clause-continued_after
returns-clause-continued_after c =
    let i = c.loop-routine.invariant in
    let order = c.args.order in
    let items_long : length order.items ≡ most_entries = search rules in
    let none = over order c.used.ensures.0 items_long c.used.ensures.1 c.loop-routine-test.false in
    let all = entries_over order c.loop-routine.routine-index none in
    λ g. rw (all, pass_none) at (i.leads g)
