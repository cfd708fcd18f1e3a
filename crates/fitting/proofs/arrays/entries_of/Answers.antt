-- `arrays::entries_of` meets its contract: the item of a turn is the next entry, and the flags tell whether it is among those before it.
use Prim.Native.Nat.{◌<◌}
use mathlib.Core.Path.{◌≡◌, refl, ◌∙◌}
use mathlib.Core.Bool.{false}
use native.Mathlib.Omega.{arith}
use borrow.Author.Rules.{rules}
use lib.ListN.{length-replicate, length-take}
use Prim.Native.Nat.{ℕ}
use Rattle.std.proofs.lemmas.List.{get_or-take}
use Rattle.numbers.specs.Numbers.{byte_limit}
use Rattle.lines.specs.Lines.{item_at}
use Rattle.numbers.specs.Counting.{all_below}
use Rattle.numbers.proofs.Below.{all_fails, all_next}
use Rattle.fitting.specs.Arrays.{entry_fits}
use Rattle.fitting.proofs.Flagged.{flagged_none, flagged_next, entry_beyond, entry_twice, entry_new}
use Rattle.fitting.proofs.arrays.entries_of.Goals as goal
use Rattle.fitting.proofs.arrays.entries_of.Goals.{then-routines-item-via-then-routines-item, then-routines-item-via-else-routines-item+then-seen-item}

pub loop-item-init : goal.loop-item-init
unfolding all_below
loop-item-init c = record {
  fit = refl;
  marked = flagged_none c.args.line.now _ refl;
  size = length-replicate byte_limit false;
}

pub returns-then-routines-item : goal.returns-then-routines-item
returns-then-routines-item c =
    let l = c.loop-item in
    let line = c.args.line.now in
    let used : l.item-index < line.len = omega (arith, length-take {A = ℕ}) in
    let here : c.from-item.result ≡ item_at line l.item-index = c.from-item.ensures ∙ get_or-take line.len line.items l.item-index 0 used in
    let small : item_at line l.item-index < byte_limit = rw (← here) (search rules) in
    all_fails (entry_fits _ _) _ l.item-index used
    (elim c.then-routines-item.branch [
      | then-routines-item-via-then-routines-item w ↦ entry_beyond _ _ used (rw here at w.if-routines-item.true)
      | then-routines-item-via-else-routines-item+then-seen-item w ↦
          entry_twice _ _ used l.seen l.invariant.marked small (rw here at w.if-seen-item.true)
    ])

pub loop-item-preserved : goal.loop-item-preserved
loop-item-preserved c =
    let l = c.loop-item in
    let line = c.args.line.now in
    let used : l.item-index < line.len = omega (arith, length-take {A = ℕ}) in
    let here : c.from-item.result ≡ item_at line l.item-index = c.from-item.ensures ∙ get_or-take line.len line.items l.item-index 0 used in
    let small : item_at line l.item-index < byte_limit = rw (← here) (search rules) in
    let new = entry_new _ _ used l.seen l.invariant.marked small (rw here at c.if-routines-item.false) (rw here at c.if-seen-item.false) in
    record {
      fit = all_next (entry_fits _ _) l.item-index l.invariant.fit new;
      marked = rw here (flagged_next line l.seen l.item-index (omega arith) (omega arith) l.invariant.marked);
      size = search rules;
    }
