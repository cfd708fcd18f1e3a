-- `actions::join` meets its contract. The invariant: the entries that are left, put behind the list and into stage 1 as both are, give what
-- all give at the start.
use Prim.Native.Nat.{ℕ}
use mathlib.Core.Path.{refl, sym, ◌∙◌}
use mathlib.Core.List.{List}
use lib.ListN.{take}
use Rattle.std.proofs.lemmas.List.{at_drop_more, at_drop_all}
use Rattle.lines.specs.Lines.{line_of, appended}
use Rattle.opening.specs.Actions.{continued}
use Rattle.opening.proofs.actions.join.Goals as goal

pub loop-routine-init : goal.loop-routine-init
loop-routine-init c = (refl, refl)

pub loop-routine-preserved : goal.loop-routine-preserved
unfolding appended continued
loop-routine-preserved c =
    let l = c.loop-routine in
    let xs = take c.used.result c.args.starting.items in
    let more = c.loop-routine-test.true in
    let line = at_drop_more (appended (line_of l.items l.len)) xs l.routine-index 0 more in
    let fields = at_drop_more (λ (rs : List ℕ). record l.tables { fields = continued rs l.tables.fields }) xs l.routine-index 0 more in (
      rw c.push_entry-len.ensures (sym line ∙ l.invariant.0),
      rw (c.put_field.ensures, c.from-r.ensures, c.from.ensures) (sym fields ∙ l.invariant.1),
    )

pub returns : goal.returns
unfolding appended continued
returns c =
    let l = c.loop-routine in
    let xs = take c.used.result c.args.starting.items in
    let over = c.loop-routine-test.false in
    let line = at_drop_all (appended (line_of l.items l.len)) xs l.routine-index over in
    let fields = at_drop_all (λ (rs : List ℕ). record l.tables { fields = continued rs l.tables.fields }) xs l.routine-index over in
    record {
      value = rw (← c.used.ensures.0) (sym line ∙ l.invariant.0);
      after = rw (← c.used.ensures.0) (sym fields ∙ l.invariant.1);
    }
