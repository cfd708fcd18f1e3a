-- `actions::settle` meets its contract. The invariant: the entries that are left, settled from the fields and the list as both are, give
-- what all give at the start.
use Prim.Native.Nat.{ℕ}
use mathlib.Core.Path.{◌≡◌, refl, sym, ◌∙◌}
use mathlib.Core.List.{List}
use lib.ListN.{take}
use Rattle.std.proofs.lemmas.List.{at_drop_more, at_drop_all}
use Rattle.std.specs.Prelude.{if◌then◌else◌}
use Rattle.lines.specs.Lines.{line_of, pushed}
use Rattle.opening.specs.Actions.{settled, settled_line}
use Rattle.opening.proofs.actions.settle.Goals as goal
use Rattle.opening.proofs.actions.settle.Goals.{then-stays, else-stays}

pub loop-routine-init : goal.loop-routine-init
loop-routine-init c = (refl, refl)

pub loop-routine-preserved : goal.loop-routine-preserved
unfolding settled settled_line
loop-routine-preserved c =
    let l = c.loop-routine in
    let t = l.tables in
    let xs = take c.used.result c.args.joined.items in
    let more = c.loop-routine-test.true in
    let fields = at_drop_more (λ (rs : List ℕ). record t { fields = settled t.flags rs t.fields }) xs l.routine-index 0 more in
    let line = at_drop_more (λ (rs : List ℕ). settled_line t.flags rs t.fields (line_of l.items l.len)) xs l.routine-index 0 more in
    let stage = c.field-stage.ensures.0 in
    let next : line_of c.if-stays.items c.if-stays.len ≡ (if c.stays.result then pushed (line_of l.items l.len) c.from-r.result else line_of l.items l.len) =
    elim c.if-stays.branch [
      | then-stays w ↦ rw (w.items-is, w.len-is, w.if-stays.true, c.from-r.ensures) w.push_entry-len.ensures
      | else-stays w ↦ rw (w.items-is, w.len-is, w.if-stays.false)
    ]
    in (
      rw (c.put_field.ensures, c.settled_stage.ensures.0, c.flag-stops.ensures, stage, c.from-r.ensures) (sym fields ∙ l.invariant.0),
      rw (
        next,
        c.put_field.ensures,
        c.settled_stage.ensures.0,
        c.stays.ensures,
        c.flag-stops.ensures,
        stage,
        c.from-r.ensures,
      ) (sym line ∙ l.invariant.1),
    )

pub returns : goal.returns
unfolding settled settled_line
returns c =
    let l = c.loop-routine in
    let t = l.tables in
    let xs = take c.used.result c.args.joined.items in
    let over = c.loop-routine-test.false in
    let fields = at_drop_all (λ (rs : List ℕ). record t { fields = settled t.flags rs t.fields }) xs l.routine-index over in
    let line = at_drop_all (λ (rs : List ℕ). settled_line t.flags rs t.fields (line_of l.items l.len)) xs l.routine-index over in
    record {
      value = rw (← c.used.ensures.0) (sym line ∙ l.invariant.1);
      after = rw (← c.used.ensures.0) (sym fields ∙ l.invariant.0);
    }
