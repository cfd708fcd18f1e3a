-- `opening::starting_line` meets its contract: each entry is the row's; from `count` on the row has 0.
use Prim.Native.Nat.{◌<◌}
use mathlib.Core.Path.{◌≡◌, ◌∙◌, sym}
use native.Mathlib.Omega.{arith}
use native.Mathlib.Decide.{dec_lt}
use borrow.Author.Rules.{rules}
use lib.ListN.{length-drop}
use lib.Seq.{ext_get_or}
use Rattle.std.proofs.lemmas.List.{get_or-replicate}
use Rattle.lines.specs.Lines.{most_entries}
use Rattle.tables.specs.Tables.{starting_row, last_row}
use Rattle.opening.proofs.starting_line.Goals as goal

pub loop-at-init : goal.loop-at-init
loop-at-init c = record {
  long = search rules;
  row = λ i h. absurd (omega (arith, h));
  beyond = λ i above below. get_or-replicate most_entries i 0 0 below;
}

pub returns : goal.returns
unfolding last_row
returns c =
    let l = c.loop-at in
    let fields = c.args.tables.now.fields in
    let count = c.args.tables.now.tally.starting in
    let row = last_row starting_row fields in
    let same : l.items ≡ row =
    ext_get_or 0 _ row (omega (arith, l.invariant.long, length-drop starting_row fields, c.requires.short.1))
    (λ i h.
    elim (dec_lt i count) [
      | yes k ↦ l.invariant.row i (omega (arith, k, c.loop-at-test.false))
      | no k ↦
          let near : i < most_entries = omega (arith, h, l.invariant.long) in
          l.invariant.beyond i (omega (arith, k, l.auto.at-end)) near ∙ sym (c.requires.beyond i (omega (arith, k)) near)
    ])
    in
    rw same
