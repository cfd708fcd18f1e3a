-- `opening::finish` meets its contract. The tables have the routines beyond the first R as they were lent, so at the end all are the
-- tables' own.
use Prim.Native.Nat.{◌+◌, ◌-◌, ◌<◌}
use mathlib.Core.Path.{◌≡◌, sym, ◌∙◌}
use mathlib.Core.List.{◌++◌}
use native.Mathlib.Omega.{arith}
use native.Mathlib.Decide.{dec_lt}
use borrow.Author.Rules.{rules}
use lib.ListN.{length, drop, length-append, length-take, length-drop}
use lib.Seq.{ext_get_or, get_or-drop}
use Rattle.std.proofs.lemmas.List.{get_or_append_left, get_or-append_right}
use Rattle.layout.specs.Layout.{most_routines}
use Rattle.game.specs.Game.{blank}
use Rattle.fitting.proofs.Sizes.{length_mapped}
use Rattle.numbers.specs.Counting.{list_below}
use Rattle.tables.specs.Tables.{routine_in}
use Rattle.numbers.proofs.Lists.{below_length, below_read}
use Rattle.opening.proofs.finish.Goals as goal

pub returns : goal.returns
returns c =
    let l = c.loop-at in
    let a = c.args in
    let R = a.counts.routines in
    let items = l.routine-items in
    let routine = routine_in a.tables.now.flags a.tables.now.fields in
    let long : length a.lent ≡ most_routines = search (rules, length_mapped) in
    let part : length items ≡ R = omega (arith, l.auto.routine-items, length-take R a.lent, long, c.requires.few) in
    let size = below_length most_routines routine in
    let wide : length (items ++ drop R a.lent) ≡ most_routines = simp (length-append, length-drop) (omega (arith, part, long, c.requires.few)) in
    let all : items ++ drop R a.lent ≡ list_below most_routines routine =
    ext_get_or blank _ _ (wide ∙ sym size)
    (λ i h.
    let near : i < most_routines = omega (arith, wide, h) in
    elim (dec_lt i R) [
      | yes k ↦
          get_or_append_left items (drop R a.lent) blank i (omega (arith, part, k)) ∙
          l.invariant i (omega (arith, part, k, c.loop-at-test.false)) ∙
          sym (below_read most_routines routine i blank near)
      | no k ↦
          let back : R + (i - R) ≡ i = omega (arith, k) in
          get_or-append_right items (drop R a.lent) R i blank part (omega (arith, k)) ∙
          get_or-drop R a.lent (i - R) blank ∙
          (rw back (sym (c.requires.beyond i (omega (arith, k)) near) ∙ sym (below_read most_routines routine i blank near)))
    ])
    in
    rw (all, c.starting_line.ensures)
