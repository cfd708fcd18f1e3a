-- `round` meets its contract. The invariant: the first `at` routines are taken apart. Once all are, the round is opened; its passes are
-- played out, and the tables behind them have the round's game.
use Prim.Native.Nat.{◌<◌}
use native.Mathlib.Omega.{arith}
use borrow.Author.Rules.{rules}
use mathlib.Core.Path.{◌≡◌, refl, subst, ◌∙◌}
use lib.ListN.{length, length-take}
use Rattle.std.proofs.lemmas.List.{get_or-take}
use Rattle.layout.specs.Layout.{most_routines}
use Rattle.fitting.proofs.Sizes.{length_mapped}
use Rattle.game.specs.Game.{blank}
use Rattle.opening.proofs.Taking.{Taken, taken_none, take_on}
use Rattle.opening.specs.Games.{no_tally, Opened}
use Rattle.opening.proofs.Opened.{few_routines_lem, opened}
use Rattle.playing.proofs.Finished.{holds_game, finished}
use Rattle.playing.proofs.round.Goals as goal
use Rattle.playing.proofs.round.Goals.{After-open-order}

pub loop-at-init : goal.loop-at-init
loop-at-init c = (taken_none c.args.game.routines, refl, refl)

pub loop-at-preserved : goal.loop-at-preserved
loop-at-preserved c =
    let g = c.args.game in
    let l = c.loop-at in
    let few = few_routines_lem c.args.book.now g c.requires.0 c.requires.1 in
    let long : length g.routines ≡ most_routines = search (rules, length_mapped) in
    let more : l.at < g.counts.routines = omega (arith, c.loop-at-test.true, length-take g.counts.routines g.routines) in
    let item = get_or-take g.counts.routines g.routines l.at blank more in
    let taken = take_on g.routines l.at l.tables.flags l.tables.fields (omega (arith, more, few)) l.invariant.0 in
    rw c.take.ensures ((rw item taken), l.invariant.1, l.invariant.2)

-- the round is opened
opened_now : (c : After-open-order) → Opened c.args.book.now c.args.game c.open-order.result c.open-order.new.tables
opened_now c =
    let g = c.args.game in
    let l = c.loop-at in
    let few = few_routines_lem c.args.book.now g c.requires.0 c.requires.1 in
    let long : length g.routines ≡ most_routines = search (rules, length_mapped) in
    let all = length-take g.counts.routines g.routines in
    let end : l.at ≡ g.counts.routines = omega (arith, c.loop-at-test.false, l.auto.at-end, all, few, long) in
    let taken = subst (λ n. Taken g.routines n l.tables.flags l.tables.fields) end l.invariant.0 in
    let then = c.open-order.ensures in
    let none : c.default.result ≡ no_tally = search rules in
    opened c.args.book.now g c.requires.0 c.requires.1 l.tables _ _ taken l.invariant.1 (l.invariant.2 ∙ none) then.value then.after

pub play_out-passes-requires : goal.play_out-passes-requires
play_out-passes-requires c = (_, opened_now (goal.at.play_out-passes-requires c).After-open-order)

pub finish-requires : goal.finish-requires
finish-requires c =
    let o = opened_now (goal.at.finish-requires c).After-open-order in
    holds_game _ _ o.accepted o.fits (c.play_out-passes.ensures _ o)

pub returns : goal.returns
returns c =
    let o = opened_now (goal.at.returns c).After-open-order in
    let done = c.play_out-passes.ensures _ o in
    finished _ _ o.accepted o.fits done _ _ _ o.listed c.as_verdict.ensures c.finish.ensures c.requires.2
