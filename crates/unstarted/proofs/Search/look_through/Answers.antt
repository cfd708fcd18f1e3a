-- `Search::look_through` meets its contract: each turn of the loop takes the routine at `at` out of those that are left to look through.
use Prim.Native.Nat.{ℕ, ◌+◌, ◌-◌, ◌≤◌, ◌<◌}
use mathlib.Core.Path.{◌≡◌, sym, ◌∙◌}
use mathlib.Core.List.{List}
use native.Mathlib.Nat.{sub-eq-zero_of_le}
use borrow.Author.Tests.{lt-ltb, le-ltb}
use lib.ListN.{get_or}
use Rattle.numbers.proofs.Left.{more_left}
use Rattle.layout.specs.Layout.{most_routines}
use Rattle.unstarted.specs.Unstarted.{Search, with_starts, found_from}
use Rattle.unstarted.specs.Seen.{seen}
use Rattle.unstarted.proofs.Search.look_through.Goals as goal

module _ (book : List ℕ) (most at : ℕ) (f : Search) where
  goes :
      at < most → at < f.count →
      found_from (most - at) book at f ≡ found_from (most - (at + 1)) book (at + 1) (with_starts book (get_or f.order at 0) f)
  unfolding found_from
  goes h k = rw (more_left h, lt-ltb at f.count k)

  over : at < most → f.count ≤ at → found_from (most - at) book at f ≡ f
  unfolding found_from
  over h k = rw (more_left h, le-ltb at f.count k)

  ends : most ≤ at → found_from (most - at) book at f ≡ f
  unfolding found_from
  ends h = rw (sub-eq-zero_of_le h)

pub loop-at-init : goal.loop-at-init
loop-at-init c = rw c.find.ensures

pub loop-at-preserved : goal.loop-at-preserved
loop-at-preserved c =
    let l = c.loop-at in
    rw c.find_starts_of.ensures
    (sym (goes c.args.book.now most_routines l.at (seen l.self) c.loop-at-test.true c.if-self-at.false) ∙ l.invariant)

pub returns-then-self-at : goal.returns-then-self-at
returns-then-self-at c =
    let l = c.loop-at in
    sym (over c.args.book.now most_routines l.at (seen l.self) c.loop-at-test.true c.if-self-at.true) ∙ l.invariant

pub returns-after-loop-at : goal.returns-after-loop-at
returns-after-loop-at c =
    let l = c.loop-at in
    sym (ends c.args.book.now most_routines l.at (seen l.self) c.loop-at-test.false) ∙ l.invariant
