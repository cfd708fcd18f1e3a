-- `play_listing::list_rounds` meets its contract. The loop's invariant: a text with the lines of the rounds that are left behind what is
-- there by now has the lines of all rounds behind what was there.
use Prim.Native.Nat.{ℕ, zero, suc, ◌+◌}
use mathlib.Core.List.{List, [], ◌++◌}
use mathlib.Core.Path.{◌≡◌, refl, sym, ◌∙◌}
use mathlib.Core.Bool.{true, false}
use native.Mathlib.Omega.{arith}
use Rattle.game.specs.declared.Game.{Game}
use Rattle.plays.specs.Plays.{is_over}
use Rattle.texts.proofs.Behind.{puts_nothing, puts_then}
use Rattle.play_listing.specs.Printed.{next_answer, lines_of, lines_from}
use Rattle.play_listing.proofs.list_rounds.Invariants.{left}
use Rattle.play_listing.proofs.list_rounds.Goals as goal

module _ (book : List ℕ) (n : ℕ) (g : Game) where
  none_left : (k : ℕ) → k ≡ 0 → lines_from book k n g ≡ []
  unfolding lines_from
  none_left k e = rw e

  -- a play that is over has no more lines
  over : (k : ℕ) → is_over g ≡ true → lines_from book k n g ≡ []
  unfolding lines_from
  over zero e = refl
  over (suc k) e = rw e

  -- one that is not has those of its next round and of what comes behind it
  goes_on_lem :
      (j k : ℕ) → j ≡ suc k → is_over g ≡ false →
      lines_from book j n g ≡ lines_of n (next_answer book g) ++ lines_from book k (n + 1) (next_answer book g).game
  unfolding lines_from
  goes_on_lem j k s e = rw (s, e)

pub returns-then-is_over : goal.returns-then-is_over
returns-then-is_over c =
    let l = c.loop-number in
    let ended = over c.args.book.now l.number l.game (left l.number) (sym c.is_over.ensures ∙ c.if-is_over.true) in
    l.invariant l.text (rw ended (puts_nothing l.text))

pub loop-number-preserved : goal.loop-number-preserved
loop-number-preserved c =
    let l = c.loop-number in
    let r = c.list_round-game.ensures in
    let goes = sym c.is_over.ensures ∙ c.if-is_over.false in
    let on = goes_on_lem c.args.book.now l.number l.game (left l.number) (left (l.number + 1)) (omega arith) goes in
    λ after rest. l.invariant after (rw on (puts_then r.1 (rw r.0 at rest)))

pub returns : goal.returns
returns c =
    let l = c.loop-number in
    l.invariant l.text (rw (none_left c.args.book.now l.number l.game (left l.number) (omega arith)) (puts_nothing l.text))
