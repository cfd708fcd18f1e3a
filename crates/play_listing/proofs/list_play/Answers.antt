-- `play_listing::list_play` meets its contract: what set-up answers decides between the line of a refusal and the lines of a play.
use Prim.Native.Nat.{ℕ}
use mathlib.Core.Path.{◌≡◌}
use mathlib.Core.List.{List}
use borrow.Author.Tests.{eq-eqb, ne_eqb}
use borrow.Author.Rules.{rules}
use Rattle.game.specs.Game.{blank_game}
use Rattle.game.specs.declared.Outcome.{Outcome}
use Rattle.setup.specs.SetUp.{set_up}
use Rattle.listing.specs.Listing.{refusal_line}
use Rattle.play_listing.specs.Printed.{most_rounds, lines_from, printed}
use Rattle.play_listing.proofs.list_play.Goals as goal

module _ (book : List ℕ) (o : Outcome) (e : o ≡ set_up book blank_game) where
  refused : (o.verdict.number ≡ 0 → ⊥) → printed book ≡ refusal_line o.verdict
  unfolding printed
  refused n = rw (← e, ne_eqb _ 0 n)

  played : o.verdict.number ≡ 0 → printed book ≡ lines_from book most_rounds 1 o.game
  unfolding printed
  played z = rw (← e, eq-eqb _ 0 z)

pub returns-then-verdict-ne0 : goal.returns-then-verdict-ne0
returns-then-verdict-ne0 c =
    let e = rw c.blank_game.ensures at c.set_up-outcome.ensures.0 in
    let told = refused _ _ e c.if-verdict-ne0.true in
    let put = rw (← told) at c.put_refusal.ensures.put in
    search rules

pub returns : goal.returns
returns c =
    let e = rw c.blank_game.ensures at c.set_up-outcome.ensures.0 in
    let told = played _ _ e c.if-verdict-ne0.false in
    let put = rw (← told) at c.list_rounds.ensures.put in
    search rules
