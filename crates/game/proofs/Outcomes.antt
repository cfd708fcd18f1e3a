-- The game of an answer is the one given where nothing is turned down, and otherwise the one lent.
-- By the test of the verdict's number.
use mathlib.Core.Path.{◌≡◌}
use lib.Dec.{eqb}
use borrow.Author.Tests.{eqb-true, ne_eqb}
use Rattle.numbers.proofs.Tests.{by_test}
use Rattle.verdicts.specs.declared.Verdict.{Verdict}
use Rattle.game.specs.declared.Game.{Game}
use Rattle.game.specs.Outcomes.{unless_refused}

module _ (v : Verdict) (given lent : Game) where
  pub game_lent : (v.number ≡ 0 → ⊥) → (unless_refused v given lent).game ≡ lent
  game_lent n = rw (ne_eqb v.number 0 n)

  pub game_either : (P : Game → Type 0) → (v.number ≡ 0 → P given) → P lent → P (unless_refused v given lent).game
  game_either P p q = by_test P (eqb v.number 0) (λ e. p (eqb-true v.number 0 e)) (λ e. q)
