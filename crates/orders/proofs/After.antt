-- After an order that is accepted the game fits the book, and the same order again answers the same and leaves the same game.
-- The reason of what is told says that the game before it fits, and the game after it is the one that obeys.
use Prim.Native.Nat.{ℕ}
use mathlib.Core.Path.{◌≡◌, sym, ◌∙◌, ap}
use mathlib.Core.List.{List}
use native.Mathlib.Decide.{ℕ_discrete}
use borrow.Author.Tests.{eq-eqb}
use Rattle.verdicts.specs.Verdicts.{accepted}
use Rattle.game.specs.declared.Game.{Game}
use Rattle.game.specs.declared.Outcome.{Outcome}
use Rattle.game.proofs.Outcomes.{game_lent}
use Rattle.fitting.specs.Fitting.{fits_book}
use Rattle.fitting.proofs.Decides.{fits_decides}
use Rattle.orders.specs.Orders.{order_verdict, obeyed, ordered}
use Rattle.orders.specs.Reasons.{OrderReason}
use Rattle.fitting.specs.Fits.{GivesFitting}
use Rattle.orders.proofs.Obeyed.{obeyed_fits, obeyed_again}
use Rattle.orders.proofs.Reasons.{Right, order_clauses, order_reason_only, order_reason}

-- the answer of an order that is accepted
abbrev given : Game → Outcome
given g = record { verdict = accepted; game = g }

right_given : (s : List ℕ) (g : Game) (kind n : ℕ) → Right s g kind n → ordered s g kind n ≡ given (obeyed g kind n)
unfolding ordered
right_given s g kind n (a, f, h) = rw (order_reason_only (OrderReason.nothing a f h))

module _ (s : List ℕ) (g : Game) (kind n : ℕ) where
  pub order_fits : GivesFitting s (ordered s g kind n)
  unfolding ordered
  order_fits e =
      let (a, f, h) = order_clauses (order_reason s g kind n) (ap (λ v. v.number) e) in
      rw e (obeyed_fits s g f a.laid.counts kind n h)

  -- whether the game fits is as it was, after a refusal too
  pub order_keeps : fits_book s (ordered s g kind n).game ≡ fits_book s g
  unfolding ordered
  order_keeps =
      elim (ℕ_discrete (order_verdict s g kind n).number 0) [
        | yes e ↦
            let (a, f, h) = order_clauses (order_reason s g kind n) e in
            let fitting = fits_decides s a.laid.counts in
            rw (eq-eqb _ _ e) ((fitting (obeyed g kind n)).1 (obeyed_fits s g f a.laid.counts kind n h) ∙ sym ((fitting g).1 f))
        | no m ↦ ap (fits_book s) (game_lent (order_verdict s g kind n) (obeyed g kind n) g m)
      ]

  pub order_twice : ordered s (ordered s g kind n).game kind n ≡ ordered s g kind n
  unfolding ordered
  order_twice =
      elim (ℕ_discrete (order_verdict s g kind n).number 0) [
        | yes e ↦
            let (a, f, h) = order_clauses (order_reason s g kind n) e in
            let first = right_given s g kind n (a, f, h) in
            let second = right_given s (obeyed g kind n) kind n (a, obeyed_fits s g f a.laid.counts kind n h, h) in
            ap (λ o. ordered s o.game kind n) first ∙ second ∙ ap given (obeyed_again s g f kind n) ∙ sym first
        | no m ↦ ap (λ x. ordered s x kind n) (game_lent (order_verdict s g kind n) (obeyed g kind n) g m)
      ]
