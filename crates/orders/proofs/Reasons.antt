-- What an order is told is told for the reason that document 01 gives, and nothing else is.
-- A reason settles each check up to its own, so it is enough to find one.
use Prim.Native.Nat.{ℕ, ◌<◌}
use mathlib.Core.Path.{◌≡◌, ◌∙◌}
use mathlib.Core.List.{List}
use native.Mathlib.Omega.{arith}
use native.Mathlib.Decide.{dec_lt}
use borrow.Author.Tests.{lt-ltb, le-ltb}
use Rattle.verdicts.specs.declared.Verdict.{Verdict}
use Rattle.layout.specs.Layout.{counts_of}
use Rattle.book.specs.Accepted.{Accepted}
use Rattle.verdicts.proofs.First.{or_else_told}
use Rattle.book.proofs.Reasons.{book_reason_only}
use Rattle.game.specs.declared.Game.{Game}
use Rattle.fitting.specs.Fits.{Fits}
use Rattle.fitting.proofs.Checks.{unfit_told, past_fit, by_fit}
use Rattle.orders.specs.Orders.{order_count, order_verdict}
use Rattle.orders.specs.Reasons.{OrderReason}

pub order_reason_only : {s : List ℕ} {g : Game} {kind n : ℕ} {v : Verdict} → OrderReason s g kind n v → order_verdict s g kind n ≡ v
unfolding order_verdict
order_reason_only {s} (OrderReason.book t) = or_else_told _ _ (book_reason_only s t)
order_reason_only {s} {g} (OrderReason.unfit a m) = unfit_told s g _ a m
order_reason_only {s} {g} {n = n} (OrderReason.unknown a f h) = past_fit s g _ a f ∙ rw (le-ltb n _ h)
order_reason_only {s} {g} {n = n} (OrderReason.nothing a f h) = past_fit s g _ a f ∙ rw (lt-ltb n _ h)

module _ (s : List ℕ) (g : Game) (kind n : ℕ) where
  told : {v : Verdict} → OrderReason s g kind n v → OrderReason s g kind n (order_verdict s g kind n)
  told t = rw (order_reason_only t) t

  pub order_reason : OrderReason s g kind n (order_verdict s g kind n)
  order_reason =
      by_fit s g (λ k p t. told (OrderReason.book t)) (λ a m. told (OrderReason.unfit a m)) (λ a f.
      elim (dec_lt n (order_count (counts_of s) kind)) [
        | yes h ↦ told (OrderReason.nothing a f h)
        | no h ↦ told (OrderReason.unknown a f (omega arith))
      ]
      )

-- what an accepted order is accepted for
abbrev pub Right : List ℕ → Game → ℕ → ℕ → Type 0
Right s g kind n = Accepted s × Fits s g × (n < order_count (counts_of s) kind)

pub order_clauses : {s : List ℕ} {g : Game} {kind n : ℕ} {v : Verdict} → OrderReason s g kind n v → v.number ≡ 0 → Right s g kind n
order_clauses (OrderReason.book t) e = absurd (omega arith)
order_clauses (OrderReason.unfit a m) e = absurd (omega arith)
order_clauses (OrderReason.unknown a f h) e = absurd (omega arith)
order_clauses (OrderReason.nothing a f h) e = (a, f, h)
