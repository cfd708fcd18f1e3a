-- Why an order is turned down, or not: the clauses of document 01 that decide it.
use Rattle.std.specs.Prelude.{ℕ, suc, ◌<◌, ◌≤◌, List}
use Rattle.verdicts.specs.declared.Verdict.{Verdict}
use Rattle.verdicts.specs.Verdicts.{accepted, refused}
use Rattle.layout.specs.Layout.{counts_of}
use Rattle.book.specs.Accepted.{Accepted}
use Rattle.book.specs.Reasons.{BookReason}
use Rattle.game.specs.declared.Game.{Game}
use Rattle.fitting.specs.Fits.{Fits}
use Rattle.orders.specs.Orders.{order_count}

-- "an order checks 1 to 7, then 9, 8"
pub data OrderReason (s : List ℕ) (g : Game) (kind n : ℕ) : Verdict → Type 0 where
  -- 1 to 7, as reading the book tells them
  book : {k p : ℕ} → BookReason s (suc k) p → OrderReason s g kind n (refused (suc k) p)
  -- 9. "The game doesn't fit the book."
  unfit : Accepted s → (Fits s g → ⊥) → OrderReason s g kind n (refused 9 0)
  -- 8. "An order of unknown kind, or a number not below its count.": an unknown kind has the count 0
  unknown : Accepted s → Fits s g → order_count (counts_of s) kind ≤ n → OrderReason s g kind n (refused 8 0)
  -- "both 0 where nothing is turned down"
  nothing : Accepted s → Fits s g → n < order_count (counts_of s) kind → OrderReason s g kind n accepted
