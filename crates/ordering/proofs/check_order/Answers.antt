-- `ordering::check_order` meets its contract: each check that accepts drops out of the verdict, and the first that refuses is it.
use Prim.Native.Nat.{ℕ, ◌<◌, ◌≤◌}
use mathlib.Core.Path.{◌≡◌, sym, ap, ◌∙◌}
use mathlib.Core.Bool.{true, false}
use mathlib.Core.List.{List}
use native.Mathlib.Omega.{arith}
use borrow.Author.Tests.{ne_eqb, le-ltb, lt-ltb}
use borrow.Author.Rules.{rules}
use Rattle.std.specs.Prelude.{Err}
use lib.ListN.{get_or-eq_default}
use Rattle.kinds.specs.declared.Counts.{Counts}
use Rattle.verdicts.specs.declared.Refusal.{Refusal}
use Rattle.verdicts.specs.declared.Refusal.TheVariants.{WrongOrder}
use Rattle.verdicts.specs.Verdicts.{accepted, refused, told}
use Rattle.verdicts.proofs.Answers.{refuses}
use Rattle.layout.specs.Layout.{counts_of}
use Rattle.book.specs.Book.{book_verdict}
use Rattle.game.specs.declared.Game.{Game}
use Rattle.fitting.specs.Fitting.{fits_book}
use Rattle.orders.specs.Orders.{order_count, order_verdict}
use Rattle.ordering.proofs.check_order.Goals as goal

module _ (s : List ℕ) (g : Game) (kind n : ℕ) where
  -- 1 to 7
  refused_book : (e : Refusal) → told e ≡ book_verdict s → told e ≡ order_verdict s g kind n
  unfolding order_verdict
  refused_book e r = rw (← r, ne_eqb (told e).number 0 (refuses e))

  module _ (r : accepted ≡ book_verdict s) where
    unfit : fits_book s g ≡ false → refused 9 0 ≡ order_verdict s g kind n
    unfolding order_verdict
    unfit f = rw (← r, f)

    module _ (f : fits_book s g ≡ true) where
      wrong : order_count (counts_of s) kind ≤ n → refused 8 0 ≡ order_verdict s g kind n
      unfolding order_verdict
      wrong h = rw (← r, f, le-ltb n _ h)

      unknown : 5 ≤ kind → refused 8 0 ≡ order_verdict s g kind n
      unknown h = wrong (rw get_or-eq_default (omega arith))

      right : n < order_count (counts_of s) kind → accepted ≡ order_verdict s g kind n
      unfolding order_verdict
      right h = rw (← r, f, lt-ltb n _ h)

-- the count of the kind that a number stands for is that of the number
counted :
    (s : List ℕ) (kind k : ℕ) {counts : Counts} {count : ℕ} → kind ≡ k → counts ≡ counts_of s → count ≡ order_count counts k →
    count ≡ order_count (counts_of s) kind
counted s kind k e f h = rw e (h ∙ ap (λ (c : Counts). order_count c k) f)

pub returns-in_err-read_book-clause-told : goal.returns-in_err-read_book-clause-told
returns-in_err-read_book-clause-told c =
    let e = c.in_err-read_book.field-0.0 in
    let answer : c.from_residual.result ≡ Err e = search rules in
    rw answer (refused_book _ _ _ _ e c.in_err-read_book.ensures)

pub returns-then-not-fits-clause-told : goal.returns-then-not-fits-clause-told
returns-then-not-fits-clause-told c = unfit _ _ _ _ c.in_ok-read_book.ensures (sym c.fits.ensures ∙ c.if-not-fits.true)

pub returns-in_err-order-clause-told : goal.returns-in_err-order-clause-told
returns-in_err-order-clause-told c =
    let answer : c.from_residual-in_err-order.result ≡ Err WrongOrder = search rules in
    let fit = sym c.fits.ensures ∙ c.if-not-fits.false in
    rw answer (unknown _ _ _ _ c.in_ok-read_book.ensures fit c.in_err-order.ensures.0)

pub returns-then-count-number-clause-told : goal.returns-then-count-number-clause-told
returns-then-count-number-clause-told c =
    let fit = sym c.fits.ensures ∙ c.if-not-fits.false in
    let count = counted c.args.book.now _ _ c.in_ok-order.ensures c.counts_of.ensures c.count.ensures in
    wrong _ _ _ _ c.in_ok-read_book.ensures fit (omega (arith, count, c.if-count-number.true))

pub returns-clause-told : goal.returns-clause-told
returns-clause-told c =
    let fit = sym c.fits.ensures ∙ c.if-not-fits.false in
    let count = counted c.args.book.now _ _ c.in_ok-order.ensures c.counts_of.ensures c.count.ensures in
    right _ _ _ _ c.in_ok-read_book.ensures fit (omega (arith, count, c.if-count-number.false))
