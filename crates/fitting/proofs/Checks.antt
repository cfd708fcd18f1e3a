-- The checks of book and game, "1 to 7, then 9", with which storing, an order and a round begin: what is told of a game that does not fit
-- and what is left to be told of one that does; a claim follows if it does in each case.
use Prim.Native.Nat.{ℕ, zero, suc}
use mathlib.Core.Path.{◌≡◌, refl}
use mathlib.Core.List.{List}
use Rattle.numbers.proofs.Tests.{clash, not_true_false, by_flag}
use Rattle.verdicts.specs.declared.Verdict.{Verdict}
use Rattle.verdicts.specs.Verdicts.{refused, ◌or_else◌}
use Rattle.book.specs.Book.{book_verdict}
use Rattle.book.specs.Accepted.{Accepted}
use Rattle.book.specs.Reasons.{BookReason}
use Rattle.book.proofs.Reasons.{book_reason, book_reason_only, number_accepted}
use Rattle.game.specs.declared.Game.{Game}
use Rattle.fitting.specs.Fitting.{fits_book, fit_verdict}
use Rattle.fitting.specs.Fits.{Fits}
use Rattle.fitting.proofs.Decides.{fits_decides}

module _ (s : List ℕ) (g : Game) where
  pub unfit_told : (w : Verdict) → Accepted s → (Fits s g → ⊥) → (book_verdict s or_else fit_verdict s g or_else w) ≡ refused 9 0
  unfit_told w a m =
      let unfit = not_true_false (fits_book s g) (λ e. m ((fits_decides s a.laid.counts g).0 e)) in
      rw (book_reason_only s (BookReason.nothing a), unfit)

  pub past_fit : (w : Verdict) → Accepted s → Fits s g → (book_verdict s or_else fit_verdict s g or_else w) ≡ w
  past_fit w a f = rw (book_reason_only s (BookReason.nothing a), (fits_decides s a.laid.counts g).1 f)

  -- a claim follows if it does from a refusal of the book, from a game that does not fit it, and from one that does
  by_book :
      {P : Type 0} {k p : ℕ} → (k ≡ 0 → Accepted s) → BookReason s k p →
      ((j : ℕ) → BookReason s (suc j) p → P) → (Accepted s → P) → P
  by_book {k = zero} accepts t refusal acceptance = acceptance (accepts refl)
  by_book {k = suc k} accepts t refusal acceptance = refusal k t

  pub by_fit :
      {P : Type 0} → ((k p : ℕ) → BookReason s (suc k) p → P) → (Accepted s → (Fits s g → ⊥) → P) → (Accepted s → Fits s g → P) → P
  by_fit refusal unfit fits =
      by_book (number_accepted s) (book_reason s) (λ k t. refusal k _ t) (λ a.
      let fitting = fits_decides s a.laid.counts g in
      by_flag (fits_book s g) (λ h. fits a (fitting.0 h)) (λ h. unfit a (λ f. clash (fitting.1 f) h)))
