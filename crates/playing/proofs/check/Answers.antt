-- `playing::check` meets its contract: each check of the code is the next of the definition's, so a refusal is one of the cases of
-- Answering.antt.
use Prim.Native.Nat.{ℕ}
use mathlib.Core.Path.{◌≡◌, refl, sym, ap, ◌∙◌}
use mathlib.Core.Bool.{Bool, true}
use mathlib.Core.List.{List}
use native.Mathlib.Omega.{arith}
use Rattle.std.proofs.lemmas.Result.{err_from_is_err_and}
use Rattle.verdicts.specs.declared.Verdict.{Verdict}
use Rattle.verdicts.specs.Verdicts.{accepted}
use Rattle.verdicts.proofs.Answers.{refuses}
use Rattle.book.specs.Book.{book_verdict}
use Rattle.book.specs.Accepted.{Accepted}
use Rattle.book.proofs.Reasons.{number_accepted}
use Rattle.game.specs.declared.Game.{Game}
use Rattle.fitting.specs.Fits.{Fits}
use Rattle.fitting.specs.Fitting.{fits_book}
use Rattle.fitting.proofs.Decides.{fits_decides}
use Rattle.playing.proofs.Answering.{book_refuses, unfit_refuses, short_refuses}
use Rattle.playing.proofs.check.Goals as goal

-- past the first check the book is accepted
accepted_book : (book : List ℕ) → accepted ≡ book_verdict book → Accepted book
accepted_book book e = number_accepted book (ap (λ (v : Verdict). v.number) (sym e))

-- past the second the game fits it
fitting_game : (book : List ℕ) (g : Game) {b : Bool} → Accepted book → b ≡ fits_book book g → b ≡ true → Fits book g
fitting_game book g a e h = (fits_decides book a.laid.counts g).0 (sym e ∙ h)

pub returns-in_err-read_book-clause-refusal : goal.returns-in_err-read_book-clause-refusal
returns-in_err-read_book-clause-refusal c =
    let fault = err_from_is_err_and c.from_residual.result c.from_residual.ensures.1 in
    rw (fault.1, fault.2) (book_refuses _ _ _ _ c.in_err-read_book.ensures (refuses _))

pub returns-then-not-fits-clause-refusal : goal.returns-then-not-fits-clause-refusal
returns-then-not-fits-clause-refusal c =
    unfit_refuses _ _ _ _ refl (accepted_book _ c.in_ok-read_book.ensures) (sym c.fits.ensures ∙ c.if-not-fits.true)

pub mark_steps-requires : goal.mark_steps-requires
mark_steps-requires c = accepted_book _ c.in_ok-read_book.ensures

pub returns-then-marks-mark_steps-clause-refusal : goal.returns-then-marks-mark_steps-clause-refusal
returns-then-marks-mark_steps-clause-refusal c =
    let a = accepted_book _ c.in_ok-read_book.ensures in
    let f = fitting_game _ _ a c.fits.ensures c.if-not-fits.false in
    short_refuses _ _ _ _ refl a f (omega (arith, c.mark_steps.ensures.0, c.if-marks-mark_steps.true))

pub returns-clause-passed : goal.returns-clause-passed
returns-clause-passed c =
    let a = accepted_book _ c.in_ok-read_book.ensures in
    let f = fitting_game _ _ a c.fits.ensures c.if-not-fits.false in
    (a, f, omega (arith, c.mark_steps.ensures.0, c.if-marks-mark_steps.false))
