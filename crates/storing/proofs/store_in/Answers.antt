-- `storing::store_in` meets its contract: each check of the code is the next of the definition's, so a return is one of the refusals of
-- Answers.antt, or what is answered of a game that fits.
use mathlib.Core.Path.{refl, sym, ◌∙◌}
use Rattle.std.proofs.lemmas.Result.{err_from_is_err_and}
use Rattle.verdicts.proofs.Answers.{refuses}
use Rattle.book.proofs.Reasons.{accepted_exactly}
use Rattle.fitting.proofs.Decides.{fits_decides}
use Rattle.storing.proofs.Answers.{book_refuses, unfit_refuses}
use Rattle.storing.proofs.store_in.Goals as goal

pub returns-in_err-read_book : goal.returns-in_err-read_book
returns-in_err-read_book c =
    let fault = err_from_is_err_and c.from_residual.result c.from_residual.ensures.1 in
    rw (fault.1, fault.2) (book_refuses _ _ _ _ _ c.in_err-read_book.ensures (refuses _))

pub returns-then-not-fits : goal.returns-then-not-fits
returns-then-not-fits c =
    let book = (accepted_exactly _).0 (sym c.in_ok-read_book.ensures) in
    unfit_refuses _ _ _ _ _ book refl (sym c.fits.ensures ∙ c.if-not-fits.true)

pub store_fitting-requires : goal.store_fitting-requires
store_fitting-requires c =
    let book = (accepted_exactly _).0 (sym c.in_ok-read_book.ensures) in
    (book, (fits_decides _ book.laid.counts _).0 (sym c.fits.ensures ∙ c.if-not-fits.false))
