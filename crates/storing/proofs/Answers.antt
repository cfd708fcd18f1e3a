-- What storing a game answers where a check turns it down: that check's refusal, for its reason. A game that fits an accepted book is
-- within the limits of a book's counts.
use Prim.Native.Nat.{ℕ, suc, ◌<◌}
use mathlib.Core.Path.{◌≡◌, sym, ap, ◌∙◌}
use mathlib.Core.Bool.{true, false}
use mathlib.Core.List.{List}
use native.Mathlib.Omega.{arith}
use borrow.Author.Tests.{ne_eqb}
use lib.ListN.{length}
use Rattle.numbers.proofs.Tests.{clash}
use Rattle.verdicts.specs.declared.Verdict.{Verdict}
use Rattle.verdicts.specs.Verdicts.{refused}
use Rattle.verdicts.proofs.First.{or_else_refused}
use Rattle.book.specs.Book.{book_verdict}
use Rattle.book.specs.Accepted.{Accepted}
use Rattle.game.specs.declared.Game.{Game}
use Rattle.fitting.specs.Fitting.{fits_book}
use Rattle.fitting.specs.Fits.{Fits}
use Rattle.fitting.proofs.Decides.{fits_decides}
use Rattle.stored_games.specs.declared.Form.{Form}
use Rattle.stored_games.specs.Stored.{stored}
use Rattle.stored_games.specs.Calls.{short_buffer, store_verdict, store_answer, storing}
use Rattle.stored_games.specs.Reasons.{StoreReason}
use Rattle.stored_games.proofs.Reasons.{store_reason_only}
use Rattle.storing.specs.Puts.{WithinLimits}

module _ (f : Form) (book : List ℕ) (g : Game) (out : List ℕ) where
  module _ (v : Verdict) where
    -- this verdict turns it down
    abbrev Refuses : Type 0
    Refuses = store_answer v 0 out ≡ storing f book g out

    refuses : v ≡ store_verdict f book g out → (v.number ≡ 0 → ⊥) → Refuses
    unfolding storing
    refuses e n = rw (← e, ne_eqb v.number 0 n)

    -- 1 to 7
    pub book_refuses : v ≡ book_verdict book → (v.number ≡ 0 → ⊥) → Refuses
    unfolding store_verdict
    book_refuses e n = refuses (e ∙ sym (or_else_refused (book_verdict book) _ (rw (← e) n))) n

    -- a refusal that has its reason
    by_reason : {k : ℕ} → v ≡ refused (suc k) 0 → StoreReason f book g out (refused (suc k) 0) → Refuses
    by_reason e t = refuses (e ∙ sym (store_reason_only t)) (λ z. omega (arith, ap (λ (w : Verdict). w.number) e, z))

    module _ (a : Accepted book) where
      -- 9
      pub unfit_refuses : v ≡ refused 9 0 → fits_book book g ≡ false → Refuses
      unfit_refuses e h = by_reason e (StoreReason.unfit a (λ fits. clash ((fits_decides book a.laid.counts g).1 fits) h))

      -- 14, for a game that is known to fit, and for one that was tested
      pub short_refuses_fitting : v ≡ refused short_buffer 0 → Fits book g → length out < length (stored f g) → Refuses
      short_refuses_fitting e fits l = by_reason e (StoreReason.short a fits l)

      pub short_refuses : v ≡ refused short_buffer 0 → fits_book book g ≡ true → length out < length (stored f g) → Refuses
      short_refuses e h l = short_refuses_fitting e ((fits_decides book a.laid.counts g).0 h) l

pub fitting_within : {book : List ℕ} {g : Game} → Accepted book → Fits book g → WithinLimits g.counts
fitting_within a fits =
    let range = a.laid.counts in
    rw fits.numbers (record { routines = range.few_routines; counters = range.few_counters })

-- the same of a game that was tested
module _ {book : List ℕ} (a : Accepted book) (g : Game) (h : fits_book book g ≡ true) where
  pub passed_fits : Fits book g
  passed_fits = (fits_decides book a.laid.counts g).0 h

  pub passed_within : WithinLimits g.counts
  passed_within = fitting_within a passed_fits
