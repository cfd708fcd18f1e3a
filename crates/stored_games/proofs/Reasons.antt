-- What storing and reading are told is told for the reasons that document 02 gives, and nothing else is.
-- A reason settles each check up to its own, so it is enough to find one.
use Prim.Native.Nat.{ℕ}
use mathlib.Core.Path.{◌≡◌, ◌∙◌}
use mathlib.Core.List.{List}
use native.Mathlib.Omega.{arith}
use native.Mathlib.Decide.{dec_lt}
use borrow.Author.Tests.{le-leb, lt-leb}
use lib.ListN.{length}
use Rattle.numbers.proofs.Tests.{clash, not_true_false, by_flag}
use Rattle.verdicts.specs.declared.Verdict.{Verdict}
use Rattle.verdicts.proofs.First.{or_else_told}
use Rattle.book.specs.Accepted.{Accepted}
use Rattle.book.specs.Reasons.{BookReason}
use Rattle.book.proofs.Reasons.{book_reason_only}
use Rattle.game.specs.declared.Game.{Game}
use Rattle.fitting.proofs.Decides.{fits_decides}
use Rattle.fitting.specs.Fitting.{fits_book}
use Rattle.fitting.proofs.Checks.{unfit_told, past_fit, by_fit}
use Rattle.stored_games.specs.declared.Form.{Form}
use Rattle.stored_games.specs.Stored.{stored}
use Rattle.stored_games.specs.Reading.{is_formed, game_in}
use Rattle.stored_games.specs.Calls.{stored_verdict, load_verdict, store_verdict}
use Rattle.stored_games.specs.Formed.{Formed}
use Rattle.stored_games.specs.Reasons.{StoreReason, LoadReason}
use Rattle.stored_games.proofs.Decides.{formed_decides}

pub store_reason_only :
    {f : Form} {book : List ℕ} {g : Game} {out : List ℕ} {v : Verdict} → StoreReason f book g out v → store_verdict f book g out ≡ v
unfolding store_verdict
store_reason_only {book = book} (StoreReason.book t) = or_else_told _ _ (book_reason_only book t)
store_reason_only {book = book} {g = g} (StoreReason.unfit a m) = unfit_told book g _ a m
store_reason_only {book = book} {g = g} (StoreReason.short a f h) = past_fit book g _ a f ∙ rw (lt-leb _ _ h)
store_reason_only {book = book} {g = g} (StoreReason.nothing a f h) = past_fit book g _ a f ∙ rw (le-leb _ _ h)

module _ (f : Form) (book : List ℕ) (g : Game) (out : List ℕ) where
  store_told : {v : Verdict} → StoreReason f book g out v → StoreReason f book g out (store_verdict f book g out)
  store_told t = rw (store_reason_only t) t

  pub store_reason : StoreReason f book g out (store_verdict f book g out)
  store_reason =
      by_fit book g (λ k p t. store_told (StoreReason.book t)) (λ a m. store_told (StoreReason.unfit a m)) (λ a fits.
      elim (dec_lt (length out) (length (stored f g))) [
        | yes h ↦ store_told (StoreReason.short a fits h)
        | no h ↦ store_told (StoreReason.nothing a fits (omega arith))
      ]
      )

pub load_reason_only : {f : Form} {book s : List ℕ} {v : Verdict} → LoadReason f book s v → load_verdict f book s ≡ v
unfolding load_verdict stored_verdict
load_reason_only {book = book} (LoadReason.book t) = or_else_told _ _ (book_reason_only book t)
load_reason_only {f} {book} {s} (LoadReason.unformed a m) =
    let wrong = not_true_false (is_formed f s) (λ e. m ((formed_decides f s).0 e)) in
    rw (book_reason_only book (BookReason.nothing a), wrong)
load_reason_only {f} {book} {s} (LoadReason.unfit a formed m) =
    let unfit = not_true_false (fits_book book (game_in f s)) (λ e. m ((fits_decides book a.laid.counts (game_in f s)).0 e)) in
    rw (book_reason_only book (BookReason.nothing a), (formed_decides f s).1 formed, unfit)
load_reason_only {f} {book} {s} (LoadReason.nothing a formed fits) =
    let fit = (fits_decides book a.laid.counts (game_in f s)).1 fits in
    rw (book_reason_only book (BookReason.nothing a), (formed_decides f s).1 formed, fit)

module _ (f : Form) (book s : List ℕ) where
  load_told : {v : Verdict} → LoadReason f book s v → LoadReason f book s (load_verdict f book s)
  load_told t = rw (load_reason_only t) t

  -- the form comes first, whether the game fits or not
  by_form : Accepted book → (Formed f s → LoadReason f book s (load_verdict f book s)) → LoadReason f book s (load_verdict f book s)
  by_form a formed =
      let decides = formed_decides f s in
      by_flag (is_formed f s) (λ e. formed (decides.0 e)) (λ e. load_told (LoadReason.unformed a (λ h. clash (decides.1 h) e)))

  pub load_reason : LoadReason f book s (load_verdict f book s)
  load_reason =
      by_fit book (game_in f s) (λ k p t. load_told (LoadReason.book t))
      (λ a m. by_form a (λ formed. load_told (LoadReason.unfit a formed m)))
      (λ a fits. by_form a (λ formed. load_told (LoadReason.nothing a formed fits)))
