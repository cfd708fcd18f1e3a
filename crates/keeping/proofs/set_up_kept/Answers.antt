-- `keeping::set_up_kept` meets its contract: a refused book is refused in storing too, and the game that is set up for any other fits it.
use Prim.Native.Nat.{ℕ}
use mathlib.Core.List.{List}
use Rattle.game.specs.declared.Outcome.{Outcome}
use mathlib.Core.Path.{◌≡◌, sym, ap, ◌∙◌}
use Rattle.verdicts.specs.declared.Verdict.{Verdict}
use Rattle.book.specs.Book.{book_verdict}
use Rattle.book.specs.Accepted.{Accepted}
use Rattle.book.proofs.Reasons.{number_accepted, accepted_exactly}
use Rattle.game.specs.Game.{blank_game}
use Rattle.setup.specs.SetUp.{set_up}
use Rattle.storing.proofs.Answers.{book_refuses}
use Rattle.kept_games.specs.Kept.{set_up_kept}
use Rattle.keeping.proofs.set_up_kept.Goals as goal

-- the verdict of set-up is that on the book
told : (book : List ℕ) {o : Outcome} → o ≡ set_up book blank_game → o.verdict ≡ book_verdict book
unfolding set_up
told book given = ap (λ (o : Outcome). o.verdict) given

accepted_book : {book : List ℕ} {v : Verdict} → v ≡ book_verdict book → v.number ≡ 0 → Accepted book
accepted_book e n = number_accepted _ (ap (λ (v : Verdict). v.number) (sym e) ∙ n)

pub returns-then-told-ne0 : goal.returns-then-told-ne0
unfolding set_up_kept
returns-then-told-ne0 c =
    let given = rw c.blank_game.ensures at c.set_up-given.ensures.0 in
    book_refuses _ _ _ _ _ (told _ given) c.if-told-ne0.true

pub store_fitting-requires : goal.store_fitting-requires
store_fitting-requires c =
    let given = rw c.blank_game.ensures at c.set_up-given.ensures.0 in
    let a = accepted_book (told _ given) c.if-told-ne0.false in
    let fits = c.set_up-given.ensures.1 (told _ given ∙ (accepted_exactly _).1 a) in
    (a, fits)

pub returns : goal.returns
unfolding set_up_kept
returns c =
    let given = rw c.blank_game.ensures at c.set_up-given.ensures.0 in
    c.from.ensures _ ∙ (rw (c.form_1.ensures, given) at c.store_fitting.ensures)
