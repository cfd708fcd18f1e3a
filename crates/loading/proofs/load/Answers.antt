-- `loading::load` meets its contract: the verdict is the one that reading answers, and the game is the one that is read or the lent one. A
-- game that is read fits its book.
use mathlib.Core.List.{List}
use Prim.Native.Nat.{ℕ}
use mathlib.Core.Path.{◌≡◌, refl}
use borrow.Author.Tests.{ne_eqb}
use Rattle.verdicts.specs.declared.Refusal.{Refusal}
use Rattle.verdicts.specs.Verdicts.{accepted, told}
use Rattle.verdicts.proofs.Answers.{refuses}
use Rattle.game.specs.declared.Game.{Game}
use Rattle.fitting.proofs.Outcomes.{promised}
use Rattle.stored_games.specs.declared.Form.{Form}
use Rattle.stored_games.specs.Reading.{game_in}
use Rattle.stored_games.specs.Calls.{load_verdict, loaded}
use Rattle.stored_games.proofs.Keeping.{load_fits}
use Rattle.loading.proofs.load.Goals as goal

module _ (f : Form) (book s : List ℕ) (g : Game) where
  is_read : accepted ≡ load_verdict f book s → record { verdict = accepted; game = game_in f s } ≡ loaded f book s g
  unfolding loaded
  is_read e = rw (← e) refl

  is_refused : (r : Refusal) → told r ≡ load_verdict f book s → record { verdict = told r; game = g } ≡ loaded f book s g
  unfolding loaded
  is_refused r e = rw (← e, ne_eqb (told r).number 0 (refuses r)) refl

pub returns-in-Ok : goal.returns-in-Ok
returns-in-Ok c =
    let bytes = c.in_form_1.ensures in
    let told = rw (bytes.0, bytes.1) at c.in-Ok.ensures.told in
    let next = rw (bytes.0, bytes.1) at c.in-Ok.ensures.game in
    promised (load_fits _ _ _ _) (rw (c.as_verdict.ensures, next) (is_read _ _ _ c.args.game told))

pub returns-in-Err : goal.returns-in-Err
returns-in-Err c =
    let bytes = c.in_form_1.ensures in
    let told = rw (bytes.0, bytes.1) at c.in-Err.ensures.told in
    promised (load_fits _ _ _ _) (rw c.from.ensures (is_refused _ _ _ _ _ told))
