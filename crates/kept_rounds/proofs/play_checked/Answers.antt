-- `kept_rounds::play_checked` meets its contract: what is kept is refused as the definition says, or is a game that fits, whose round is
-- played.
use Prim.Native.Nat.{ℕ}
use mathlib.Core.List.{List}
use mathlib.Core.Path.{◌≡◌, sym, ap, ◌∙◌}
use Rattle.std.proofs.lemmas.Result.{err_from_is_err_and}
use Rattle.verdicts.specs.declared.Verdict.{Verdict}
use Rattle.verdicts.specs.Verdicts.{accepted}
use Rattle.verdicts.proofs.Answers.{refuses}
use Rattle.stored_games.specs.Forms.{form1}
use Rattle.stored_games.proofs.Reasons.{load_reason}
use Rattle.stored_games.proofs.Keeping.{Loadable, load_clauses}
use Rattle.kept_games.specs.Kept.{kept_in, kept_verdict}
use Rattle.kept_rounds.proofs.Rounds.{play_unread, play_read}
use Rattle.kept_rounds.proofs.play_checked.Goals as goal

pub returns-in_err-game : goal.returns-in_err-game
returns-in_err-game c =
    let fault = err_from_is_err_and c.from_residual.result c.from_residual.ensures.1 in
    let told = c.in_err-game.ensures.told in
    rw (fault.1, fault.2, told) (sym (play_unread _ _ _ _ (rw told at (refuses c.in_err-game.field-0.0))))

-- what is kept is loadable where it is accepted
readable : (book buffer : List ℕ) (n : ℕ) → accepted ≡ kept_verdict book buffer n → Loadable form1 book (kept_in buffer n)
readable book buffer n e = load_clauses (load_reason form1 _ _) (ap (λ (v : Verdict). v.number) (sym e))

pub play_fitting-requires : goal.play_fitting-requires
play_fitting-requires c =
    let read = readable _ _ _ c.in_ok-game.ensures.told in (read.0, rw c.in_ok-game.ensures.game read.2)

pub returns : goal.returns
returns c =
    let read = readable _ _ _ c.in_ok-game.ensures.told in
    (rw c.in_ok-game.ensures.game at c.play_fitting.ensures) ∙ sym (play_read _ _ _ _ read)
