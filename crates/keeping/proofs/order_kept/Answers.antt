-- `keeping::order_kept` meets its contract: past the checks of book and bytes the order is given to the game that is read, and the game
-- that it gives fits, so it is stored or refused with 14.
use Prim.Native.Nat.{ℕ}
use mathlib.Core.List.{List}
use mathlib.Core.Path.{◌≡◌, sym, ap, ◌∙◌}
use Rattle.verdicts.specs.declared.Verdict.{Verdict}
use Rattle.verdicts.specs.Verdicts.{accepted}
use Rattle.verdicts.proofs.Answers.{refuses}
use Rattle.game.specs.declared.Outcome.{Outcome}
use Rattle.stored_games.specs.Forms.{form1}
use Rattle.stored_games.proofs.Reasons.{load_reason}
use Rattle.stored_games.proofs.Keeping.{Loadable, load_clauses}
use Rattle.kept_games.specs.Kept.{kept_in, kept_verdict}
use Rattle.keeping.proofs.Orders.{order_accepted, order_unread, order_refused, order_stored}
use Rattle.keeping.proofs.order_kept.Goals as goal

pub returns-in-Err : goal.returns-in-Err
returns-in-Err c =
    let told = c.in-Err.ensures.told in
    c.from.ensures _ ∙ rw told (sym (order_unread _ _ _ _ _ (rw told at (refuses c.in-Err.refusal))))

-- what is kept is loadable where it is accepted
readable : (book buffer : List ℕ) (n : ℕ) → accepted ≡ kept_verdict book buffer n → Loadable form1 book (kept_in buffer n)
readable book buffer n e = load_clauses (load_reason form1 _ _) (ap (λ (v : Verdict). v.number) (sym e))

pub returns-then-verdict-ne0 : goal.returns-then-verdict-ne0
returns-then-verdict-ne0 c =
    let read = readable _ _ _ c.in-Ok.ensures.told in
    let given = rw c.in-Ok.ensures.game at c.order-next.ensures.0 in
    rw given (sym (order_refused _ _ _ _ _ read (rw given at c.if-verdict-ne0.true)))

pub store_fitting-requires : goal.store_fitting-requires
store_fitting-requires c =
    let read = readable _ _ _ c.in-Ok.ensures.told in
    let given = rw c.in-Ok.ensures.game at c.order-next.ensures.0 in
    let fine = order_accepted _ _ _ _ (rw given at c.if-verdict-ne0.false) in
    (read.0, c.order-next.ensures.1 (ap (λ (p : Outcome). p.verdict) given ∙ fine))

pub returns : goal.returns
returns c =
    let read = readable _ _ _ c.in-Ok.ensures.told in
    let given = rw c.in-Ok.ensures.game at c.order-next.ensures.0 in
    c.from-2.ensures _ ∙ (rw (c.form_1.ensures, given) at c.store_fitting.ensures)
    ∙ sym (order_stored _ _ _ _ _ read (rw given at c.if-verdict-ne0.false))
