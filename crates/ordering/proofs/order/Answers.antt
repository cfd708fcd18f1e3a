-- `ordering::order` meets its contract: the game that is handed back obeys the order where it is not turned down, and is as lent otherwise.
-- An order that is not turned down names a number below the most of its kind. The game after an accepted order fits.
use Prim.Native.Nat.{ℕ}
use mathlib.Core.Path.{◌≡◌, sym, ap, ◌∙◌}
use mathlib.Core.List.{List}
use borrow.Author.Tests.{ne_eqb}
use Rattle.verdicts.specs.declared.Refusal.{Refusal}
use Rattle.verdicts.specs.declared.Verdict.{Verdict}
use Rattle.verdicts.specs.Verdicts.{accepted, told, verdict_of}
use Rattle.verdicts.proofs.Answers.{refuses}
use Rattle.game.specs.declared.Game.{Game}
use Rattle.game.specs.declared.Outcome.{Outcome}
use Rattle.fitting.proofs.Outcomes.{promised}
use Rattle.orders.specs.Orders.{order_verdict, obeyed, ordered}
use Rattle.orders.proofs.After.{order_fits}
use Rattle.orders.proofs.Counts.{nameable}
use Rattle.ordering.proofs.order.Goals as goal
use Rattle.ordering.proofs.order.Goals.{in-Ok, in_default}

-- what is answered with this verdict and game
module _ (s : List ℕ) (g next : Game) (kind n : ℕ) (v : Verdict) where
  abbrev IsAnswer : Type 0
  IsAnswer = ◌≡◌ {A = Outcome} (record { verdict = v; game = next }) (ordered s g kind n)

  obeys : (k : ℕ) → v ≡ accepted → accepted ≡ order_verdict s g kind n → kind ≡ k → next ≡ obeyed g k n → IsAnswer
  unfolding ordered
  obeys k e right same after = rw (e, ← right, after, same)

  turned_down : (e : Refusal) → v ≡ told e → told e ≡ order_verdict s g kind n → next ≡ g → IsAnswer
  unfolding ordered
  turned_down e d refusal kept = rw (d, ← refusal, kept, ne_eqb _ _ (refuses e))

pub obey-requires : goal.obey-requires
obey-requires c =
    let told = c.in-Ok.ensures.told in
    rw c.in-Ok.ensures.kind at (nameable c.args.book.now c.args.game c.args.kind c.args.number (ap (λ (v : Verdict). v.number) (sym told)))

pub returns : goal.returns
returns c =
    promised (order_fits _ _ _ _)
    (elim c.match-checked.branch [
      | in-Ok w ↦
          let answer = w.in-Ok.ensures in
          let clear = c.verdict_of.ensures ∙ ap verdict_of w.checked-is in
          obeys _ _ _ _ _ _ _ clear answer.told answer.kind (w.next-is ∙ w.obey.ensures)
      | in_default w ↦
          let refusal = c.verdict_of.ensures ∙ ap verdict_of (w.checked-is ∙ w.in_default.is) in
          turned_down _ _ _ _ _ _ w.in_default.field-0 refusal w.in_default.ensures.told w.next-is
    ])
