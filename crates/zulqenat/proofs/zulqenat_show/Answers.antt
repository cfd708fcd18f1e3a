-- `zulqenat_show` meets its contract: a refused book and a number not below R show nothing; else the routine's steps are shown where the
-- directory says.
use Prim.Native.Nat.{ℕ, ◌<◌, ◌≤◌}
use mathlib.Core.Path.{◌≡◌, sym, ap, ◌∙◌}
use mathlib.Core.Bool.{false, true, true≢false, and-false}
use mathlib.Core.List.{List}
use native.Mathlib.Omega.{arith}
use borrow.Author.Tests.{ne_eqb, le-ltb}
use lib.ListN.{length}
use Rattle.std.specs.Prelude.{Result, Ok, Err, is_err}
use Rattle.verdicts.specs.declared.Refusal.{Refusal}
use Rattle.verdicts.specs.Verdicts.{verdict_of}
use Rattle.verdicts.proofs.Answers.{refuses}
use Rattle.layout.specs.Layout.{routines_of}
use Rattle.book.specs.Book.{book_verdict, is_shown}
use Rattle.book.specs.Accepted.{Accepted}
use Rattle.book.proofs.Reasons.{number_accepted}
use Rattle.book.proofs.Routines.{none_shown, shown_routine, shown_from_lem}
use Rattle.zulqenat.proofs.zulqenat_show.Goals.{then-is_err-via-then-is_err, then-is_err-via-else-is_err+then-routines-at}
use Rattle.zulqenat.proofs.zulqenat_show.Goals as goal

-- what reading the book answers
refused_none :
    (s : List ℕ) (r : ℕ) (a : Result (Unit {0}) Refusal) → verdict_of a ≡ book_verdict s → is_err a ≡ true → is_shown s r ≡ false
refused_none s r (Ok u) h e = absurd (true≢false (sym e))
refused_none s r (Err f) h e = rw (ne_eqb _ _ (λ z. refuses f (ap (λ v. v.number) h ∙ z)))

accepted_read : (s : List ℕ) (a : Result (Unit {0}) Refusal) → verdict_of a ≡ book_verdict s → is_err a ≡ false → Accepted s
accepted_read s (Ok u) h e = number_accepted s (ap (λ v. v.number) (sym h))
accepted_read s (Err f) h e = absurd (true≢false e)

behind_none : (s : List ℕ) (r : ℕ) → routines_of s ≤ r → is_shown s r ≡ false
behind_none s r h = rw (le-ltb r (routines_of s) h, and-false)

pub returns-then-is_err : goal.returns-then-is_err
returns-then-is_err c =
    let none : is_shown c.args.book.now c.args.routine ≡ false =
    elim c.then-is_err.branch [
      | then-is_err-via-then-is_err w ↦ refused_none _ _ _ c.read_book.ensures (sym c.is_err.ensures.value ∙ w.if-is_err.true)
      | then-is_err-via-else-is_err+then-routines-at w ↦
          behind_none _ _ (omega (arith, w.if-routines-at.true, w.routines.ensures.0))
    ]
    in
    let empty = none_shown _ _ none in
    (sym empty.1, sym (ap length empty.0))

pub returns : goal.returns
returns c =
    let a = c.args in
    let book = accepted_read _ _ c.read_book.ensures (sym c.is_err.ensures.value ∙ c.if-is_err.false) in
    let h : a.routine < routines_of a.book.now = omega (arith, c.if-routines-at.false, c.routines.ensures.0) in (
      rw (shown_from_lem _ book _ h, c.steps_from.ensures.0, c.first_step.ensures.0),
      rw (shown_routine _ book _ h, ← c.routine_steps-steps.ensures.bytes),
    )
