-- `reading::show` meets its contract: a refused book and a number not below R show nothing; else the routine's steps are shown where the
-- directory says, and by the directory of an accepted book they begin in the book.
use Prim.Native.Nat.{ℕ, ◌<◌, ◌≤◌}
use mathlib.Core.Path.{◌≡◌, refl, sym, ap, ◌∙◌}
use mathlib.Core.Bool.{false, true, true≢false, and-false}
use mathlib.Core.List.{List}
use native.Mathlib.Omega.{arith}
use borrow.Author.Tests.{ne_eqb, le-ltb}
use Rattle.std.specs.Prelude.{Result, Ok, Err, is_err}
use Rattle.verdicts.specs.declared.Refusal.{Refusal}
use Rattle.verdicts.specs.Verdicts.{verdict_of}
use Rattle.layout.specs.Layout.{routines_of}
use Rattle.book.specs.Book.{book_verdict, is_shown}
use Rattle.verdicts.proofs.Answers.{refuses}
use Rattle.directory.proofs.Directory.{routine_start, begins_there}
use Rattle.book.proofs.Routines.{none_shown, shown_routine, shown_from_lem}
use Rattle.book.proofs.Reasons.{number_accepted}
use Rattle.reading.proofs.show.Goals.{then-is_err-via-then-is_err, then-is_err-via-else-is_err+then-routines-routine}
use Rattle.reading.proofs.show.Goals as goal

-- what reading the book answers
refused_none :
    (s : List ℕ) (r : ℕ) (a : Result (Unit {0}) Refusal) → verdict_of a ≡ book_verdict s → is_err a ≡ true → is_shown s r ≡ false
refused_none s r (Ok u) h e = absurd (true≢false (sym e))
refused_none s r (Err f) h e = rw (ne_eqb _ _ (λ z. refuses f (ap (λ v. v.number) h ∙ z)))

accepted_read :
    (s : List ℕ) (a : Result (Unit {0}) Refusal) → verdict_of a ≡ book_verdict s → is_err a ≡ false → (book_verdict s).number ≡ 0
accepted_read s (Ok u) h e = ap (λ v. v.number) (sym h)
accepted_read s (Err f) h e = absurd (true≢false e)

behind_none : (s : List ℕ) (r : ℕ) → routines_of s ≤ r → is_shown s r ≡ false
behind_none s r h = rw (le-ltb r (routines_of s) h, and-false)

pub returns-then-is_err : goal.returns-then-is_err
returns-then-is_err c =
    let none : is_shown c.args.book.now c.args.routine ≡ false =
    elim c.then-is_err.branch [
      | then-is_err-via-then-is_err w ↦ refused_none _ _ _ c.read_book.ensures (sym c.is_err.ensures.value ∙ w.if-is_err.true)
      | then-is_err-via-else-is_err+then-routines-routine w ↦
          behind_none _ _ (omega (arith, w.if-routines-routine.true, w.routines.ensures.0))
    ] in
    let empty = none_shown _ _ none in
    record { bytes = sym empty.0; place = (refl, omega (arith, empty.1)) }

pub returns : goal.returns
returns c =
    let a = number_accepted c.args.book.now (accepted_read _ _ c.read_book.ensures (sym c.is_err.ensures.value ∙ c.if-is_err.false)) in
    let h : c.args.routine < routines_of c.args.book.now =
    omega (arith, c.if-routines-routine.false, c.routines.ensures.0) in
    let begins = routine_start _ a.directed.entries a.directed.total a.laid.offsets.size _ h in
    let place = c.routine_steps.ensures.place in
    record {
      bytes = c.routine_steps.ensures.bytes ∙ sym (shown_routine _ a _ h);
      place = (place.0, rw (shown_from_lem _ a _ h, ← (begins_there _ _ begins)) place.1);
    }
