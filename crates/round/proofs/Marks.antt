-- The marks of some events, one behind the other. The count of an accepted book's mark steps is that of its steps of kind mark: a
-- step's op is its kind's, so the test of the op passes at the marks alone.
use Prim.Native.Nat.{ℕ}
use mathlib.Core.Path.{◌≡◌, refl, sym, ◌∙◌, ap}
use mathlib.Core.Bool.{true}
use mathlib.Core.List.{List, [], ◌∷◌, ◌++◌}
use mathlib.Core.Logic.{◌↔◌}
use borrow.Author.Tests.{eq-eqb, eqb-true}
use lib.Dec.{eqb}
use lib.IntN.{ℤ}
use Rattle.std.specs.Prelude.{Some}
use Rattle.numbers.specs.Counting.{Counted}
use Rattle.kinds.specs.Ops.{op_mark}
use Rattle.kinds.specs.declared.Kind.{Kind}
use Rattle.kinds.specs.declared.Kind.TheVariants.{Mark}
use Rattle.kinds.specs.declared.Counts.{Counts}
use Rattle.kinds.specs.Steps.{row_of, kind_of, op_at, field_a, field_b, field_n, step_at}
use Rattle.kinds.proofs.Rows.{row_kind}
use Rattle.layout.specs.Layout.{steps_of, counts_of}
use Rattle.book.specs.Book.{steps_part}
use Rattle.book.specs.Accepted.{Accepted}
use Rattle.book.proofs.Routines.{step_kind}
use Rattle.round.specs.State.{Event, gave, ended, missing, past, marked, completed}
use Rattle.round.specs.Answers.{mark_steps, marks_in}
use Rattle.round.specs.claims.Reasons.{MarkAt}
use Rattle.round.proofs.Counting.{counted}
use Rattle.round.proofs.Forms.{step_op}

-- marks of some events, one behind the other
pub marks_append : (a b : List Event) → marks_in (a ++ b) ≡ marks_in a ++ marks_in b
unfolding marks_in
marks_append [] b = refl
marks_append (gave e k ∷ a) b = marks_append a b
marks_append (ended r ∷ a) b = marks_append a b
marks_append (missing r p t ∷ a) b = marks_append a b
marks_append (past r p t ∷ a) b = marks_append a b
marks_append (marked r n ∷ a) b = ap (λ l. (r, n) ∷ l) (marks_append a b)
marks_append (completed r p ∷ a) b = marks_append a b

-- the row of op 0
mark_row : (op a b : ℕ) (n : ℤ) {k : Kind} → op ≡ op_mark → kind_of op a b n ≡ k → k ≡ Mark n
unfolding row_of
mark_row op a b n e h = sym (rw e at h)

-- a step that is read has op 0 exactly if it is a mark
mark_step :
    (counts : Counts) (steps : List ℕ) (i : ℕ) {k : Kind} → step_at counts steps i ≡ Some k →
    (eqb (op_at steps i) op_mark ≡ true) ↔ ((n : ℤ) × (k ≡ Mark n))
mark_step counts steps i e = (
  λ h. (field_n steps i, mark_row _ (field_a steps i) (field_b steps i) _ (eqb-true _ _ h) (row_kind counts steps i e)),
  λ v. eq-eqb _ _ (step_op counts steps i (e ∙ ap Some v.1)),
)

-- "the book's mark steps"
pub mark_steps_lem : (book : List ℕ) → Accepted book → Counted (MarkAt book) (steps_of book) (mark_steps (steps_part book) (steps_of book))
mark_steps_lem book a =
    counted (λ i. eqb (op_at (steps_part book) i) op_mark) (MarkAt book) (steps_of book) (λ i l.
    let (k, e) = step_kind book a i l in
    let test = mark_step (counts_of book) (steps_part book) i e in
    (λ h. let (n, m) = test.0 h in (n, e ∙ ap Some m), λ v. test.1 (v.0, cc)))
