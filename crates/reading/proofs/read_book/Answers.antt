-- `reading::read_book` meets its contract: each check that accepts drops out of the verdict, and the first that refuses is the verdict.
-- Without a 6 the blocks' answer has the first 5 too (`one_reading`).
use Prim.Native.Nat.{ℕ}
use mathlib.Core.Path.{◌≡◌, sym, ap, ap₂, ◌∙◌}
use mathlib.Core.List.{List}
use native.Mathlib.Omega.{arith}
use Rattle.std.proofs.lemmas.Result.{err_from_is_err_and}
use Rattle.verdicts.specs.declared.Refusal.{Refusal}
use Rattle.verdicts.specs.declared.Verdict.{Verdict}
use Rattle.verdicts.specs.Verdicts.{accepted, told, ◌or_else◌}
use Rattle.layout.specs.Layout.{layout_verdict}
use Rattle.directory.specs.Directory.{directory_verdict}
use Rattle.book.specs.Book.{steps_verdict, nesting_verdict, pausing_verdict, book_verdict}
use Rattle.verdicts.proofs.First.{or_else_past, or_else_assoc}
use Rattle.verdicts.proofs.Answers.{told_six, told_first}
use Rattle.book.proofs.OneReading.{one_reading}
use Rattle.reading.proofs.read_book.Goals as goal

laid_told : (s : List ℕ) (e : Refusal) → told e ≡ (layout_verdict s or_else directory_verdict s) → told e ≡ book_verdict s
unfolding book_verdict
laid_told s e h =
    told_first e (steps_verdict s or_else nesting_verdict s or_else pausing_verdict s) h
    ∙ or_else_assoc (layout_verdict s) (directory_verdict s) (steps_verdict s or_else nesting_verdict s or_else pausing_verdict s)

module _ (s : List ℕ) (l : accepted ≡ layout_verdict s) (d : accepted ≡ directory_verdict s) where
  steps_told : {v : Verdict} → v ≡ (steps_verdict s or_else nesting_verdict s or_else pausing_verdict s) → v ≡ book_verdict s
  unfolding book_verdict
  steps_told h = h ∙ sym (or_else_past _ _ (sym d)) ∙ sym (or_else_past _ _ (sym l))

  blocks_told : {v : Verdict} → v ≡ (nesting_verdict s or_else pausing_verdict s) → (v.number ≡ 6 → ⊥) → v ≡ book_verdict s
  blocks_told h n = steps_told (h ∙ sym (one_reading s (sym d) (λ z. n (ap (λ v. v.number) h ∙ z))))

pub returns-in_err-laid : goal.returns-in_err-laid
returns-in_err-laid c =
    let fault = err_from_is_err_and c.from_residual.result c.from_residual.ensures.1 in
    rw (fault.1, fault.2) (laid_told _ _ c.in_err-laid.ensures.verdict)

pub returns-in_default : goal.returns-in_default
returns-in_default c =
    let laid = c.in_ok-laid.laid in
    rw c.in_ok-laid.ensures.same at (blocks_told _ (sym laid.layout) (sym laid.directory) c.in_default.ensures (λ z. omega (arith, z)))

pub returns-in-WrongNesting : goal.returns-in-WrongNesting
returns-in-WrongNesting c =
    let laid = c.in_ok-laid.laid in
    let blocks = c.first_refused.ensures ∙ ap₂ ◌or_else◌ c.check_steps.ensures c.in-Err.ensures in
    rw c.in_ok-laid.ensures.same at (steps_told _ (sym laid.layout) (sym laid.directory) blocks)

pub returns-in_default-refusal : goal.returns-in_default-refusal
returns-in_default-refusal c =
    let laid = c.in_ok-laid.laid in
    let other = told_six c.in-Err.refusal c.in_default-refusal.not-WrongNesting in
    rw c.in_ok-laid.ensures.same at (blocks_told _ (sym laid.layout) (sym laid.directory) c.in-Err.ensures other)
