-- `reading::checks::Laid::check_steps` meets its contract. The invariant: the search for the first refused step from `at` on is the whole
-- search; a step that decodes drops out of it, and the first that does not is what it finds. The layout says that the steps begin in the
-- book.
use Prim.Native.Nat.{ℕ, ◌-◌}
use mathlib.Core.Path.{◌≡◌}
use mathlib.Core.List.{List}
use Rattle.verdicts.specs.declared.Verdict.{Verdict}
use Rattle.kinds.specs.declared.Counts.{Counts}
use Rattle.verdicts.specs.Verdicts.{first_refusal}
use Rattle.layout.specs.Layout.{counts_of}
use Rattle.kinds.specs.Steps.{step_at}
use Rattle.book.specs.Book.{step_verdict}
use Rattle.reading.proofs.checks.Laid.check_steps.Given as goal

abbrev pub told_at : Counts → List ℕ → ℕ → Verdict
told_at counts part i = step_verdict (step_at counts part i) i

-- the search from step i on, of all steps
abbrev pub search_from : Counts → List ℕ → ℕ → ℕ → Verdict
search_from counts part all i = first_refusal (told_at counts part) (all - i) i

abbrev pub invariant-loop-at : goal.invariant-loop-at
invariant-loop-at l =
    search_from (counts_of l.self.book.now) l.part l.all l.at ≡ first_refusal (told_at (counts_of l.self.book.now) l.part) l.all 0
