-- `reading::checks::Laid::check_blocks` meets its contract. The invariant: what is left to find, a 6 first and else the 7 that is kept or
-- the next one, is what the whole search finds.
use Prim.Native.Nat.{ℕ, ◌-◌}
use mathlib.Core.Path.{◌≡◌}
use mathlib.Core.List.{List}
use Rattle.verdicts.specs.declared.Verdict.{Verdict}
use Rattle.verdicts.specs.Verdicts.{◌or_else◌, first_refusal}
use Rattle.layout.specs.Layout.{routines_of}
use Rattle.book.specs.Book.{nesting_at, pausing_at}
use Rattle.reading.specs.Found.{unpaused_verdict}
use Rattle.reading.proofs.checks.Laid.check_blocks.Given as goal

-- what is left to find from routine r on, with a 7 that is kept
abbrev pub left_to_find : List ℕ → ℕ → ℕ → Verdict → Verdict
left_to_find s all r kept = first_refusal (nesting_at s) (all - r) r or_else (kept or_else first_refusal (pausing_at s) (all - r) r)

abbrev pub invariant-loop-routine : goal.invariant-loop-routine
invariant-loop-routine l =
    let all = routines_of l.self.book.now in
    left_to_find l.self.book.now all l.routine (unpaused_verdict l.unpaused)
    ≡ (first_refusal (nesting_at l.self.book.now) all 0 or_else first_refusal (pausing_at l.self.book.now) all 0)
