-- `reading::checks::Laid::check_steps` meets its contract. The invariant: the search for the first refused step from `at` on is the whole
-- search; a step that decodes drops out of it, and the first that does not is what it finds. The layout says that the steps begin in the
-- book.
use Prim.Native.Nat.{ℕ, ◌+◌, ◌<◌, ◌≤◌}
use mathlib.Core.Path.{◌≡◌, refl, sym, ap, ◌∙◌}
use mathlib.Core.List.{List}
use native.Mathlib.Omega.{arith}
use lib.IntN.{ℤ}
use Rattle.std.specs.Prelude.{Option, Some, None}
use Rattle.kinds.specs.declared.Counts.{Counts}
use Rattle.kinds.specs.declared.Kind.{Kind}
use Rattle.verdicts.specs.Verdicts.{accepted, refused, first_refusal}
use Rattle.layout.specs.Layout.{steps_of, counts_of}
use Rattle.kinds.specs.Steps.{step_at}
use Rattle.kinds.specs.Limits.{limits_of, step_within}
use Rattle.kinds.proofs.Limits.{step_within_lem}
use Rattle.book.specs.Book.{steps_part, steps_verdict}
use Rattle.book.proofs.Laid.{laid_out}
use Rattle.verdicts.proofs.First.{first_stops, first_goes, first_ends}
use Rattle.numbers.proofs.Parts.{rest_from}
use Rattle.reading.proofs.checks.Laid.check_steps.Invariants.{search_from, told_at}
use Rattle.reading.proofs.checks.Laid.check_steps.Goals as goal

module _
    (counts : Counts) (part : List ℕ) (all i : ℕ) (whole : search_from counts part all i ≡ first_refusal (told_at counts part) all 0)
  where
    goes :
        {k : Kind} → i < all → step_at counts part i ≡ Some k →
        search_from counts part all (i + 1) ≡ first_refusal (told_at counts part) all 0
    goes h e = sym (first_goes (told_at counts part) all i h (rw e)) ∙ whole

    module _ (s : List ℕ) (header : counts ≡ counts_of s) (count : all ≡ steps_of s) (steps : part ≡ steps_part s) where
      stops : i < all → step_at counts part i ≡ None → refused 5 i ≡ steps_verdict s
      unfolding steps_verdict
      stops h e =
          let first : first_refusal (told_at counts part) all 0 ≡ refused 5 i =
          sym whole ∙ first_stops (told_at counts part) all i h (rw e (λ z. omega (arith, z))) ∙ rw e in
          rw (← header, ← count, ← steps, first)

      ends : all ≤ i → accepted ≡ steps_verdict s
      unfolding steps_verdict
      ends h = rw (← header, ← count, ← steps) (sym (first_ends (told_at counts part) all i h) ∙ whole)

-- what the code reads with the book's limits is the step by the table
read_as :
    (s part : List ℕ) (i : ℕ) {limits : List (List (List ℤ))} {r : Option Kind} →
    limits ≡ limits_of (counts_of s) → r ≡ step_within limits part i → step_at (counts_of s) part i ≡ r
read_as s part i e f = sym (step_within_lem (counts_of s) part i) ∙ sym (rw e at f)

-- asked of the length behind the steps' first byte, and of that byte
pub slice_bounds-part-count : goal.slice_bounds-part-count
slice_bounds-part-count c =
    let laid = laid_out _ (ap (λ v. v.number) c.args.self.now.layout) in
    omega (arith, laid.offsets.size, c.steps_from-from.ensures.0)

pub slice_bounds-part-start : goal.slice_bounds-part-start
slice_bounds-part-start c = slice_bounds-part-count c

pub returns-in_default : goal.returns-in_default
returns-in_default c =
    let read = read_as c.args.self.now.book.now _ _ c.limits_in-limits.ensures c.step_within.ensures in
    stops _ _ _ _ c.loop-at.invariant _ refl c.steps-all.ensures.0 (rest_from _ c.steps_from-from.ensures.0) c.loop-at-test.true
    (read ∙ c.in_default.is)

pub loop-at-preserved : goal.loop-at-preserved
loop-at-preserved c =
    let read = read_as c.args.self.now.book.now _ _ c.limits_in-limits.ensures c.step_within.ensures in
    goes _ _ _ _ c.loop-at.invariant c.loop-at-test.true (read ∙ c.in-Some.is)

pub returns : goal.returns
returns c = ends _ _ _ _ c.loop-at.invariant _ refl c.steps-all.ensures.0 (rest_from _ c.steps_from-from.ensures.0) c.loop-at-test.false
