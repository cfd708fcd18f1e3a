-- `directory::check_directory` meets its contract: the first entry that does not follow those before it is told, or else the total.
use Prim.Native.Nat.{ℕ, ◌+◌, ◌<◌, ◌≤◌}
use mathlib.Core.Path.{◌≡◌, refl, sym, ◌∙◌}
use mathlib.Core.List.{List}
use native.Mathlib.Numerals.{add-one}
use native.Mathlib.Omega.{arith}
use borrow.Author.Count.{below_more}
use borrow.Author.Rules.{rules}
use Rattle.numbers.specs.Counting.{sum_below}
use Rattle.verdicts.specs.Verdicts.{accepted, refused}
use Rattle.layout.specs.Layout.{routines_of, steps_of}
use Rattle.directory.specs.Directory.{first_step, step_count, steps_before, EntriesFollow, directory_verdict}
use Rattle.directory.proofs.Directory.{directory_clear, total_told, entry_told}
use Rattle.directory.proofs.check_directory.Goals as goal

after : (s : List ℕ) (r : ℕ) → steps_before s (r + 1) ≡ steps_before s r + step_count s r
unfolding steps_before sum_below
after s r = rw (add-one r)

module _ (s : List ℕ) {all r sum : ℕ} (known : all ≡ routines_of s) (entries : EntriesFollow s r) (before : sum ≡ steps_before s r) where
  stops : r < all → {first : ℕ} → first ≡ first_step s r → (first ≡ sum → ⊥) → refused 4 r ≡ directory_verdict s
  stops h f n = sym (entry_told s r (omega arith) entries (λ e. n (f ∙ e ∙ sym before)))

  module _ (end : all ≤ r) (within : r ≤ all) {total : ℕ} (count : total ≡ steps_of s) where
    last : r ≡ routines_of s
    last = omega arith

    wrong_total : (sum ≡ total → ⊥) → refused 4 all ≡ directory_verdict s
    wrong_total n = rw known (sym (total_told s (rw last at entries) (λ e. n (before ∙ rw last (e ∙ sym count)))))

    right_total : sum ≡ total → accepted ≡ directory_verdict s
    right_total e = sym (directory_clear s (rw last at entries) (rw last at (sym before ∙ e ∙ count)))

pub loop-routine-init : goal.loop-routine-init
unfolding steps_before sum_below
loop-routine-init c = (λ k l. absurd (omega arith), refl, search rules)

pub returns-then-first_step-sum : goal.returns-then-first_step-sum
returns-then-first_step-sum c =
    let l = c.loop-routine.invariant in
    stops _ c.routines-all.ensures.0 l.0 l.1 c.loop-routine-test.true c.first_step.ensures.0 c.if-first_step-sum.true

pub loop-routine-preserved : goal.loop-routine-preserved
loop-routine-preserved c =
    let l = c.loop-routine.invariant in
    let follows = sym c.first_step.ensures.0 ∙ c.if-first_step-sum.false ∙ l.1 in
    (below_more _ _ l.0 follows, rw (after, ← c.step_count-sum.ensures.0, ← l.1), search rules)

pub returns-then-sum-steps : goal.returns-then-sum-steps
returns-then-sum-steps c =
    let l = c.loop-routine.invariant in
    wrong_total _ c.routines-all.ensures.0 l.0 l.1 c.loop-routine-test.false c.loop-routine.auto.routine-end
    c.steps.ensures.0 c.if-sum-steps.true

pub returns : goal.returns
returns c =
    let l = c.loop-routine.invariant in
    right_total _ c.routines-all.ensures.0 l.0 l.1 c.loop-routine-test.false c.loop-routine.auto.routine-end
    c.steps.ensures.0 c.if-sum-steps.false
