-- Where the readers of blocks tell no wrong nesting, they tell what check 5 tells, so the steps need not be gone over before them.
-- They take the steps apart in the book's order, as routines follow each other without gaps: each step before a place that is reached is
-- readable, and so is each step of a routine that nests. So the first step that they turn down is the book's first.
use Prim.Native.Nat.{ℕ, zero, suc, ◌+◌, ◌-◌, ◌≤◌, ◌<◌}
use mathlib.Core.Path.{◌≡◌, refl, ◌∙◌, ap, sym}
use mathlib.Core.List.{List}
use native.Mathlib.Decide.{ℕ_discrete, dec_lt}
use native.Mathlib.Omega.{arith}
use Rattle.std.specs.Prelude.{Option, Some, None, Ok, Err}
use Rattle.numbers.specs.Counting.{sum_below}
use Rattle.blocks.specs.declared.Fault.TheVariants.{Unreadable, Misnested}
use Rattle.verdicts.specs.Verdicts.{accepted, refused, ◌or_else◌}
use Rattle.layout.specs.Layout.{routines_of, steps_of, counts_of}
use Rattle.directory.specs.Directory.{first_step, step_count, steps_before, directory_verdict, routine_part}
use Rattle.kinds.specs.declared.Kind.{Kind}
use Rattle.kinds.specs.Steps.{step_at}
use Rattle.blocks.specs.Blocks.{Walk, unreadable, seen}
use Rattle.blocks.specs.Parse.{Open, Reached}
use Rattle.book.specs.Book.{steps_part, step_verdict, view_of, routine_walk, nesting_of, steps_verdict, nesting_verdict, pausing_verdict}
use Rattle.book.specs.Accepted.{DirectoryRight, AllNest}
use Rattle.verdicts.proofs.First.{or_else_refused, or_else_again, Decides, all_good, all_clear, first_claim, first_told}
use Rattle.directory.proofs.Directory.{routine_within}
use Rattle.blocks.proofs.Views.{view_beyond, view_seen, view_inside}
use Rattle.blocks.proofs.Parses.{block_reached}
use Rattle.blocks.proofs.Sound.{unreadable_reached}
use Rattle.blocks.proofs.Misplaced.{reached_readable}
use Rattle.book.proofs.Parts.{step_routine}
use Rattle.book.proofs.Decided.{directed, kind_seen, step_verdict_of, nesting_decided}

-- check 5 tells a step exactly where a reader finds it unreadable
readable_clear : (x : Option Kind) (i : ℕ) → (seen x ≡ unreadable → ⊥) → (step_verdict x i).number ≡ 0
readable_clear (Some k) i h = refl
readable_clear None i h = absurd (h refl)

unreadable_told : (x : Option Kind) (i : ℕ) → seen x ≡ unreadable → step_verdict x i ≡ refused 5 i
unreadable_told (Some k) i h = absurd (kind_seen {k = k} refl h)
unreadable_told None i h = refl

module _ (s : List ℕ) where
  -- check 5 tells nothing of step i, and of the first n steps
  abbrev Clear : ℕ → Type 0
  Clear i = (step_verdict_of s i).number ≡ 0

  abbrev ClearBelow : ℕ → Type 0
  ClearBelow n = (i : ℕ) → i < n → Clear i

  clear_decided : Decides (step_verdict_of s) (steps_of s) Clear
  clear_decided = record { clear = λ i l e. e; good = λ i l e. e }

  -- the step at a place of routine r
  module _ (r p : ℕ) (l : p < step_count s r) where
    abbrev own : Option Kind
    own = step_at (counts_of s) (steps_part s) (first_step s r + p)

    place_seen : view_of s r p ≡ seen own
    place_seen = view_seen (counts_of s) (routine_part s r) (step_count s r) p l ∙ ap seen (step_routine s r (counts_of s) p)

    place_clear : (view_of s r p ≡ unreadable → ⊥) → Clear (first_step s r + p)
    place_clear h = readable_clear own _ (λ u. h (place_seen ∙ u))

    place_told : view_of s r p ≡ unreadable → step_verdict_of s (first_step s r + p) ≡ refused 5 (first_step s r + p)
    place_told u = unreadable_told own _ (sym place_seen ∙ u)

  module _ (dir : DirectoryRight s) where
    -- the steps up to a place that is reached, and those of the routines that nest
    reached_clear :
        {os : List Open} (r p : ℕ) → r < routines_of s → ClearBelow (steps_before s r) → Reached (view_of s r) os p → p ≤ step_count s r →
        ClearBelow (steps_before s r + p)
    reached_clear r p h before reached within i l =
        elim (dec_lt i (steps_before s r)) [
          | yes m ↦ before i m
          | no m ↦
              let q = i - first_step s r in
              let first = dir.entries r h in
              let here : first_step s r + q ≡ i = omega arith in
              rw here at (place_clear r q (omega arith) (reached_readable (view_of s r) p q reached (omega arith)))
        ]

    nesting_clear : (r : ℕ) → r ≤ routines_of s → AllNest s r → ClearBelow (steps_before s r)
    unfolding steps_before sum_below
    nesting_clear zero h nests = λ i l. absurd (omega arith)
    nesting_clear (suc r) h nests =
        let before = nesting_clear r (omega arith) (λ k l. nests k (omega arith)) in
        let end = block_reached (view_of s r) (step_count s r) (nests r (omega arith)) Reached.start (omega arith) in
        reached_clear r (step_count s r) h before end (omega arith)

    -- the first routine that doesn't nest
    fault_told :
        (r : ℕ) → r < routines_of s → AllNest s r → (w : Walk) → routine_walk s r ≡ w →
        ((nesting_of (first_step s r) w).number ≡ 0 → ⊥) → ((nesting_of (first_step s r) w).number ≡ 6 → ⊥) →
        steps_verdict s ≡ nesting_of (first_step s r) w
    unfolding routine_walk steps_verdict
    fault_told r h nests (Ok w) e some other = absurd (some refl)
    fault_told r h nests (Err (Misnested p)) e some other = absurd (other refl)
    fault_told r h nests (Err (Unreadable p)) e some other =
        let found = unreadable_reached (view_of s r) (step_count s r) (view_beyond _ _ _) (view_inside _ _ _) p e in
        let within = routine_within s dir.entries dir.total r h in
        let before = reached_clear r p h (nesting_clear r (omega arith) nests) found.0.1 (omega arith) in
        first_told clear_decided (first_step s r + p) (omega arith) (λ k l. before k (omega (arith, dir.entries r h)))
        (place_told r p found.1 found.0.2)

    -- so checks 5 and 6 tell the same where no 6 is told
    steps_nesting : ((nesting_verdict s).number ≡ 6 → ⊥) → steps_verdict s ≡ nesting_verdict s
    unfolding steps_verdict nesting_verdict
    steps_nesting other =
        elim (ℕ_discrete (nesting_verdict s).number 0) [
          | yes e ↦
              let nests = all_good (nesting_decided s) e in
              let clear = nesting_clear (routines_of s) (omega arith) nests in
              all_clear clear_decided (λ i l. clear i (omega (arith, dir.total))) ∙ sym (all_clear (nesting_decided s) nests)
          | no some ↦
              first_claim (nesting_decided s) (λ v. (v.number ≡ 6 → ⊥) → steps_verdict s ≡ v) some
              (λ r h nests m. fault_told r h nests (routine_walk s r) refl m) other
        ]

-- checks 5 to 7, where no wrong nesting is told
pub one_reading :
    (s : List ℕ) → directory_verdict s ≡ accepted → ((nesting_verdict s or_else pausing_verdict s).number ≡ 6 → ⊥) →
    (steps_verdict s or_else nesting_verdict s or_else pausing_verdict s) ≡ (nesting_verdict s or_else pausing_verdict s)
one_reading s d other =
    let v = nesting_verdict s in
    let w = pausing_verdict s in
    let same = steps_nesting s (directed s (ap (λ u. u.number) d)) (λ six.
    other (rw (or_else_refused v w (λ z. omega (arith, six, z))) six)) in
    rw same (or_else_again v w)
