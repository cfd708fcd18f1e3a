-- Where the directory keeps its rule, the routines lie one behind another, each within the steps of the book and its bytes within the book.
-- By the sums of the counts, which only grow. Check 4 tells nothing exactly where that rule is kept.
use Prim.Native.Nat.{ℕ, suc, ◌+◌, ◌-◌, ◌*◌, ◌≤◌, ◌<◌}
use mathlib.Core.Path.{◌≡◌, ◌∙◌}
use mathlib.Core.List.{List}
use native.Mathlib.Omega.{arith}
use lib.Dec.{eqb}
use lib.ListN.{length}
use borrow.Author.Tests.{le-leb, eqb-true, eq-eqb, ne_eqb}
use Rattle.numbers.specs.Counting.{sum_below}
use Rattle.numbers.proofs.Below.{below_cut}
use Rattle.kinds.specs.Steps.{step_bytes}
use Rattle.verdicts.specs.declared.Verdict.{Verdict}
use Rattle.verdicts.specs.Verdicts.{accepted, refused, ◌or_else◌, unless, first_refusal}
use Rattle.verdicts.proofs.First.{passed, or_else_both, or_else_past, or_else_told, Decides, all_good, all_clear, first_told}
use Rattle.layout.specs.Layout.{routines_of, steps_of, steps_from}
use Rattle.directory.specs.Directory.{first_step, step_count, steps_before, EntriesFollow, entry_verdict, directory_verdict}
use Rattle.directory.specs.Directory.{routine_from, routine_steps_from}

-- a routine that begins in the book has its steps there
pub begins_there : (s : List ℕ) (r : ℕ) → routine_from s r ≤ length s → routine_steps_from s r ≡ routine_from s r
unfolding routine_steps_from
begins_there s r h = rw (le-leb _ _ h)

module _ (s : List ℕ) where
  pub before_grows : (a b : ℕ) → a ≤ b → steps_before s a ≤ steps_before s b
  unfolding steps_before
  before_grows a b h =
      let e : a + (b - a) ≡ b = omega arith in
      omega (arith, rw e at (below_cut (step_count s) a (b - a)))

  module _ (entries : EntriesFollow s (routines_of s)) (total : steps_before s (routines_of s) ≡ steps_of s) where
    pub routine_within : (r : ℕ) → r < routines_of s → first_step s r + step_count s r ≤ steps_of s
    unfolding steps_before sum_below
    routine_within r h = omega (arith, entries r h, before_grows (suc r) (routines_of s) h)

    module _ (size : length s ≡ steps_from s + step_bytes * steps_of s) where
      pub routine_end : (r : ℕ) → r < routines_of s → steps_from s + step_bytes * (first_step s r + step_count s r) ≤ length s
      routine_end r h = omega (arith, routine_within r h)

      pub routine_start : (r : ℕ) → r < routines_of s → routine_from s r ≤ length s
      routine_start r h = omega (arith, routine_end r h)

-- a test of the directory that tells nothing
equal : (a b r : ℕ) → (unless (eqb a b) (refused 4 r)).number ≡ 0 → a ≡ b
equal a b r e = eqb-true a b (passed (eqb a b) 4 r (λ z. omega (arith, z)) e)

-- check 4: the entries, and then the total
module _ (s : List ℕ) where
  pub entries_decided : Decides (entry_verdict s) (routines_of s) (λ r. first_step s r ≡ steps_before s r)
  entries_decided =
      record {
        clear = λ r l e. rw (eq-eqb _ _ e);
        good = λ r l e. equal (first_step s r) (steps_before s r) r e;
      }

  pub directed : (directory_verdict s).number ≡ 0 → EntriesFollow s (routines_of s) × (steps_before s (routines_of s) ≡ steps_of s)
  unfolding directory_verdict
  directed e =
      let both = or_else_both _ _ e in
      (all_good entries_decided both.0, equal (steps_before s (routines_of s)) (steps_of s) (routines_of s) both.1)

  pub entry_wrong : (r : ℕ) → (first_step s r ≡ steps_before s r → ⊥) → entry_verdict s r ≡ refused 4 r
  entry_wrong r n = rw (ne_eqb _ _ n)

  past_entries : EntriesFollow s (routines_of s) → {v : Verdict} → (first_refusal (entry_verdict s) (routines_of s) 0 or_else v) ≡ v
  past_entries entries = or_else_past _ _ (all_clear entries_decided entries)

  pub directory_clear : EntriesFollow s (routines_of s) → steps_before s (routines_of s) ≡ steps_of s → directory_verdict s ≡ accepted
  unfolding directory_verdict
  directory_clear entries total = past_entries entries ∙ rw (eq-eqb _ _ total)

  pub total_told :
      EntriesFollow s (routines_of s) → (steps_before s (routines_of s) ≡ steps_of s → ⊥) → directory_verdict s ≡ refused 4 (routines_of s)
  unfolding directory_verdict
  total_told entries n = past_entries entries ∙ rw (ne_eqb _ _ n)

  pub entry_told :
      (r : ℕ) → r < routines_of s → EntriesFollow s r → (first_step s r ≡ steps_before s r → ⊥) → directory_verdict s ≡ refused 4 r
  unfolding directory_verdict
  entry_told r l before n = or_else_told _ _ (first_told entries_decided r l before (entry_wrong r n))
