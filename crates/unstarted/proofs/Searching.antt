-- The search goes through the steps of the routines found, one routine after another. Behind the steps of the k-th, what it starts is found
-- too; each start that is found keeps what was so before. There are no more routines found than the search goes through, so in the end this
-- holds of all of them.
use Prim.Native.Nat.{ℕ, zero, suc, ◌+◌, ◌≤◌, ◌<◌}
use mathlib.Core.Path.{◌≡◌, refl}
use mathlib.Core.List.{List}
use native.Mathlib.Omega.{arith}
use native.Mathlib.Decide.{ℕ_discrete}
use borrow.Author.Tests.{ltb-true, ltb-false, eqb-true, eq-eqb}
use lib.Dec.{ltb, eqb}
use Rattle.std.specs.Prelude.{Some}
use Rattle.numbers.proofs.Tests.{by_test}
use Rattle.numbers.proofs.Counting.{count_all}
use Rattle.kinds.specs.declared.Kind.TheVariants.{Start}
use Rattle.kinds.specs.Ops.{op_start}
use Rattle.kinds.specs.Steps.{op_at, field_a, steps_in}
use Rattle.layout.specs.Layout.{most_routines, routines_of, counts_of}
use Rattle.directory.specs.Directory.{step_count, routine_steps, routine_step}
use Rattle.book.specs.Accepted.{Accepted}
use Rattle.book.proofs.Routines.{routine_steps_lem}
use Rattle.unstarted.specs.Chains.{Starts, Chain, then}
use Rattle.unstarted.specs.Unstarted.{Search, is_found, with_found, with_step, with_steps, with_starts, found_from}
use Rattle.unstarted.proofs.Starts.{start_op, start_field, starts_there, chain_below}
use Rattle.unstarted.proofs.Finding.{IsFound, entry, IsEntry, Right, Closed, ClosedBefore, found_stays, entry_stays}
use Rattle.unstarted.proofs.Finding.{closed_stays, found_right, now_found}

-- routine 0 is found, and of all that are found the starts are too
pub record Complete (book : List ℕ) (f : Search) : Type 0 where
  pub first : IsFound f 0
  pub right : Right book f
  pub closed : ClosedBefore book f.count f

module _ (book : List ℕ) (accepted : Accepted book) where
  -- the steps of routine q, to which a chain leads
  module _ (q : ℕ) (chain : Chain book q) where
    abbrev steps : List ℕ
    steps = routine_steps book q

    below : q < routines_of book
    below = chain_below book accepted chain

    size : steps_in steps ≡ step_count book q
    size = routine_steps_lem book accepted q below

    -- what each start that is found keeps is kept by the steps
    module _ (P : Search → Type 0) (keeps : (r : ℕ) (f : Search) → Starts book q r → P f → P (with_found r f)) where
      step_keeps : (p : ℕ) → p < step_count book q → (f : Search) → P f → P (with_step steps p f)
      step_keeps p l f h =
          by_test P (eqb (op_at steps p) op_start)
          (λ e. keeps (field_a steps p) f (p, l, starts_there book accepted q p below l (eqb-true _ _ e)) h) (λ e. h)

      steps_keep : (n p : ℕ) → p + n ≤ step_count book q → (f : Search) → P f → P (with_steps n steps p f)
      unfolding with_steps
      steps_keep zero p l f h = h
      steps_keep (suc n) p l f h = steps_keep n (p + 1) (omega arith) (with_step steps p f) (step_keeps p (omega arith) f h)

      starts_keep : (f : Search) → P f → P (with_starts book q f)
      starts_keep f h = steps_keep (steps_in steps) 0 (omega (arith, size)) f h

    keeps_right : (r : ℕ) (f : Search) → Starts book q r → Right book f → Right book (with_found r f)
    keeps_right r f s right = found_right book accepted r (then chain s) f right

    -- a step that starts r
    module _ (r i : ℕ) (there : i < step_count book q) (starts : routine_step book q i ≡ Some (Start r)) where
      step_finds : (f : Search) → Right book f → IsFound (with_step steps i f) r
      step_finds f right =
          rw (eq-eqb _ _ (start_op (counts_of book) steps i starts), start_field (counts_of book) steps i starts)
          (now_found book accepted r (then chain (i, there, starts)) f right)

      steps_find :
          (n p : ℕ) → p + n ≤ step_count book q → p ≤ i → i < p + n → (f : Search) → Right book f → IsFound (with_steps n steps p f) r
      unfolding with_steps
      steps_find zero p l low high f right = absurd (omega arith)
      steps_find (suc n) p l low high f right =
          elim (ℕ_discrete i p) [
            | yes here ↦
                steps_keep (λ g. IsFound g r) (λ t g s. found_stays r t g) n (p + 1) (omega arith) (with_step steps p f)
                (rw here at (step_finds f right))
            | no later ↦
                steps_find n (p + 1) (omega arith) (omega arith) (omega arith) (with_step steps p f)
                (step_keeps (Right book) keeps_right p (omega arith) f right)
          ]

    module _ (f : Search) (right : Right book f) where
      starts_right : Right book (with_starts book q f)
      starts_right = starts_keep (Right book) keeps_right f right

      starts_closed : Closed book q (with_starts book q f)
      starts_closed r (i, l, e) =
          steps_find r i l e (steps_in steps) 0 (omega (arith, size)) (omega arith) (omega (arith, size)) f right

      -- q was the k-th
      one_further : (k : ℕ) → IsEntry k q f → ClosedBefore book k f → ClosedBefore book (k + 1) (with_starts book q f)
      one_further k own closed =
          let still = starts_keep (IsEntry k q) (λ r g s. entry_stays k q r g) f own in
          let before = starts_keep (ClosedBefore book k) (λ r g s. closed_stays book k r g) f closed in (
            omega arith,
            λ i l.
                elim (ℕ_discrete i k) [ yes e ↦ rw (e, still.1) starts_closed | no other ↦ before.1 i (omega arith) ],
          )

  few : (f : Search) → Right book f → f.count ≤ most_routines
  few f right = omega (arith, right.counted, count_all (is_found f.flags) (routines_of book), accepted.laid.counts.few_routines)

  -- behind the last of them
  ended : (k : ℕ) (f : Search) → f.count ≤ k → IsFound f 0 → Right book f → ClosedBefore book k f → Complete book f
  ended k f l first right closed =
      let e : k ≡ f.count = omega arith in
      record { first = first; right = right; closed = rw e at closed }

  -- as many are gone through as there can be
  pub found_all :
      (n k : ℕ) (f : Search) → most_routines ≤ n + k → IsFound f 0 → Right book f → ClosedBefore book k f →
      Complete book (found_from n book k f)
  unfolding found_from
  found_all zero k f enough first right closed = ended k f (omega (arith, few f right)) first right closed
  found_all (suc n) k f enough first right closed =
      by_test (Complete book) (ltb k f.count)
      (λ e.
      let q = entry f k in
      let l : k < f.count = ltb-true k f.count e in
      let chain = right.chained k l in
      found_all n (k + 1) (with_starts book q f) (omega arith)
      (starts_keep q chain (λ g. IsFound g 0) (λ r g s. found_stays 0 r g) f first) (starts_right q chain f right)
      (one_further q chain f right k (l, refl) closed))
      (λ e. ended k f (ltb-false k f.count e) first right closed)
