-- What reading a book answers is told for the reason that document 01 gives, nothing else is, and so exactly the accepted books pass.
-- A reason settles each check up to its own; the other way, the first check that refuses has its reason.
use Prim.Native.Nat.{ℕ, suc}
use mathlib.Core.Path.{◌≡◌, refl, ◌∙◌, ap}
use mathlib.Core.Bool.{Bool, true, false}
use mathlib.Core.List.{List}
use mathlib.Core.Logic.{◌↔◌}
use native.Mathlib.Decide.{ℕ_discrete}
use lib.Dec.{leb, eqb}
use lib.ListN.{length}
use borrow.Author.Tests.{leb-true, leb-false, eqb-false}
use Rattle.numbers.proofs.Tests.{clash}
use Rattle.verdicts.specs.declared.Verdict.{Verdict}
use Rattle.verdicts.specs.Verdicts.{accepted, refused, ◌or_else◌, unless}
use Rattle.layout.specs.Layout.{header_bytes, counts_fit, layout_fits, layout_verdict, routines_of, steps_of}
use Rattle.directory.specs.Directory.{steps_before, directory_verdict}
use Rattle.book.specs.Book.{steps_verdict, nesting_verdict, pausing_verdict, book_verdict}
use Rattle.book.specs.Accepted.{LaidOut, DirectoryRight, AllReadable, AllNest, Accepted}
use Rattle.book.specs.Reasons.{BookReason}
use Rattle.verdicts.proofs.First.{or_else_clear, or_else_refused, or_else_both, or_else_past, or_else_told}
use Rattle.verdicts.proofs.First.{all_good, all_clear, not_good, first_claim, first_told}
use Rattle.book.proofs.Laid.{counts_in_range, counts_fit_lem, layout_fits_lem, laid_out, laid_back}
use Rattle.book.proofs.Decided.{short_told, counts_told, offsets_told}
use Rattle.directory.proofs.Directory.{entries_decided, entry_wrong, total_told, entry_told}
use Rattle.book.proofs.Decided.{directed, directory_clear}
use Rattle.book.proofs.Decided.{steps_decided, step_wrong, nesting_decided, pausing_decided, readable_places}
use Rattle.book.proofs.Decided.{misplaced_told, endless_told, some_misplaced, some_endless}

-- what is left to check behind each check that tells nothing
module _ (s : List ℕ) (laid : LaidOut s) where
  past_layout : book_verdict s ≡ (directory_verdict s or_else steps_verdict s or_else nesting_verdict s or_else pausing_verdict s)
  unfolding book_verdict
  past_layout = or_else_past _ _ (laid_back s laid)

  module _ (dir : DirectoryRight s) where
    past_directory : book_verdict s ≡ (steps_verdict s or_else nesting_verdict s or_else pausing_verdict s)
    past_directory = past_layout ∙ or_else_past _ _ (directory_clear s dir)

    module _ (all : AllReadable s (steps_of s)) where
      past_steps : book_verdict s ≡ (nesting_verdict s or_else pausing_verdict s)
      unfolding steps_verdict
      past_steps = past_directory ∙ or_else_past _ _ (all_clear (steps_decided s laid) all)

      past_nesting : AllNest s (routines_of s) → book_verdict s ≡ pausing_verdict s
      unfolding nesting_verdict
      past_nesting nests = past_steps ∙ or_else_past _ _ (all_clear (nesting_decided s) nests)

pub book_reason_only : (s : List ℕ) {k p : ℕ} → BookReason s k p → book_verdict s ≡ refused k p
unfolding book_verdict steps_verdict nesting_verdict pausing_verdict
book_reason_only s (BookReason.nothing a) =
    past_nesting s a.laid a.directed a.readable a.nesting
    ∙ all_clear (pausing_decided s a.nesting) (λ r l. a.pausing r)
book_reason_only s (BookReason.short h) = or_else_told _ _ (short_told s h)
book_reason_only s (BookReason.counts h n) = or_else_told _ _ (counts_told s h n)
book_reason_only s (BookReason.offsets h c n) = or_else_told _ _ (offsets_told s h c n)
book_reason_only s (BookReason.entry {r = r} laid l before n) = past_layout s laid ∙ or_else_told _ _ (entry_told s r l before n)
book_reason_only s (BookReason.total laid entries n) = past_layout s laid ∙ or_else_told _ _ (total_told s entries n)
book_reason_only s (BookReason.step {p = p} laid dir l before n) =
    past_directory s laid dir ∙ or_else_told _ _ (first_told (steps_decided s laid) p l before (step_wrong s p n))
book_reason_only s (BookReason.nesting {r = r} laid dir all l before v) =
    past_steps s laid dir all ∙ or_else_told _ _ (first_told (nesting_decided s) r l before (misplaced_told s r v))
book_reason_only s (BookReason.pausing {r = r} p laid dir all nests here before each some) =
    let told = endless_told s r (nests r here) p (each, some) in
    past_nesting s laid dir all nests ∙ first_told (pausing_decided s nests) r here (λ k l h. before k h l) told

-- each check's answer is told for its reason, if it refuses
module _ (s : List ℕ) where
  abbrev Reason : Verdict → Type 0
  Reason v = BookReason s v.number v.place

  abbrev ReasonIf : Verdict → Type 0
  ReasonIf v = (v.number ≡ 0 → ⊥) → Reason v

  unless_reason : (t : Bool) {k p : ℕ} → (t ≡ false → BookReason s k p) → ReasonIf (unless t (refused k p))
  unless_reason true f n = absurd (n refl)
  unless_reason false f n = f refl

  test_reason :
      (t : Bool) (w : Verdict) {k p : ℕ} → (t ≡ false → BookReason s (suc k) p) → (t ≡ true → ReasonIf w) →
      ReasonIf (unless t (refused (suc k) p) or_else w)
  test_reason true w f g = g refl
  test_reason false w {k} {p} f g = rw (or_else_told (refused (suc k) p) w refl) (λ n. f refl)

  or_reason : (v w : Verdict) → ReasonIf v → (v.number ≡ 0 → ReasonIf w) → ReasonIf (v or_else w)
  or_reason v w f g =
      elim (ℕ_discrete v.number 0) [
        | yes e ↦ rw (or_else_clear v w e) (g e)
        | no n ↦ rw (or_else_refused v w n) f
      ]

  layout_reason : ReasonIf (layout_verdict s)
  unfolding layout_verdict
  layout_reason =
      test_reason (leb header_bytes (length s)) _ (λ e. BookReason.short (leb-false _ _ e)) (λ e.
      let header = leb-true _ _ e in
      test_reason (counts_fit s) _ (λ e. BookReason.counts header (λ c. clash (counts_fit_lem s c) e)) (λ e.
      let in_range = counts_in_range s e in
      unless_reason (layout_fits s) (λ e. BookReason.offsets header in_range (λ o. clash (layout_fits_lem s o) e))))

  module _ (laid : LaidOut s) where
    directory_reason : ReasonIf (directory_verdict s)
    unfolding directory_verdict
    directory_reason =
        or_reason _ _
        (λ n. first_claim (entries_decided s) Reason n (λ r l before m.
        let wrong = not_good (entries_decided s) r l m in
        rw (entry_wrong s r wrong) (BookReason.entry laid l before wrong)))
        (λ a. unless_reason (eqb (steps_before s (routines_of s)) (steps_of s)) (λ e.
        BookReason.total laid (all_good (entries_decided s) a) (eqb-false _ _ e)))

    module _ (dir : DirectoryRight s) where
      steps_reason : ReasonIf (steps_verdict s)
      unfolding steps_verdict
      steps_reason n =
          first_claim (steps_decided s laid) Reason n (λ i l before m.
          let wrong = not_good (steps_decided s laid) i l m in
          rw (step_wrong s i wrong) (BookReason.step laid dir l before wrong))

      module _ (all : AllReadable s (steps_of s)) where
        nesting_reason : ReasonIf (nesting_verdict s)
        unfolding nesting_verdict
        nesting_reason n =
            first_claim (nesting_decided s) Reason n (λ r l before m.
            let found = some_misplaced s r (readable_places s laid dir all r l) m in
            rw (misplaced_told s r found.1) (BookReason.nesting laid dir all l before found.1))

        pausing_reason : AllNest s (routines_of s) → ReasonIf (pausing_verdict s)
        unfolding pausing_verdict
        pausing_reason nests n =
            first_claim (pausing_decided s nests) Reason n (λ r l before m.
            let found = some_endless s r (nests r l) m in
            rw (endless_told s r (nests r l) found.0 found.1)
            (BookReason.pausing found.0 laid dir all nests l (λ k h b. before k b h) found.1.0 found.1.1))

  refused_reason : ReasonIf (book_verdict s)
  unfolding book_verdict steps_verdict nesting_verdict
  refused_reason =
      or_reason _ _ layout_reason (λ a.
      let laid = laid_out s a in
      or_reason _ _ (directory_reason laid) (λ b.
      let dir = directed s b in
      or_reason _ _ (steps_reason laid dir) (λ c.
      let all = all_good (steps_decided s laid) c in
      or_reason _ _ (nesting_reason laid dir all) (λ d. pausing_reason laid dir all (all_good (nesting_decided s) d)))))

pub number_accepted : (s : List ℕ) → (book_verdict s).number ≡ 0 → Accepted s
unfolding book_verdict steps_verdict nesting_verdict pausing_verdict
number_accepted s e =
    let a = or_else_both _ _ e in
    let b = or_else_both _ _ a.1 in
    let c = or_else_both _ _ b.1 in
    let d = or_else_both _ _ c.1 in
    let laid = laid_out s a.0 in
    let nests = all_good (nesting_decided s) d.0 in
    record {
      laid = laid;
      directed = directed s b.0;
      readable = all_good (steps_decided s laid) c.0;
      nesting = nests;
      pausing = λ r h. all_good (pausing_decided s nests) d.1 r h h;
    }

pub book_reason : (s : List ℕ) → BookReason s (book_verdict s).number (book_verdict s).place
book_reason s =
    elim (ℕ_discrete (book_verdict s).number 0) [
      | yes e ↦ let a = BookReason.nothing (number_accepted s e) in rw (book_reason_only s a) a
      | no n ↦ refused_reason s n
    ]

pub accepted_exactly : (s : List ℕ) → (book_verdict s ≡ accepted) ↔ Accepted s
accepted_exactly s = (λ e. number_accepted s (ap (λ v. v.number) e), λ a. book_reason_only s (BookReason.nothing a))
