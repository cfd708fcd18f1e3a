-- Checks 1 to 3 tell nothing exactly where a book is laid out as document 01 says.
-- Each test of the verdict is a clause of `LaidOut`: a test that tells nothing has passed, and says its clause.
use Prim.Native.Nat.{ℕ}
use mathlib.Core.Path.{◌≡◌}
use mathlib.Core.Bool.{true}
use mathlib.Core.List.{List}
use lib.ListN.{length}
use lib.Dec.{leb}
use native.Mathlib.Omega.{arith}
use borrow.Author.Tests.{leb-true, eqb-true, le-leb, eq-eqb}
use Rattle.numbers.proofs.Tests.{and_both}
use Rattle.verdicts.specs.Verdicts.{accepted}
use Rattle.layout.specs.Layout.{header_bytes, counts_fit, layout_fits, layout_verdict}
use Rattle.book.specs.Accepted.{CountsInRange, OffsetsRight, LaidOut}
use Rattle.verdicts.proofs.First.{passed, or_else_both}

pub counts_in_range : (s : List ℕ) → counts_fit s ≡ true → CountsInRange s
counts_in_range s e =
    let counters = and_both _ _ e in
    let signals = and_both _ _ counters.0 in
    let steps = and_both _ _ signals.0 in
    let routines = and_both _ _ steps.0 in
    record {
      some_routine = leb-true _ _ routines.0;
      few_routines = leb-true _ _ routines.1;
      few_steps = leb-true _ _ steps.1;
      few_signals = leb-true _ _ signals.1;
      few_counters = leb-true _ _ counters.1;
    }

pub counts_fit_lem : (s : List ℕ) → CountsInRange s → counts_fit s ≡ true
counts_fit_lem s c =
    rw (
      le-leb _ _ c.some_routine,
      le-leb _ _ c.few_routines,
      le-leb _ _ c.few_steps,
      le-leb _ _ c.few_signals,
      le-leb _ _ c.few_counters,
    )

pub offsets_in_place : (s : List ℕ) → layout_fits s ≡ true → OffsetsRight s
offsets_in_place s e =
    let size = and_both _ _ e in
    let offsets = and_both _ _ size.0 in
    record { directory_at = eqb-true _ _ offsets.0; steps_at = eqb-true _ _ offsets.1; size = eqb-true _ _ size.1 }

pub layout_fits_lem : (s : List ℕ) → OffsetsRight s → layout_fits s ≡ true
layout_fits_lem s o = rw (eq-eqb _ _ o.directory_at, eq-eqb _ _ o.steps_at, eq-eqb _ _ o.size)

pub laid_out : (s : List ℕ) → (layout_verdict s).number ≡ 0 → LaidOut s
unfolding layout_verdict
laid_out s e =
    let long = or_else_both _ _ e in
    let fit = or_else_both _ _ long.1 in
    record {
      header = leb-true _ _ (passed (leb header_bytes (length s)) 1 0 (λ z. omega (arith, z)) long.0);
      counts = counts_in_range s (passed (counts_fit s) 2 0 (λ z. omega (arith, z)) fit.0);
      offsets = offsets_in_place s (passed (layout_fits s) 3 0 (λ z. omega (arith, z)) fit.1);
    }

pub laid_back : (s : List ℕ) → LaidOut s → layout_verdict s ≡ accepted
unfolding layout_verdict
laid_back s l = rw (le-leb _ _ l.header, counts_fit_lem s l.counts, layout_fits_lem s l.offsets)
