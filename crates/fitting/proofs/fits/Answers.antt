-- `fitting::fits` meets its contract: each test of the code is one of the contract. The flags that the lists leave tell which routines are
-- in them. The arrays of the lent game are as long as their types say.
use Prim.Native.Nat.{ℕ, ◌<◌}
use mathlib.Core.Path.{◌≡◌, refl, sym, subst, ◌∙◌}
use mathlib.Core.Bool.{Bool, true, false, ◌&&◌, not, and-false, and_assoc, and_comm, not-not}
use mathlib.Core.List.{List}
use native.Mathlib.Omega.{arith}
use borrow.Author.Rules.{rules}
use lib.Dec.{ltb, eqb}
use lib.ListN.{get_or}
use Rattle.std.specs.Prelude.{if◌then◌else◌}
use Rattle.numbers.specs.Numbers.{byte_limit}
use Rattle.numbers.specs.Counting.{all_below}
use Rattle.numbers.proofs.Below.{all_fails, all_next, all_ends}
use Rattle.kinds.specs.declared.Counts.{Counts}
use Rattle.layout.specs.Layout.{most_routines, counts_of}
use Rattle.game.specs.declared.Game.{Game}
use Rattle.game.specs.Game.{routine_at}
use Rattle.fitting.specs.Arrays.{Flagged}
use Rattle.fitting.specs.Routines.{is_blank, routine_fits, slot_fits}
use Rattle.fitting.specs.Fitting.{same_counts, is_sized, fits_book}
use Rattle.fitting.proofs.Sizes.{is_sized_lem, length_mapped}
use Rattle.fitting.proofs.fits.Goals as goal
use Rattle.fitting.proofs.fits.Goals.{then-not-counters_fit-via-then-not-counters_fit, then-not-counters_fit-via-else-not-counters_fit+then-not-signals_fit}

sized : (c : goal.After-loop-routine) → is_sized c.args.game ≡ true
sized c =
    (is_sized_lem c.args.game).1
    (record {
      routines = search (rules, length_mapped);
      counters = search (rules, length_mapped);
      listed = search (rules, length_mapped);
      starting = search (rules, length_mapped);
      broadcast = search (rules, length_mapped);
    })

-- the counts are compared in the order in which they stand
counts_same :
    (a b : Counts) →
    not (not (eqb a.routines b.routines && (eqb a.signals b.signals && eqb a.counters b.counters))) ≡ same_counts a b
counts_same a b = rw (not-not, and_comm (eqb a.signals b.signals), and_assoc)

counted :
    (s : List ℕ) (a b : Counts) {differ t : Bool} → b ≡ counts_of s →
    differ ≡ not (eqb a.routines b.routines && (eqb a.signals b.signals && eqb a.counters b.counters)) → differ ≡ t →
    same_counts a (counts_of s) ≡ not t
counted s a b {t = t} e f h =
    subst (λ (z : Counts). same_counts a z ≡ not t) e (rw (← h, f) (sym (counts_same a b)))

-- the answer of the call is the contract's test of this slot: the flags tell whether the routine is in either list
slot :
    (s : List ℕ) (g : Game) (listed starting : List Bool) (at : ℕ) {answer : Bool} →
    Flagged listed g.listed → Flagged starting g.starting → at < byte_limit →
    answer
    ≡ (
    if ltb at g.counts.routines
    then routine_fits s at (routine_at g at) (get_or listed at false) (get_or starting at false)
    else is_blank (routine_at g at)) →
    answer ≡ slot_fits s g at
unfolding slot_fits
slot s g listed starting at f h small e = rw (← (f at small), ← (h at small)) e

pub returns-then-ne : goal.returns-then-ne
unfolding fits_book
returns-then-ne c = rw (counted c.args.book.now c.args.game.counts c.counts_of.result c.counts_of.ensures c.ne.ensures c.if-ne.true)

pub returns-in_default : goal.returns-in_default
unfolding fits_book
returns-in_default c = rw (c.in_default.ensures, and-false)

pub returns-in_default-routines_in : goal.returns-in_default-routines_in
unfolding fits_book
returns-in_default-routines_in c = rw (c.in_default-routines_in.ensures, and-false)

pub returns-then-not-counters_fit : goal.returns-then-not-counters_fit
unfolding fits_book
returns-then-not-counters_fit c =
    elim c.then-not-counters_fit.branch [
      | then-not-counters_fit-via-then-not-counters_fit w ↦ rw (← c.counters_fit.ensures, w.if-not-counters_fit.true, and-false)
      | then-not-counters_fit-via-else-not-counters_fit+then-not-signals_fit w ↦
          rw (← w.signals_fit.ensures, w.if-not-signals_fit.true, and-false)
    ]

pub loop-routine-init : goal.loop-routine-init
unfolding all_below
loop-routine-init c = refl

pub returns-then-not-slot_fits : goal.returns-then-not-slot_fits
unfolding fits_book
returns-then-not-slot_fits c =
    let l = c.loop-routine in
    let s = c.args.book.now in
    let g = c.args.game in
    let listed = c.in-Some.ensures.1 in
    let starting = c.in-Some-routines_in.ensures.1 in
    let tested = slot s g _ _ l.routine listed starting (omega arith) c.slot_fits.ensures in
    rw (all_fails (slot_fits s g) most_routines l.routine c.loop-routine-test.true (sym tested ∙ c.if-not-slot_fits.true), and-false)

pub loop-routine-preserved : goal.loop-routine-preserved
loop-routine-preserved c =
    let l = c.loop-routine in
    let s = c.args.book.now in
    let g = c.args.game in
    let listed = c.in-Some.ensures.1 in
    let starting = c.in-Some-routines_in.ensures.1 in
    let tested = slot s g _ _ l.routine listed starting (omega arith) c.slot_fits.ensures in
    all_next (slot_fits s g) l.routine l.invariant (sym tested ∙ c.if-not-slot_fits.false)

pub returns : goal.returns
unfolding fits_book
returns c =
    let l = c.loop-routine in
    let s = c.args.book.now in
    let g = c.args.game in
    rw (
      counted s g.counts c.counts_of.result c.counts_of.ensures c.ne.ensures c.if-ne.false,
      c.in-Some.ensures.0,
      c.in-Some-routines_in.ensures.0,
      sym c.counters_fit.ensures ∙ c.if-not-counters_fit.false,
      sym c.signals_fit.ensures ∙ c.if-not-signals_fit.false,
      all_ends (slot_fits s g) {n = most_routines} l.invariant l.auto.routine-end c.loop-routine-test.false,
      sized c,
    )
