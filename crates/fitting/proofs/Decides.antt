-- For a book whose counts are in range, the test whether a game fits it passes exactly where each clause of document 01 holds.
-- By what each part of the test says: once the game's numbers R, E and C are the book's, the parts and the clauses say the same.
use Prim.Native.Nat.{ℕ, ◌<◌, ◌≤◌}
use mathlib.Core.Path.{◌≡◌, refl, ap, subst, subst⁻¹}
use mathlib.Core.Bool.{Bool, true, false}
use mathlib.Core.List.{List}
use mathlib.Core.Logic.Iff
use mathlib.Core.Logic.{◌↔◌}
use native.Mathlib.Omega.{arith}
use borrow.Author.Tests.{leb-true}
use lib.Dec.{T, leb}
use lib.ListN.{get_or}
use lib.IntN.{ℤ, pos, negsuc}
use lib.Signed.{◌≤ℤ◌, le_z}
use Rattle.numbers.specs.Numbers.{lowest_counter, highest_counter, CounterInRange, is_within}
use Rattle.numbers.proofs.Tests.{clash, and_both}
use Rattle.kinds.specs.declared.Counts.{Counts}
use Rattle.layout.specs.Layout.{most_routines, most_signals, most_counters, routines_of, counts_of}
use Rattle.book.specs.Accepted.{CountsInRange}
use Rattle.game.specs.declared.Routine.{Routine}
use Rattle.game.specs.declared.Game.{Game}
use Rattle.lines.specs.Lines.{most_entries}
use Rattle.game.specs.Game.{blank, routine_at, Sized}
use Rattle.fitting.specs.Arrays.{counters_fit, signals_fit}
use Rattle.fitting.specs.Routines.{slot_fits}
use Rattle.fitting.specs.Fitting.{same_counts, fits_book}
use Rattle.fitting.specs.Fits.{In, BothLists, Fits}
use Rattle.fitting.proofs.Tests.{not_less, equal, fails, and_then, both, or_else, by_order, each}
use Rattle.fitting.proofs.Sizes.{is_sized_lem}
use Rattle.fitting.proofs.Lists.{LineRight, is_in_lem, line_right}
use Rattle.fitting.proofs.Routines.{RoutineRight, routine_right, is_blank_lem}

same_counts_lem : (a b : Counts) → (same_counts a b ≡ true) ↔ (a ≡ b)
same_counts_lem a b =
    Iff.trans
    (both (both (equal a.routines b.routines) (equal a.counters b.counters)) (equal a.signals b.signals)) (
      λ h i. record { routines = h.0.0 i; signals = h.1 i; counters = h.0.1 i },
      λ e. ((ap (λ n. n.routines) e, ap (λ n. n.counters) e), ap (λ n. n.signals) e),
    )

-- tests of a counter
holds : (t : Bool) → T t → t ≡ true
holds true h = refl
holds false h = absurd h

ordered : (a b : ℤ) → (le_z a b ≡ true) ↔ (a ≤ℤ b)
ordered a b = (λ e. record { le = rw e tt }, λ h. holds (le_z a b) h.le)

only_zero : (v : ℤ) → is_within v (pos 0) (pos 0) ≡ true → v ≡ pos 0
only_zero (pos n) h = ap pos (omega (arith, leb-true n 0 (and_both (leb 0 n) (leb n 0) h).1))
only_zero (negsuc n) h = clash h refl

-- of the counters that are kept, those below C are in range and the others are 0
abbrev pub CounterRight : ℕ → ℕ → ℤ → Type 0
CounterRight counters c v = (c < counters → CounterInRange v) × (counters ≤ c → v ≡ pos 0)

abbrev CountersRight : List ℤ → ℕ → Type 0
CountersRight values counters = (c : ℕ) → c < most_counters → CounterRight counters c (get_or values c (pos 0))

counters_right : (values : List ℤ) (counters : ℕ) → (counters_fit values counters ≡ true) ↔ CountersRight values counters
unfolding counters_fit
counters_right values counters =
    each most_counters _ (λ c l. by_order c counters (both (ordered lowest_counter _) (ordered _ highest_counter)) (only_zero _, λ e. rw e))

-- those from E on are not to be broadcast
abbrev SignalsRight : List Bool → ℕ → Type 0
SignalsRight flags signals = (e : ℕ) → e < most_signals → signals ≤ e → get_or flags e false ≡ false

signals_right : (flags : List Bool) (signals : ℕ) → (signals_fit flags signals ≡ true) ↔ SignalsRight flags signals
unfolding signals_fit
signals_right flags signals = each most_signals _ (λ e l. or_else _ (not_less e signals) (fails (get_or flags e false)))

module _ (s : List ℕ) (g : Game) where
  -- what the clauses ask of routine r, where it is x
  abbrev pub OneRight : ℕ → Routine → Type 0
  OneRight r x = RoutineRight s r x (In g.listed r) (In g.starting r)

  -- what is kept of a number r: below R a routine that is right, and nothing from there on
  abbrev pub SlotRight : ℕ → ℕ → Routine → Type 0
  SlotRight routines r x = (r < routines → OneRight r x) × (routines ≤ r → x ≡ blank)

  slot_right :
      g.listed.len ≤ most_entries → g.starting.len ≤ most_entries → (r : ℕ) →
      (slot_fits s g r ≡ true) ↔ SlotRight g.counts.routines r (routine_at g r)
  unfolding slot_fits
  slot_right listed starting r =
      let one = routine_right s r (routine_at g r) _ _ (is_in_lem g.listed listed r) (is_in_lem g.starting starting r) in
      by_order r g.counts.routines one (is_blank_lem (routine_at g r))

  -- what the parts of the test say, over the numbers R, E and C
  abbrev pub Parts : Counts → Type 0
  Parts n =
      (((((g.counts ≡ counts_of s) × LineRight g.listed n.routines) × LineRight g.starting n.routines) ×
      CountersRight g.counters n.counters) × SignalsRight g.broadcast n.signals) ×
      ((r : ℕ) → r < most_routines → SlotRight n.routines r (routine_at g r))

  parts : (fits_book s g ≡ true) ↔ (Parts g.counts × Sized g)
  unfolding fits_book
  parts =
      let n = g.counts in
      let listed = both (same_counts_lem n (counts_of s)) (line_right g.listed n.routines) in
      let lists = both listed (line_right g.starting n.routines) in
      let counters = both lists (counters_right g.counters n.counters) in
      let signals = both counters (signals_right g.broadcast n.signals) in
      let routines =
      and_then signals (λ h. each most_routines (slot_fits s g) (λ r l. slot_right h.0.0.0.1.short h.0.0.1.short r))
      in
      both routines (is_sized_lem g)

  -- over the book's numbers, the parts are the clauses
  pub parts_fit : CountsInRange s → Parts (counts_of s) → Sized g → Fits s g
  parts_fit range (((((counts, listed), starting), counters), signals), routines) sized =
      let one : (r : ℕ) → r < routines_of s → OneRight r (routine_at g r) = λ r l. (routines r (omega (arith, range.few_routines))).0 l in
      record {
        numbers = counts;
        routines_beyond = λ r l k. (routines r k).1 l;
        counters_beyond = λ c l k. (counters c k).1 l;
        signals_beyond = λ e l k. signals e k l;
        entries_beyond = (listed.beyond, starting.beyond);
        stages_in_range = λ r l. (one r l).0.stage;
        places_in_range = λ r l. (one r l).0.place;
        counters_in_range = λ c l. (counters c (omega (arith, range.few_counters))).0 l;
        lengths_in_range = (listed.short, starting.short);
        entries_in_range = (listed.entries, starting.entries);
        listed_stages = λ r l. (one r l).0.listed;
        unlisted_stages = λ r l. (one r l).0.unlisted;
        none_twice = (listed.once, starting.once);
        start_stages = λ r v. (one r (rw v.2 at (starting.entries v.0 v.1))).1 v;
        left_where_begun = λ r l. (one r l).0.begun;
        left_elsewhere = λ r l. (one r l).0.not_begun;
        sized = sized;
      }

  module _ (f : Fits s g) where
    pub fit_lists : BothLists g (λ l. LineRight l (routines_of s))
    fit_lists = (
      record { short = f.lengths_in_range.0; entries = f.entries_in_range.0; beyond = f.entries_beyond.0; once = f.none_twice.0 },
      record { short = f.lengths_in_range.1; entries = f.entries_in_range.1; beyond = f.entries_beyond.1; once = f.none_twice.1 },
    )

    pub fit_one : (r : ℕ) → r < routines_of s → OneRight r (routine_at g r)
    fit_one r l = (
      record {
        stage = f.stages_in_range r l;
        place = f.places_in_range r l;
        listed = f.listed_stages r l;
        unlisted = f.unlisted_stages r l;
        begun = f.left_where_begun r l;
        not_begun = f.left_elsewhere r l;
      },
      f.start_stages r,
    )

    pub fit_parts : Parts (counts_of s)
    fit_parts = (
      (
        (((f.numbers, fit_lists.0), fit_lists.1), λ c k. (f.counters_in_range c, λ l. f.counters_beyond c l k)),
        λ e k l. f.signals_beyond e l k,
      ),
      λ r k. (fit_one r, λ l. f.routines_beyond r l k),
    )

pub fits_decides : (s : List ℕ) → CountsInRange s → (g : Game) → (fits_book s g ≡ true) ↔ Fits s g
fits_decides s range g = (
  λ h. let (p, sized) = (parts s g).0 h in parts_fit s g range (subst (Parts s g) p.0.0.0.0.0 p) sized,
  λ f. (parts s g).1 (subst⁻¹ (Parts s g) f.numbers (fit_parts s g f), f.sized),
)
