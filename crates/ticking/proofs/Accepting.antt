-- The steps of an accepted book's routines are such as a tick asks for. Each is read under the book's counts, so that its fields are within
-- its row's limits, and the limits are within those of the tables: the table, row by row.
use Prim.Native.Nat.{ℕ, ◌<◌}
use mathlib.Core.Path.{subst, sym, ap, ◌∙◌}
use mathlib.Core.List.{List}
use native.Mathlib.Omega.{arith}
use lib.Dec.{leb→le}
use lib.IntN.{ℤ, pos, negsuc}
use lib.Signed.{◌≤ℤ◌}
use Rattle.std.specs.Prelude.{Some}
use Rattle.numbers.specs.Numbers.{word_limit, count_of, highest}
use Rattle.kinds.specs.Steps.{Row, table, field_a, field_b, field_n}
use Rattle.kinds.proofs.Readable.{step_readable}
use Rattle.kinds.proofs.Rows.{Rows, ◌and◌, step_holds, row_kind, kind_at_lem}
use Rattle.layout.specs.Layout.{most_routines, most_signals, most_counters, routines_of, signals_of, counters_of, counts_of}
use Rattle.directory.specs.Directory.{step_count, routine_steps}
use Rattle.book.specs.Accepted.{CountsInRange, Accepted}
use Rattle.book.proofs.Routines.{shown_routine, shown_kind, routine_steps_lem}
use Rattle.ticking.specs.Acts.{Within, AllWithin, Decodes}

-- a count of n between these ends
some : (n : ℤ) → pos 1 ≤ℤ n → 0 < count_of n
some (pos m) h = leb→le 1 m h.le
some (negsuc m) h = absurd h.le

few : (n : ℤ) → n ≤ℤ highest → count_of n < word_limit
few (pos m) h = omega (arith, leb→le m 1000000 h.le)
few (negsuc m) h = omega arith

module _ (book : List ℕ) (small : CountsInRange book) (a b : ℕ) (n : ℤ) where
  routine : (t : ℕ) → t < routines_of book → t < most_routines
  routine t h = omega (arith, small.few_routines)

  signal : (e : ℕ) → e < signals_of book → e < most_signals
  signal e h = omega (arith, small.few_signals)

  counter : (c : ℕ) → c < counters_of book → c < most_counters
  counter c h = omega (arith, small.few_counters)

  -- the fields a, b and n within a row's limits make a kind that the tables have a place for
  abbrev WithinIn : ℕ → Row → Type 0
  WithinIn op r =
      a < r.a_count (counts_of book) → b < r.b_count (counts_of book) → r.lowest_n ≤ℤ n → n ≤ℤ r.highest_n →
      Within (r.kind a b n)

  table_within : Rows WithinIn 0 table
  table_within =
      (λ ha hb low high. tt)
      and (λ ha hb low high. counter a ha)
      and (λ ha hb low high. counter a ha)
      and (λ ha hb low high. (counter a ha, counter b hb))
      and (λ ha hb low high. signal a ha)
      and (λ ha hb low high. (signal a ha, counter b hb))
      and (λ ha hb low high. tt)
      and (λ ha hb low high. few n high)
      and (λ ha hb low high. signal a ha)
      and (λ ha hb low high. (signal a ha, few n high))
      and (λ ha hb low high. routine a ha)
      and (λ ha hb low high. (routine a ha, few n high))
      and (λ ha hb low high. (signal a ha, counter b hb, some n low))
      and (λ ha hb low high. routine a ha)
      and (λ ha hb low high. routine a ha)
      and (λ ha hb low high. routine a ha)
      and (λ ha hb low high. routine a ha)
      and (λ ha hb low high. counter a ha)
      and (λ ha hb low high. tt)
      and (λ ha hb low high. counter a ha)
      and (λ ha hb low high. tt)
      and tt

module _ (book : List ℕ) (accepted : Accepted book) (r : ℕ) (below : r < routines_of book) where
  abbrev steps : List ℕ
  steps = routine_steps book r

  pub steps_decode : Decodes (counts_of book) steps
  steps_decode p h =
      let there : p < step_count book r = omega (arith, routine_steps_lem book accepted r below) in
      let (k, shown) = shown_kind book accepted r below p there in
      let e = rw (shown_routine book accepted r below) at shown in
      e ∙ ap Some (sym (kind_at_lem (counts_of book) steps p e))

  pub steps_within : AllWithin steps
  steps_within p h =
      let e = steps_decode p h in
      let a = field_a steps p in
      let b = field_b steps p in
      let n = field_n steps p in
      let small = accepted.laid.counts in
      let read = step_readable (counts_of book) steps p e in
      subst Within (row_kind (counts_of book) steps p e)
      (step_holds (WithinIn book small a b n) (counts_of book) steps p (table_within book small a b n) e read.a_fits read.b_fits
      read.above read.below)
