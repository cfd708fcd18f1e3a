-- In a game that fits an accepted book every number has the bits that it is stored in: a place is at most 1,024, and the count left of a
-- timed step is less than its n. That no step has a greater n is told by the table, row by row.
use Prim.Native.Nat.{ℕ, ◌≤◌, ◌<◌}
use mathlib.Core.Path.{◌≡◌, refl, subst}
use mathlib.Core.List.{List}
use native.Mathlib.Omega.{arith}
use lib.Dec.{leb→le}
use lib.IntN.{ℤ, pos, negsuc}
use lib.Signed.{◌≤ℤ◌}
use Rattle.std.specs.Prelude.{Option, Some}
use Rattle.numbers.specs.Numbers.{half_limit, word_limit, highest, count_of}
use Rattle.numbers.proofs.Tests.{by_flag}
use Rattle.kinds.specs.declared.Kind.{Kind}
use Rattle.kinds.specs.declared.Counts.{Counts}
use Rattle.kinds.specs.Steps.{Row, table, field_a, field_b, field_n, step_at}
use Rattle.kinds.proofs.Readable.{step_readable}
use Rattle.kinds.proofs.Rows.{Rows, ◌and◌, step_holds, row_kind}
use Rattle.forms.specs.Timed.{Timed, kind_count}
use Rattle.layout.specs.Layout.{routines_of, counts_of}
use Rattle.directory.specs.Directory.{routine_steps}
use Rattle.book.specs.Accepted.{Accepted}
use Rattle.book.proofs.Routines.{routine_within}
use Rattle.game.specs.declared.Game.{Game}
use Rattle.game.specs.Game.{routine_at}
use Rattle.fitting.specs.Fits.{Fits}

abbrev most_count : ℕ
most_count = 1000000

count_small : (n : ℤ) → n ≤ℤ highest → count_of n ≤ most_count
count_small (pos n) h = leb→le n most_count h.le
count_small (negsuc n) h = omega arith

module _ (a b : ℕ) (n : ℤ) where
  -- a number within a row's limits is a small count in the row's kind
  abbrev CountIn : ℕ → Row → Type 0
  CountIn op r = n ≤ℤ r.highest_n → kind_count (r.kind a b n) ≤ most_count

  table_counts : Rows CountIn 0 table
  table_counts =
      (λ high. omega arith)
      and (λ high. omega arith)
      and (λ high. omega arith)
      and (λ high. omega arith)
      and (λ high. omega arith)
      and (λ high. omega arith)
      and (λ high. omega arith)
      and count_small n
      and (λ high. omega arith)
      and count_small n
      and (λ high. omega arith)
      and count_small n
      and (λ high. omega arith)
      and (λ high. omega arith)
      and (λ high. omega arith)
      and (λ high. omega arith)
      and (λ high. omega arith)
      and (λ high. omega arith)
      and (λ high. omega arith)
      and (λ high. omega arith)
      and (λ high. omega arith)
      and tt

counts_small : (counts : Counts) (steps : List ℕ) (p : ℕ) (k : Kind) → step_at counts steps p ≡ Some k → kind_count k ≤ most_count
counts_small counts steps p k e =
    let a = field_a steps p in
    let b = field_b steps p in
    let n = field_n steps p in
    subst (λ k. kind_count k ≤ most_count) (row_kind counts steps p e)
    (step_holds (CountIn a b n) counts steps p (table_counts a b n) e (step_readable counts steps p e).below)

timed_small : {st : Option Kind} {n : ℕ} → Timed st n → ((k : Kind) → st ≡ Some k → kind_count k ≤ most_count) → n ≤ most_count
timed_small Timed.rest_for small = small _ refl
timed_small Timed.wait_for small = small _ refl
timed_small Timed.join_for small = small _ refl

module _ (book : List ℕ) (a : Accepted book) (g : Game) (fits : Fits book g) (r : ℕ) (h : r < routines_of book) where
  pub place_small : (routine_at g r).place < half_limit
  place_small = omega (arith, fits.places_in_range r h, routine_within book a r h, a.laid.counts.few_steps)

  pub left_small : (routine_at g r).left < word_limit
  left_small =
      by_flag (routine_at g r).begun
      (λ e.
      let (n, timed, below) = fits.left_where_begun r h e in
      omega (arith, below, timed_small timed (counts_small (counts_of book) (routine_steps book r) (routine_at g r).place)))
      (λ e. omega (arith, fits.left_elsewhere r h e))
