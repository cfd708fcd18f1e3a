-- A stored game has at most 858 bytes: its two lists together name no more routines than there are.
-- By counting: a routine to start is in stage 0 and so is not listed, hence all that the lists name are different numbers below R.
use Prim.Native.Nat.{ℕ, ◌+◌, ◌-◌, ◌<◌, ◌≤◌}
use mathlib.Core.Path.{◌≡◌, refl, ap}
use mathlib.Core.List.{List}
use mathlib.Core.Logic.{inl}
use native.Mathlib.Omega.{arith}
use borrow.Author.Tests.{ltb-true, ltb-false}
use lib.Dec.{ltb}
use Rattle.std.specs.Prelude.{if◌then◌else◌}
use Rattle.numbers.proofs.Tests.{by_test}
use Rattle.layout.specs.Layout.{routines_of}
use Rattle.lines.specs.declared.Line.{Line}
use Rattle.lines.specs.Lines.{item_at}
use Rattle.game.specs.declared.Game.{Game}
use Rattle.fitting.specs.Fits.{Fits}
use Rattle.fitting.proofs.Lists.{used_all}
use Rattle.fitting.proofs.Room.{few}
use Rattle.stored_games.specs.Stored.{length_of}
use Rattle.stored_games.proofs.Forms.{form1_usable}
use Rattle.stored_games.proofs.Ends.{stored_length}
use Rattle.kept_games.specs.Alike.{LongestStored}

-- the entries of a list, and behind them those of another
abbrev both : Line → Line → ℕ → ℕ
both l m i = if ltb i l.len then item_at l i else item_at m (i - l.len)

-- a claim on entry i of the two, if it is in the first and if it is in the second
either :
    (P : ℕ → Type 0) (l m : Line) (i : ℕ) → (i < l.len → P (item_at l i)) → (l.len ≤ i → P (item_at m (i - l.len))) → P (both l m i)
either P l m i first second =
    by_test P (ltb i l.len) (λ e. first (ltb-true i l.len e)) (λ e. second (ltb-false i l.len e))

module _ (book : List ℕ) (g : Game) (fits : Fits book g) where
  abbrev entry : ℕ → ℕ
  entry = both g.listed g.starting

  -- no routine is in both lists
  apart : (i j : ℕ) → i < g.listed.len → j < g.starting.len → item_at g.listed i ≡ item_at g.starting j → ⊥
  apart i j h k e =
      let r = item_at g.starting j in
      fits.unlisted_stages r (fits.entries_in_range.1 j k) (inl (fits.start_stages r (j, k, refl))) (i, h, e)

  few_entries : g.listed.len + g.starting.len ≤ routines_of book
  few_entries =
      let l = g.listed in
      let m = g.starting in
      few (routines_of book) (l.len + m.len) entry
      (λ i h.
      either (λ v. v < routines_of book) l m i (fits.entries_in_range.0 i) (λ k. fits.entries_in_range.1 (i - l.len) (omega arith)))
      (λ i j h k.
      either (λ v. v ≡ entry j → ⊥) l m i
      (λ a.
      either (λ w. item_at l i ≡ w → ⊥) l m j (fits.none_twice.0 i j h) (λ b. apart i (j - l.len) a (omega arith)))
      (λ a.
      either (λ w. item_at m (i - l.len) ≡ w → ⊥) l m j (λ b. absurd (omega arith))
      (λ b. fits.none_twice.1 (i - l.len) (j - l.len) (omega arith) (omega arith))))

pub longest_stored : LongestStored
unfolding length_of
longest_stored book g a fits =
    let long = stored_length form1_usable g fits.sized.listed fits.sized.starting in
    let listed = used_all g.listed fits.lengths_in_range.0 in
    let starting = used_all g.starting fits.lengths_in_range.1 in
    let routines = ap (λ n. n.routines) fits.numbers in
    let counters = ap (λ n. n.counters) fits.numbers in
    let range = a.laid.counts in
    omega (arith, long, listed, starting, few_entries book g fits, routines, counters, range.few_routines, range.few_counters)
