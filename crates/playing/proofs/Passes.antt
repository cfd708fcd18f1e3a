-- The passes of a round that is opened: its listed routines are ready, and there is room for the numbers that it gives, of which there are
-- at most as many as the book has steps, and for what it cuts off. So the tables behind the passes hold the state that the definition
-- gives.
use Prim.Native.Nat.{ℕ, ◌≤◌, ◌<◌}
use native.Mathlib.Nat.{zero-add}
use mathlib.Core.Path.{◌≡◌, ap, ◌∙◌}
use mathlib.Core.Bool.{Bool, false}
use mathlib.Core.List.{List}
use native.Mathlib.Omega.{arith}
use borrow.Author.Tests.{ltb-false}
use lib.Dec.{ltb}
use lib.IntN.{ℤ}
use Rattle.numbers.proofs.Tests.{by_test}
use Rattle.layout.specs.Layout.{steps_of}
use Rattle.lines.specs.declared.Line.{Line}
use Rattle.lines.specs.Lines.{most_entries, used_of, item_at, entries_of}
use Rattle.game.specs.declared.Game.{Game}
use Rattle.round.specs.Actions.{at_start}
use Rattle.round.specs.Rounds.{most_passes, listed_in, instant, round}
use Rattle.round.proofs.StartSound.{listed_below, at_start_sound}
use Rattle.round.proofs.Once.{numbers_kept}
use Rattle.round.proofs.Lost.{lost_few}
use Rattle.tables.specs.declared.Tally.{Tally}
use Rattle.tables.specs.declared.Tables.{Tables}
use Rattle.tables.specs.Tables.{state_in, WholeIn}
use Rattle.passing.specs.Effects.{marks_of}
use Rattle.passing.specs.Turns.{Roomy, Ready}
use Rattle.passing.specs.Passes.{PassesAsk, AfterPasses, passes, passes_by}
use Rattle.opening.specs.Games.{Opened}
use Rattle.playing.specs.Playing.{PassesDone}
use Rattle.playing.proofs.Asking as asking

used_below : (l : Line) (i : ℕ) → l.len ≤ most_entries → i < used_of l → i < l.len
used_below l i h =
    by_test (λ (k : ℕ). i < k → i < l.len) (ltb l.len most_entries) (λ t m. m)
    (λ t m. omega (arith, h, ltb-false l.len most_entries t))

module _
    {book : List ℕ} {g : Game} {order : Line} {t : Tables} (opened : Opened book g order t)
  where
    all_ready : (i : ℕ) → i < used_of order → Ready book (item_at order i)
    all_ready i h =
        let fits = (at_start_sound book g opened.accepted opened.fits).fits in
        let inside = used_below (at_start g).game.listed i fits.lengths_in_range.0 (rw opened.listed at h) in
        rw opened.listed (asking.ready book opened.accepted _ (fits.entries_in_range.0 i inside))

    at_first : (room : ℕ) → WholeIn room t
    at_first room =
        let starting = ap (λ (n : Tally). n.starting) opened.uncounted in
        let given = ap (λ (n : Tally). n.given) opened.uncounted in
        record {
          flags_long = opened.flags_long;
          fields_long = opened.fields_long;
          starting_fits = omega (arith, starting);
          given_fits = omega (arith, given);
        }

    roomy :
        (room : ℕ) → steps_of book ≤ room → (given : List ℤ) →
        PassesAsk room book most_passes (entries_of order) (state_in (at_start g).game t given false)
    unfolding round
    roomy room few given =
        let a = opened.accepted in
        let start = at_start_sound book g a opened.fits in
        let enough : Roomy room (round book g).played.state =
        (omega (arith, few, numbers_kept book a g opened.fits), omega (arith, lost_few book a g opened.fits))
        in
        rw (opened.holds given, opened.listed)
        (asking.passes_ask book a room (listed_in g) (listed_below start) most_passes (at_start g) start enough)

    -- what the passes ask, with room for a number a step
    pub passes_asked :
        (room : ℕ) → steps_of book ≤ room → (given : List ℤ) →
        WholeIn room t
        × (((i : ℕ) → i < used_of order → Ready book (item_at order i))
        × ((q : Game) × PassesAsk room book most_passes (entries_of order) (state_in q t given false)))
    passes_asked room few given = (at_first room, (all_ready, ((at_start g).game, roomy room few given)))

    -- what they leave
    pub passes_done :
        (room : ℕ) (given given' : List ℤ) (after : Tables) (eoi : Bool) (k : ℕ) (marks marks' : List ℤ) →
        ((q : Game) →
        passes (state_in q after given' eoi) (marks_of marks' after.tally.marks) k
        ≡ passes_by (instant book most_passes (entries_of order) (state_in q t given false)) (marks_of marks t.tally.marks) 0) →
        WholeIn room after → PassesDone book g after k marks marks'
    unfolding round
    passes_done room given given' after eoi k marks marks' h whole =
        let same = rw (opened.holds given, opened.listed, ap (λ (n : Tally). n.marks) opened.uncounted) at (h (at_start g).game) in
        record {
          given = given';
          eoi = eoi;
          holds = ap (λ (p : AfterPasses). p.state) same;
          marked = ap (λ (p : AfterPasses). p.marks) same;
          passed = ap (λ (p : AfterPasses). p.passes) same ∙ zero-add _;
          fields_long = whole.fields_long;
        }
