-- The end of a round: the game behind it fits the book, so each number of the tables has its place in a game, and that game is the
-- definition's; the mark buffer is long enough for the marks, of which there are no more than the book has mark steps.
use Prim.Native.Nat.{ℕ, ◌≤◌, ◌<◌}
use mathlib.Core.Path.{◌≡◌, sym, ap, ◌∙◌}
use mathlib.Core.List.{List}
use native.Mathlib.Omega.{arith}
use lib.IntN.{ℤ}
use lib.ListN.{length}
use Rattle.numbers.specs.Numbers.{half_limit}
use Rattle.layout.specs.Layout.{most_routines, routines_of}
use Rattle.directory.specs.Directory.{step_count}
use Rattle.verdicts.specs.declared.Verdict.{Verdict}
use Rattle.verdicts.specs.Verdicts.{accepted}
use Rattle.book.specs.Accepted.{Accepted}
use Rattle.book.proofs.Routines.{routine_within}
use Rattle.lines.specs.declared.Line.{Line}
use Rattle.game.specs.declared.Game.{Game}
use Rattle.game.specs.Game.{blank, routine_at}
use Rattle.fitting.specs.Fits.{Fits}
use Rattle.round.specs.State.{State}
use Rattle.round.specs.Actions.{at_start}
use Rattle.round.specs.Rounds.{round, trace_of}
use Rattle.round.specs.Answers.{marks_in, space_for, played_out}
use Rattle.round.proofs.After.{round_fits}
use Rattle.round.proofs.Once.{completed_once}
use Rattle.tables.specs.declared.Tables.{Tables}
use Rattle.tables.specs.Tables.{routine_in, state_of, state_in}
use Rattle.numbers.proofs.Lists.{below_read}
use Rattle.passing.specs.Effects.{Marks}
use Rattle.opening.specs.Games.{HoldsGame, game_of}
use Rattle.opening.proofs.Opened.{all_routines, few_routines_lem}
use Rattle.playing.specs.Playing.{PassesDone, answered}
use Rattle.playing.proofs.Marking.{marks_front}

module _
    (book : List ℕ) (g : Game) (a : Accepted book) (f : Fits book g) {t : Tables} {passes : ℕ} {before after : List ℤ}
    (d : PassesDone book g t passes before after)
  where
    abbrev held : State
    held = state_in (at_start g).game t d.given d.eoi

    held_fits : Fits book held.game
    held_fits = rw d.holds (round_fits book a g f)

    held_routine : (i : ℕ) → i < most_routines → routine_at held.game i ≡ routine_in t.flags t.fields i
    unfolding state_of
    held_routine i h = below_read most_routines (routine_in t.flags t.fields) i blank h

    -- a routine of the game
    module _ (i : ℕ) (h : i < g.counts.routines) where
      of_book : i < routines_of book
      of_book = rw (all_routines book g a f) at h

      of_tables : i < most_routines
      of_tables = omega (arith, h, few_routines_lem book g a f)

      few_places : step_count book i < half_limit
      few_places = omega (arith, routine_within book a i of_book, a.laid.counts.few_steps)

    pub holds_game : HoldsGame g.counts.routines g.routines t
    unfolding state_of
    holds_game =
        record {
          fields_long = d.fields_long;
          few = few_routines_lem book g a f;
          stages =
              λ i h. let k = rw (held_routine i (of_tables i h)) at (held_fits.stages_in_range i (of_book i h)) in omega (arith, k);
          places =
              λ i h.
              let k = rw (held_routine i (of_tables i h)) at (held_fits.places_in_range i (of_book i h)) in
              omega (arith, k, few_places i h);
          beyond =
              λ i l h.
              let k = rw (all_routines book g a f) at l in
              sym (held_routine i h) ∙ held_fits.routines_beyond i k h ∙ sym (f.routines_beyond i k h);
          short = held_fits.lengths_in_range.1;
          entries = λ i h. omega (arith, held_fits.entries_in_range.1 i h, a.laid.counts.few_routines);
          entries_beyond = held_fits.entries_beyond.1;
        }

    game_held :
        (order : Line) → order ≡ (at_start g).game.listed →
        game_of g.counts order t ≡ (round book g).played.state.game
    unfolding state_of at_start
    game_held order e = rw e (ap (λ (s : State). s.game) d.holds)

    lost_held : t.tally.lost ≡ (round book g).played.state.lost
    unfolding state_of
    lost_held = ap (λ (s : State). s.lost) d.holds

    -- the answer of the round
    pub finished :
        (order : Line) (v : Verdict) (next : Game) → order ≡ (at_start g).game.listed → v ≡ accepted →
        next ≡ game_of g.counts order t → space_for book ≤ length before →
        answered (record { verdict = v; game = next; passes = passes; marks = t.tally.marks; lost = t.tally.lost }) after
        ≡ played_out accepted (round book g) before
    finished order v next listed right is space =
        let marks = marks_in (trace_of book g) in
        let m = d.marked ∙ marks_front marks before (omega (arith, space, (completed_once book a g f).space)) in
        let count : t.tally.marks ≡ length marks = ap (λ (k : Marks). k.count) m in
        rw (right, is, game_held order listed, d.passed, ap (λ (k : Marks). k.buffer) m, count, lost_held)
