-- How a turn that is taken comes out: its last step says why it ended and where its routine stands behind it. Where it is to be continued,
-- that step found its thing missing; where it is not, no step found anything missing, unless the round is being closed.
use Prim.Native.Nat.{ℕ, ◌<◌}
use mathlib.Core.Path.{◌≡◌, sym, ap, ◌∙◌}
use mathlib.Core.Bool.{true, false, not}
use mathlib.Core.List.{List, [], ◌∷◌, ◌++◌}
use borrow.Author.Tests.{not-true, not-false}
use Rattle.std.specs.Prelude.{Some}
use Rattle.numbers.specs.Counting.{how_many}
use Rattle.layout.specs.Layout.{routines_of, counts_of}
use Rattle.directory.specs.Directory.{routine_steps}
use Rattle.book.specs.Accepted.{Accepted}
use Rattle.game.specs.Game.{routine_at}
use Rattle.round.specs.declared.Ending.{Ending}
use Rattle.round.specs.State.{State}
use Rattle.round.specs.Actions.{position_of}
use Rattle.round.specs.Rounds.{Ticks, most_ticks, after_turn, is_done, ticks_of, turn}
use Rattle.round.specs.claims.Trace.{is_miss}
use Rattle.round.proofs.Traces.{none_of_both}
use Rattle.round.proofs.Effects.{Untouched}
use Rattle.round.proofs.TurnLaws.{is_going, waits_at, ToBeContinued}
use Rattle.round.proofs.Shaping.{Shape, stops_continued, stops_calm, shaped}
use Rattle.round.proofs.Lasting.{routine_in_time}
use Rattle.round.proofs.Coming.{turn_untouched}
use Rattle.round.proofs.AfterTurn.{turn_taken, position_after_lem, after_going, after_missing}

module _ (book : List ℕ) (a : Accepted book) where
  pub turn_shape : (r : ℕ) (s : State) → r < routines_of book → Shape (counts_of book) r (routine_steps book r) (ticks_of book r s)
  turn_shape r s l =
      let x = position_of (routine_at s.game r) in
      let steps = routine_steps book r in
      shaped (counts_of book) r steps (most_ticks steps) x s (routine_in_time book a r l x s)

  module _ (r : ℕ) (s : State) (l : r < routines_of book) (going : is_going s r ≡ true) where
    abbrev steps : List ℕ
    steps = routine_steps book r

    abbrev all : Ticks
    all = ticks_of book r s

    shape : Shape (counts_of book) r steps all
    shape = turn_shape r s l

    untouched : Untouched s all.state
    untouched = turn_untouched book r s

    out : is_going (after_turn r all) r ≡ not (is_done (Some all.ending))
    out = after_going r s all (untouched.standings r) going

    pub turn_out :
        (h : Ending) × ((turn book r s).turns ≡ Some h ∷ []) × (is_going (turn book r s).state r ≡ not (is_done (Some h)))
    turn_out = let e = turn_taken book r s going in (all.ending, ap (λ p. p.turns) e, ap (λ p. is_going p.state r) e ∙ out)

    pub turn_continues :
        is_going (turn book r s).state r ≡ true →
        (s.eoi ≡ false) × ToBeContinued book r (turn book r s).state (turn book r s).trace
    turn_continues =
        rw (turn_taken book r s going) (λ h.
        let stop = stops_continued (counts_of book) r steps shape.stops (not-true _ (sym out ∙ h)) in
        let (thing, asks, missed, unclosed, how, position, events) = stop in
        let there = position_after_lem r s all (untouched.standings r) going ∙ position in (
          sym untouched.eoi ∙ unclosed,
          record {
            halt =
                record {
                  place = shape.last.place;
                  thing = thing;
                  waits = waits_at book (after_turn r all) r there asks;
                  missed = after_missing r s all (untouched.standings r) going how thing missed;
                };
            before = shape.before;
            trace = shape.trace ∙ ap (λ l. shape.before ++ l) events;
            calm = shape.no_miss;
          },
        ))

    pub turn_calm : is_going (turn book r s).state r ≡ false → s.eoi ≡ false → how_many is_miss (turn book r s).trace ≡ 0
    turn_calm =
        rw (turn_taken book r s going) (λ h e.
        let last = stops_calm (counts_of book) r steps shape.stops (not-false _ (sym out ∙ h)) (untouched.eoi ∙ e) in
        ap (how_many is_miss) shape.trace ∙ none_of_both is_miss shape.before shape.last_events shape.no_miss last)
