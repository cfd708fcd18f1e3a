-- What a turn does to the things, to the flags, and to where routines stand, by what its steps do and how the last of them halts it. Its
-- routine is continuing, so before the turn its end is there by its end signal at most; a turn that ends it has that as its last event, and
-- then its end is there.
use Prim.Native.Nat.{ℕ, ◌<◌}
use mathlib.Core.Path.{◌≡◌, refl, sym, subst, ◌∙◌, ap}
use mathlib.Core.Bool.{true, false, or-true}
use mathlib.Core.List.{List, [], ◌∷◌, ◌++◌}
use mathlib.Core.Logic.{◌≢◌, inl, inr}
use native.Mathlib.Omega.{arith}
use native.Mathlib.Decide.{ℕ_discrete}
use lib.ListN.{length}
use lib.Seq.{get_or-set_same, get_or-set_other}
use Rattle.numbers.specs.Counting.{how_many, Somewhere}
use Rattle.numbers.proofs.Tests.{clash, by_flag}
use Rattle.kinds.specs.declared.Counts.{Counts}
use Rattle.layout.specs.Layout.{most_signals, routines_of, counts_of}
use Rattle.directory.specs.Directory.{routine_steps}
use Rattle.book.specs.Accepted.{Accepted}
use Rattle.game.specs.Game.{continuing, blank, routine_at, with_routine}
use Rattle.orders.proofs.Stores.{same_set}
use Rattle.round.specs.declared.Ending.{Ending}
use Rattle.round.specs.declared.Ending.TheVariants.{Ended, Rested, Missed, Continued}
use Rattle.round.specs.declared.Position.{Position}
use Rattle.round.specs.State.{State, with_game, Thing, signal, end, number, Event, ended, counts_as_ended, is_end_there, is_there}
use Rattle.round.specs.Rounds.{Ticks, stage_after, behind_turn, after_turn, ticks_of, turn}
use Rattle.round.specs.claims.Demand.{ends_routine, Comes}
use Rattle.round.specs.claims.Sound.{Sound}
use Rattle.round.proofs.Acts.{Stops}
use Rattle.round.proofs.Coming.{Carries, all_brought, turn_untouched, ticks_carry}
use Rattle.round.proofs.Effects.{Untouched}
use Rattle.round.proofs.Among.{somewhere_append, in_second}
use Rattle.round.proofs.Traces.{many_append, none_of_both, no_event, end_ends}
use Rattle.round.proofs.Standings.{SameStanding, same_standing, StillThere}
use Rattle.round.proofs.AfterTurn.{going_parts, turn_by, there_behind}
use Rattle.round.proofs.Shaping.{Shape}
use Rattle.round.proofs.TurnLaws.{moves, OthersStand, passed_same, Turned}
use Rattle.round.proofs.Outcomes.{turn_shape}

passed_over_lem : {r : ℕ} {s : State} → Turned r s [] s
passed_over_lem {s = s} =
    record {
      standings = record { listed = refl; suspended = λ q. refl; others = λ q n. same_standing };
      flags = passed_same s;
      keeps = λ t h. h;
      brings = λ t k. absurd k;
      came = λ t h k. clash k h;
    }

end_of : {q r : ℕ} → Comes (end q) (ended r) → q ≡ r
end_of Comes.routine_ended = refl

-- a turn of routine r, which is continuing, with these steps
module _
    (r : ℕ) (s : State) (steps : Ticks) (a : Untouched s steps.state) (c : Carries s steps.trace steps.state)
    (signals : length s.present ≡ most_signals) (goes : (routine_at s.game r).stage ≡ continuing)
  where
    abbrev u : State
    u = steps.state

    abbrev events : List Event
    events = steps.trace

    -- the state behind a turn that ends so
    abbrev behind : Ending → Position → State
    behind how y = after_turn r (record { ending = how; position = y; state = u; trace = events })

    standings_behind :
        (how : Ending) (y : Position) → OthersStand r s.game (with_routine u.game r (behind_turn (routine_at u.game r) how y))
    standings_behind how y =
        record {
          listed = a.listed;
          suspended = λ q. same_set (λ x. x.suspended) u.game.routines r _ blank refl q ∙ (a.standings q).suspended;
          others =
              λ q n.
              let e = get_or-set_other u.game.routines r q (behind_turn (routine_at u.game r) how y) blank n in
              subst (λ x. SameStanding x (routine_at s.game q)) (sym e) (a.standings q);
        }

    -- a turn that does not end the routine
    module _ (how : Ending) (y : Position) (other : counts_as_ended (stage_after how) ≡ false) (no_end : how_many ends_routine events ≡ 0) where
      abbrev after : State
      after = with_game u (with_routine u.game r (behind_turn (routine_at u.game r) how y))

      same_there : (t : Thing) → is_there after t ≡ is_there u t
      same_there = there_behind u r how y (other ∙ sym (ap counts_as_ended ((a.standings r).stage ∙ goes)))

      resting_turned : Turned r s events after
      resting_turned =
          record {
            standings = standings_behind how y;
            flags =
                record {
                  eoi = a.eoi;
                  unmoved = λ h. c.unmoved (omega arith);
                  moved = λ h. c.moved (omega arith);
                };
            keeps = λ t h. same_there t ∙ c.keeps t h;
            brings = λ t k. same_there t ∙ all_brought c signals no_end t k;
            came = λ t h k. c.came t h (sym (same_there t) ∙ k);
          }

    -- a turn that ends it
    module _
        (y : Position) (before : List Event) (no_end : how_many ends_routine before ≡ 0) (trace : events ≡ before ++ (ended r ∷ []))
        (below : r < length s.end_signals)
      where
        abbrev last : State
        last = behind Ended y

        end_there : is_there last (end r) ≡ true
        unfolding is_there is_end_there
        end_there =
            let here : r < length u.end_signals = rw a.end_signals below in
            rw (get_or-set_same u.end_signals r true false here, or-true)

        others_there : (q : ℕ) → q ≢ r → is_there last (end q) ≡ is_there u (end q)
        unfolding is_there is_end_there
        others_there q n =
            rw (get_or-set_other u.end_signals r q true false n, get_or-set_other u.game.routines r q _ blank n)

        stays : StillThere u last
        unfolding is_there
        stays (signal e) h = h
        stays (end q) h = elim (ℕ_discrete q r) [ yes e ↦ rw e end_there | no n ↦ others_there q n ∙ h ]
        stays (number e k) h = h

        brought : (t : Thing) → Somewhere (Comes t) events → is_there last t ≡ true
        brought (signal e) k = stays (signal e) (c.brings signals (signal e) refl k)
        brought (end q) k = elim (somewhere_append (Comes (end q)) before (ended r ∷ []) (subst (Somewhere (Comes (end q))) trace k)) [
          | inl m ↦ absurd (no_event ends_routine (Comes (end q)) end_ends before no_end m)
          | inr (inl m) ↦ rw (end_of m) end_there
          | inr (inr m) ↦ elim m [ ]
        ]
        brought (number e n) k = stays (number e n) (c.brings signals (number e n) refl k)

        -- the routine's end alone is new behind the steps
        new : (t : Thing) → is_there u t ≡ false → is_there last t ≡ true → Somewhere (Comes t) events
        unfolding is_there
        new (signal e) h k = clash k h
        new (end q) h k =
            elim (ℕ_discrete q r) [
              | yes e ↦ rw (e, trace) (in_second (Comes (end r)) before (ended r ∷ []) (inl Comes.routine_ended))
              | no n ↦ clash k (others_there q n ∙ h)
            ]
        new (number e i) h k = clash k h

        some_move : 0 < moves events
        unfolding how_many
        some_move = rw trace (omega (arith, many_append ends_routine before (ended r ∷ [])))

        ending_turned : Turned r s events last
        ending_turned =
            record {
              standings = standings_behind Ended y;
              flags = record { eoi = a.eoi; unmoved = λ h. absurd (omega (arith, some_move)); moved = λ h. refl };
              keeps = λ t h. stays t (c.keeps t h);
              brings = brought;
              came = λ t h k. by_flag (is_there u t) (c.came t h) (λ e. new t e k);
            }

    -- by how the turn's last step halts it
    turned :
        {counts : Counts} {part : List ℕ} → Shape counts r part steps → r < length s.end_signals → Turned r s events (after_turn r steps)
    unfolding how_many
    turned {counts} {part} shape below =
        by_stop steps.ending steps.position shape.last_events shape.stops shape.trace
      where
        none_ends : (final : List Event) → events ≡ shape.before ++ final → how_many ends_routine final ≡ 0 → how_many ends_routine events ≡ 0
        none_ends final trace none = rw trace (none_of_both ends_routine shape.before final shape.no_end none)

        by_stop :
            (how : Ending) (y : Position) (final : List Event) → Stops counts r part shape.last u how y final →
            events ≡ shape.before ++ final → Turned r s events (behind how y)
        by_stop how y final Stops.ends trace = ending_turned y shape.before shape.no_end trace below
        by_stop how y final Stops.rests trace = resting_turned Rested y refl (none_ends final trace refl)
        by_stop how y final (Stops.misses asks m e) trace = resting_turned Missed y refl (none_ends final trace refl)
        by_stop how y final (Stops.continues asks m e) trace = resting_turned Continued y refl (none_ends final trace refl)

-- a turn is passed over, and then nothing changes, or taken
module _ (book : List ℕ) (a : Accepted book) where
  pub turn_turned : (r : ℕ) (s : State) → r < routines_of book → Sound book s → Turned r s (turn book r s).trace (turn book r s).state
  turn_turned r s l ok =
      let x = routine_at s.game r in
      let few = a.laid.counts.few_routines in
      let below : r < length s.end_signals = rw ok.end_signals (omega arith) in
      turn_by book r s (λ p. Turned r s p.trace p.state) (λ h. passed_over_lem)
      (λ h.
      turned r s (ticks_of book r s) (turn_untouched book r s)
      (ticks_carry (counts_of book) r (routine_steps book r) a.laid.counts.few_signals _ _ s) ok.present
      (going_parts x.suspended x.stage h).1 (turn_shape book a r s l) below)
