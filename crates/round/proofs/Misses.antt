-- A round's trace has a miss for each turn that ended because its thing was missing, and no other. The steps of a turn that went on
-- have none, and the last one has one exactly where it halts the turn for that reason; then turn by turn and pass by pass.
use Prim.Native.Nat.{ℕ, ◌<◌}
use mathlib.Core.Path.{◌≡◌, refl, ap, ◌∙◌}
use mathlib.Core.List.{List, [], ◌∷◌}
use native.Mathlib.Omega.{arith}
use Rattle.std.specs.Prelude.{Some}
use Rattle.numbers.specs.Counting.{how_many}
use Rattle.kinds.specs.declared.Counts.{Counts}
use Rattle.layout.specs.Layout.{routines_of}
use Rattle.book.specs.Accepted.{Accepted}
use Rattle.game.specs.declared.Game.{Game}
use Rattle.fitting.specs.Fits.{Fits}
use Rattle.round.specs.declared.Ending.{Ending}
use Rattle.round.specs.declared.Position.{Position}
use Rattle.round.specs.State.{State, Event}
use Rattle.round.specs.Actions.{at_start}
use Rattle.round.specs.Rounds.{PlayedTurns, followed_by, most_passes, listed_in, turn, round, trace_of}
use Rattle.round.specs.claims.Trace.{is_miss, found_missing}
use Rattle.round.proofs.Acts.{Stops, ends, rests, misses, continues}
use Rattle.round.proofs.Along.{instant_by}
use Rattle.round.proofs.StartSound.{listed_below, at_start_sound}
use Rattle.round.proofs.Traces.{many_append}
use Rattle.round.proofs.AfterTurn.{turn_by}
use Rattle.round.proofs.Outcomes.{turn_shape}

-- some turns and their trace
abbrev MissesAgree : PlayedTurns → Type 0
MissesAgree p = how_many is_miss p.trace ≡ how_many found_missing p.turns

misses_both : (a b : PlayedTurns) → MissesAgree a → MissesAgree b → MissesAgree (followed_by a b)
misses_both a b h k = omega (arith, many_append is_miss a.trace b.trace, many_append found_missing a.turns b.turns)

-- the events of the last step of a turn
stops_miss :
    {counts : Counts} {r : ℕ} {steps : List ℕ} {x : Position} {s : State} {how : Ending} {y : Position} {events : List Event} →
    Stops counts r steps x s how y events → how_many is_miss events ≡ how_many found_missing (Some how ∷ [])
unfolding how_many
stops_miss ends = refl
stops_miss rests = refl
stops_miss (misses a m c) = refl
stops_miss (continues a m c) = refl

module _ (book : List ℕ) (a : Accepted book) where
  turn_misses : (r : ℕ) (s : State) → r < routines_of book → MissesAgree (turn book r s)
  unfolding how_many
  turn_misses r s l =
      let shape = turn_shape book a r s l in
      let events = ap (how_many is_miss) shape.trace ∙ many_append is_miss shape.before shape.last_events in
      turn_by book r s MissesAgree (λ h. refl) (λ h. omega (arith, shape.no_miss, stops_miss shape.stops))

  pub misses_agree :
      (g : Game) → Fits book g → how_many is_miss (trace_of book g) ≡ how_many found_missing (round book g).played.turns
  unfolding round how_many
  misses_agree g f =
      instant_by (λ s p. MissesAgree p) (λ s. refl) (λ s. misses_both) book (λ r. r < routines_of book) turn_misses (λ s p h. h) most_passes
      (listed_in g) (listed_below (at_start_sound book g a f)) (at_start g)
