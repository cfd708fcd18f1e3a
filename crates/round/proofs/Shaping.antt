-- A turn's steps that are enough have a last one that halts the turn, and the others went on. The events of the last one depend on how it
-- halts the turn, by the table of Acts.antt.
use Prim.Native.Nat.{ℕ}
use mathlib.Core.Path.{◌≡◌, refl}
use mathlib.Core.Bool.{true, false}
use mathlib.Core.List.{List, [], ◌∷◌, ◌++◌, append_assoc}
use Rattle.std.specs.Prelude.{Some}
use Rattle.numbers.specs.Counting.{how_many}
use Rattle.numbers.proofs.Tests.{clash}
use Rattle.kinds.specs.declared.Counts.{Counts}
use Rattle.kinds.specs.Steps.{step_at}
use Rattle.round.specs.declared.Ending.{Ending}
use Rattle.round.specs.declared.Ending.TheVariants.{Continued}
use Rattle.round.specs.declared.Position.{Position}
use Rattle.round.specs.State.{State, Thing, Event, missing, completed, is_there}
use Rattle.round.specs.Rounds.{Ticks, ticks, is_done}
use Rattle.round.specs.claims.Enough.{InTime}
use Rattle.round.specs.claims.Demand.{ends_routine}
use Rattle.round.specs.claims.Trace.{is_miss}
use Rattle.round.proofs.Traces.{none_of_both, says_none}
use Rattle.round.proofs.Acts.{Asks}
use Rattle.round.proofs.Acts.{Stops, ends, rests, misses, continues}
use Rattle.round.proofs.Stepping.{ticks_in_time}

-- a turn's steps: some that went on, and a last one that halts the turn
pub record Shape (counts : Counts) (r : ℕ) (steps : List ℕ) (t : Ticks) : Type 0 where
  -- the events of those that went on: no try among them found its thing missing, and no routine ended
  pub before : List Event
  pub no_miss : how_many is_miss before ≡ 0
  pub no_end : how_many ends_routine before ≡ 0
  -- where the last one stands, and its events
  pub last : Position
  pub last_events : List Event
  pub stops : Stops counts r steps last t.state t.ending t.position last_events
  pub trace : t.trace ≡ before ++ last_events

module _ (counts : Counts) (r : ℕ) (steps : List ℕ) where
  -- a last step whose turn is to be continued asks for a thing that is missing, and leaves its routine where it stands
  pub stops_continued :
      {x : Position} {s : State} {how : Ending} {y : Position} {events : List Event} → Stops counts r steps x s how y events →
      is_done (Some how) ≡ false →
      (t : Thing) × Asks x (step_at counts steps x.place) t × (is_there s t ≡ false) × (s.eoi ≡ false) × (how ≡ Continued) × (y ≡ x) ×
      (events ≡ missing r x.place t ∷ [])
  stops_continued ends d = clash refl d
  stops_continued rests d = clash refl d
  stops_continued (misses a m c) d = clash refl d
  stops_continued (continues {t} a m c) d = (t, a, m, c, refl, refl, refl)

  -- any other finds nothing missing, but where the round is being closed
  pub stops_calm :
      {x : Position} {s : State} {how : Ending} {y : Position} {events : List Event} → Stops counts r steps x s how y events →
      is_done (Some how) ≡ true → s.eoi ≡ false → how_many is_miss events ≡ 0
  unfolding how_many
  stops_calm ends d e = refl
  stops_calm rests d e = refl
  stops_calm (misses a m c) d e = clash c e
  stops_calm (continues a m c) d e = clash d refl

  pub shaped : (n : ℕ) (x : Position) (s : State) → InTime n counts r steps x s → Shape counts r steps (ticks n counts r steps x s)
  unfolding how_many
  shaped =
      ticks_in_time counts r steps (λ x s t. Shape counts r steps t)
      (λ x s q e events t same leaves right says others.
      let no_miss = says_none is_miss (λ n. refl) (λ a k. refl) (λ a. refl) says in
      let no_end = says_none ends_routine (λ n. refl) (λ a k. refl) (λ a. refl) says in
      record {
        before = completed r x.place ∷ events ++ others.before;
        no_miss = none_of_both is_miss events others.before no_miss others.no_miss;
        no_end = none_of_both ends_routine events others.before no_end others.no_end;
        last = others.last;
        last_events = others.last_events;
        stops = others.stops;
        trace = rw (others.trace, append_assoc);
      })
      (λ x s how y events same stays stops.
      record { before = []; no_miss = refl; no_end = refl; last = x; last_events = events; stops = stops; trace = refl })
