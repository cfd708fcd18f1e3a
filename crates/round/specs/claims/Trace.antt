-- The trace of a round agrees with the round. Carried out again in order, the completed steps lead each routine that plays from where it
-- stood to where its last turn ends, so none is left out, and the step there says how it is left; they give the counters and numbers at the
-- round's end, and of the other routines there are no events. There are as many signals as signal steps, as many marks as mark steps, an
-- end for each routine that ended, and as many misses as turns that ended because their thing was missing; which signal or mark a step
-- gives is not said here. A try is of what its step asks for, and finds it exactly if that was there from the
-- start or came before; a step of op 8, 10 or 12 is completed only by finding what it asks for.
use Rattle.std.specs.Prelude.{ℕ, ◌+◌, ◌-◌, ◌<◌, ◌≡◌, Bool, true, false, List, [], ◌∷◌, ◌++◌, ◌⊎◌, ◌↔◌, eqb, length, Some, Option, None}
use Rattle.numbers.specs.Counting.{how_many, Somewhere, Among}
use Rattle.kinds.specs.declared.Kind.{Kind}
use Rattle.kinds.specs.declared.Kind.TheVariants as kind
use Rattle.forms.specs.Timed.{Timed}
use Rattle.layout.specs.Layout.{routines_of}
use Rattle.directory.specs.Directory.{step_count, routine_step}
use Rattle.game.specs.declared.Routine.{Routine}
use Rattle.game.specs.declared.Game.{Game}
use Rattle.game.specs.Game.{routine_at}
use Rattle.game.specs.Game as stage
use Rattle.round.specs.declared.Ending.{Ending}
use Rattle.round.specs.declared.Ending.TheVariants.{Ended, Rested, Missed, Continued}
use Rattle.round.specs.declared.Position.{Position}
use Rattle.round.specs.State.{Thing, signal, end, number, Event, gave, ended, missing, past, marked, completed, is_there}
use Rattle.round.specs.Actions.{kept, position_of, at_start}
use Rattle.round.specs.Ticks.{fresh, begun_at, count_at}
use Rattle.round.specs.Rounds.{listed_in, round, trace_of, state_after}
use Rattle.round.specs.claims.Demand.{is_signal_step, gives_signal, ends_routine, AsksFor, Comes}
use Rattle.round.specs.Answers.{marks_in}
use Rattle.round.specs.claims.Completed.{completes, is_mark_step}
use Rattle.round.specs.claims.Replay.{contents_after, position_after}

-- a try finds its thing missing
abbrev pub is_miss : Event → Bool
is_miss (gave e k) = false
is_miss (ended r) = false
is_miss (missing r p t) = true
is_miss (past r p t) = false
is_miss (marked r n) = false
is_miss (completed r p) = false

-- a turn ended because its thing was missing: to rest, or to be continued; that no turn is continued because its steps ran out is
-- Enough.antt's claim
abbrev pub found_missing : Option Ending → Bool
found_missing None = false
found_missing (Some Ended) = false
found_missing (Some Rested) = false
found_missing (Some Missed) = true
found_missing (Some Continued) = true

-- what happened is of routine r; of a signal that is given the trace does not say whose it is
abbrev pub is_of : ℕ → Event → Bool
is_of r (gave e k) = false
is_of r (ended q) = eqb q r
is_of r (missing q p t) = eqb q r
is_of r (past q p t) = eqb q r
is_of r (marked q n) = eqb q r
is_of r (completed q p) = eqb q r

-- a routine rests at position z
abbrev pub RestsAt : Routine → Position → Type 0
RestsAt y z = (y.stage ≡ stage.rested) × (position_of y ≡ z)

-- routine r, whose last turn has come to position x by these events
module _ (book : List ℕ) (r : ℕ) (x : Position) (events : List Event) where
  -- the step there is of this kind
  abbrev pub StandsOn : Kind → Type 0
  StandsOn k = routine_step book r x.place ≡ Some k

  -- thing t was missing there
  abbrev pub WasMissing : Thing → Type 0
  WasMissing t = Somewhere (λ h. h ≡ missing r x.place t) events

  -- and y, as that turn leaves it: a case for each way out of a routine's last turn in a round
  pub data LeftAt (y : Routine) : Type 0 where
    -- "Op 6, or a reading that stayed missing, leaves the place on the step that follows it in the book"
    rests : StandsOn kind.Rest → RestsAt y (fresh (x.place + 1)) → LeftAt y
    unread : {e c k : ℕ} → StandsOn (kind.Read e c k) → WasMissing (number e k) → RestsAt y (fresh (x.place + 1)) → LeftAt y
    -- "every other pause leaves it on its own step": a wait or a join
    misses :
        {i : ℕ} → (StandsOn (kind.Wait i) × WasMissing (signal i)) ⊎ (StandsOn (kind.Join i) × WasMissing (end i)) →
        RestsAt y (fresh x.place) → LeftAt y
    -- "Begun is set when op 7, 9 or 11 pauses": on its own step too, while some of its count is left, and with one less
    rests_for : {n : ℕ} → StandsOn (kind.RestFor n) → 0 < count_at x n → RestsAt y (begun_at x.place (count_at x n - 1)) → LeftAt y
    misses_for :
        {i n : ℕ} → (StandsOn (kind.WaitFor i n) × WasMissing (signal i)) ⊎ (StandsOn (kind.JoinFor i n) × WasMissing (end i)) →
        0 < count_at x n → RestsAt y (begun_at x.place (count_at x n - 1)) → LeftAt y
    -- "An ended routine's place is its step count."
    ends : x.place ≡ step_count book r → y.stage ≡ stage.ended → position_of y ≡ fresh (step_count book r) → LeftAt y

-- routine r plays in a round from game g; "Listed, suspended: once the eight actions are done."
abbrev pub Plays : Game → ℕ → Type 0
Plays g r = Among r (listed_in g) × ((routine_at (at_start g).game r).suspended ≡ false)

-- in a round from game g
pub record TraceAgrees (book : List ℕ) (g : Game) : Type 0 where
  -- as many signals as signal steps that are carried out
  pub signals : how_many gives_signal (trace_of book g) ≡ how_many (completes (is_signal_step book)) (trace_of book g)
  -- as many marks as mark steps
  pub marks : length (marks_in (trace_of book g)) ≡ how_many (completes (is_mark_step book)) (trace_of book g)
  -- an end for each listed routine that is in stage 3 in the game given back, and for no other
  pub ends :
      (r : ℕ) → Among r (listed_in g) →
      ((routine_at (state_after book g).game r).stage ≡ stage.ended) ↔ Somewhere (λ h. h ≡ ended r) (trace_of book g)
  pub endings :
      how_many ends_routine (trace_of book g)
      ≡ length (kept (λ r. eqb (routine_at (state_after book g).game r).stage stage.ended) (listed_in g))
  -- as many misses as turns that ended because their thing was missing
  pub misses : how_many is_miss (trace_of book g) ≡ how_many found_missing (round book g).played.turns
  -- what came is there at the round's end, and what is there then and was not at the start has come
  pub comes : (t : Thing) → Somewhere (Comes t) (trace_of book g) → is_there (state_after book g) t ≡ true
  pub came :
      (t : Thing) → is_there (at_start g) t ≡ false → is_there (state_after book g) t ≡ true →
      Somewhere (Comes t) (trace_of book g)
  -- "A try of op 8 to 12 finds its signal, the joined routine's end or the signal's k-th number": it is of what its step asks for
  pub asked :
      (r p : ℕ) (t : Thing) → Somewhere (λ h. (h ≡ missing r p t) ⊎ (h ≡ past r p t)) (trace_of book g) →
      AsksFor (routine_step book r p) t
  -- "finds the thing and completes the step": a step of op 8, 10 or 12 is completed only so; one of op 9 or 11 goes on with none left, too,
  -- which is Timed.antt's claim
  pub completed_by_finding :
      (before after : List Event) (r p : ℕ) (t : Thing) → trace_of book g ≡ before ++ (completed r p ∷ after) →
      AsksFor (routine_step book r p) t → ((n : ℕ) → Timed (routine_step book r p) n → ⊥) →
      (rest : List Event) × (after ≡ past r p t ∷ rest)
  -- for a try that goes past, its thing was there from the start or had come; for one that finds it missing, neither is so
  pub found :
      (before after : List Event) (r p : ℕ) (t : Thing) → trace_of book g ≡ before ++ (past r p t ∷ after) →
      (is_there (at_start g) t ≡ true) ⊎ Somewhere (Comes t) before
  pub not_found :
      (before after : List Event) (r p : ℕ) (t : Thing) → trace_of book g ≡ before ++ (missing r p t ∷ after) →
      (is_there (at_start g) t ≡ false) × (Somewhere (Comes t) before → ⊥)
  -- a step is completed, or its thing is found missing, where its routine stands by the events before;
  pub stood :
      (before after : List Event) (h : Event) (r p : ℕ) → trace_of book g ≡ before ++ (h ∷ after) →
      (h ≡ completed r p) ⊎ ((t : Thing) × (h ≡ missing r p t)) →
      (position_after book r before (g.counters, []) (position_of (routine_at g r))).place ≡ p
  -- and where a routine that plays stands by the whole trace, there its last turn leaves it: with both, no step is left out
  pub left_at :
      (r : ℕ) → Plays g r →
      LeftAt book r (position_after book r (trace_of book g) (g.counters, []) (position_of (routine_at g r))) (trace_of book g)
      (routine_at (state_after book g).game r)
  -- of a routine that doesn't play there are no events, and it stays where it is
  pub no_events :
      (r : ℕ) → r < routines_of book → (Plays g r → ⊥) →
      (how_many (is_of r) (trace_of book g) ≡ 0)
      × (position_of (routine_at (state_after book g).game r) ≡ position_of (routine_at g r))
  -- the completed steps, carried out on the counters before the round with no number given yet, give those at its end
  pub contents :
      let last = state_after book g in
      (last.game.counters, last.numbers) ≡ contents_after book (trace_of book g) (g.counters, [])
