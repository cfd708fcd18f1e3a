-- What the theory of passes asks of a turn: the laws from which the bound on the passes, the end of every routine's waiting and the
-- catching up follow. They hold for the listed routines, in the states that keep what a round keeps; a turn's effect on the state is one of
-- them (Turned).
use Prim.Native.Nat.{ℕ, ◌+◌, ◌<◌}
use mathlib.Core.Path.{◌≡◌, refl, sym, ap, subst}
use mathlib.Core.Bool.{Bool, true, false, ◌||◌, not}
use mathlib.Core.List.{List, [], ◌∷◌, ◌++◌}
use mathlib.Core.Logic.{◌≢◌}
use native.Mathlib.Omega.{arith}
use lib.Dec.{eqb}
use Rattle.std.specs.Prelude.{Some}
use Rattle.numbers.specs.Counting.{how_many, Somewhere}
use Rattle.kinds.specs.Steps.{step_at}
use Rattle.layout.specs.Layout.{counts_of}
use Rattle.directory.specs.Directory.{routine_steps}
use Rattle.game.specs.declared.Routine.{Routine}
use Rattle.game.specs.declared.Game.{Game}
use Rattle.game.specs.Game.{continuing, routine_at}
use Rattle.round.specs.declared.Ending.{Ending}
use Rattle.round.specs.declared.Ending.TheVariants.{Continued}
use Rattle.round.specs.declared.Position.{Position}
use Rattle.round.specs.State.{State, Thing, Event, missing, is_there}
use Rattle.round.specs.Actions.{position_of}
use Rattle.round.specs.Rounds.{not_taken, is_done, for_next_pass, turn}
use Rattle.round.specs.claims.Demand.{gives_signal, ends_routine, Comes, IsPast}
use Rattle.round.specs.claims.Trace.{is_miss}
use Rattle.round.proofs.Acts.{Asks}
use Rattle.round.proofs.Standings.{SameStanding, StillThere}

-- routine r takes a turn in this state (rule 34), and is not passed over (rule 33)
abbrev pub takes_turn : Routine → Bool
takes_turn x = not (x.suspended || not (eqb x.stage continuing))

abbrev pub is_going : State → ℕ → Bool
is_going s r = takes_turn (routine_at s.game r)

-- what sets the flag: signals given by steps, and routines ended
abbrev pub moves : List Event → ℕ
moves events = how_many gives_signal events + how_many ends_routine events

-- a game in which routine r alone may stand elsewhere, and none is suspended or resumed, or joins the playing order or leaves it
pub record OthersStand (r : ℕ) (g h : Game) : Type 0 where
  pub listed : h.listed ≡ g.listed
  pub suspended : (q : ℕ) → (routine_at h q).suspended ≡ (routine_at g q).suspended
  pub others : (q : ℕ) → q ≢ r → SameStanding (routine_at h q) (routine_at g q)

-- the flags from one state to another, with these events between them
pub record Passed (s : State) (events : List Event) (u : State) : Type 0 where
  pub eoi : u.eoi ≡ s.eoi
  pub unmoved : moves events ≡ 0 → u.moved ≡ s.moved
  pub moved : 0 < moves events → u.moved ≡ true

pub passed_same : (s : State) → Passed s [] s
unfolding how_many
passed_same s = record { eoi = refl; unmoved = λ m. refl; moved = λ m. absurd (omega arith) }

-- what a turn of routine r in state s does, which has these events and leaves state v
pub record Turned (r : ℕ) (s : State) (events : List Event) (v : State) : Type 0 where
  pub standings : OthersStand r s.game v.game
  pub flags : Passed s events v
  pub keeps : StillThere s v
  pub brings : (t : Thing) → Somewhere (Comes t) events → is_there v t ≡ true
  pub came : (t : Thing) → is_there s t ≡ false → is_there v t ≡ true → Somewhere (Comes t) events

-- the other routines take turns as before
pub others_going :
    {r : ℕ} {s v : State} {events : List Event} → Turned r s events v → (q : ℕ) → q ≢ r → is_going v q ≡ is_going s q
others_going turned q n = let same = turned.standings.others q n in rw (same.suspended, same.stage)

module _ (book : List ℕ) where
  -- routine r stands at a step, at place p, that asks for thing t
  pub record Waits (s : State) (r p : ℕ) (t : Thing) : Type 0 where
    pub place : (routine_at s.game r).place ≡ p
    pub asks : Asks (position_of (routine_at s.game r)) (step_at (counts_of book) (routine_steps book r) (routine_at s.game r).place) t

  pub waits_at :
      (s : State) (r : ℕ) {x : Position} {t : Thing} → position_of (routine_at s.game r) ≡ x →
      Asks x (step_at (counts_of book) (routine_steps book r) x.place) t → Waits s r x.place t
  waits_at s r {t = t} here asks =
      record {
        place = ap (λ (x : Position). x.place) here;
        asks = subst (λ (x : Position). Asks x (step_at (counts_of book) (routine_steps book r) x.place) t) (sym here) asks;
      }

  -- it does so by its position alone
  pub waits_too :
      (r p : ℕ) (t : Thing) (u v : State) → position_of (routine_at v.game r) ≡ position_of (routine_at u.game r) → Waits u r p t →
      Waits v r p t
  waits_too r p t u v same waits = rw waits.place at (waits_at v r same waits.asks)

  -- it waits for a thing that is not there
  pub record WaitsForMissing (s : State) (r : ℕ) : Type 0 where
    pub place : ℕ
    pub thing : Thing
    pub waits : Waits s r place thing
    pub missed : is_there s thing ≡ false

  -- a turn that is to be continued: it ends at a step whose thing is missing, and everything before went on
  pub record ToBeContinued (r : ℕ) (u : State) (events : List Event) : Type 0 where
    pub halt : WaitsForMissing u r
    pub before : List Event
    pub trace : events ≡ before ++ (missing r halt.place halt.thing ∷ [])
    pub calm : how_many is_miss before ≡ 0

  pub record TurnLaws (Listed : ℕ → Type 0) (Ok : State → Type 0) : Type 0 where
    -- what a state keeps in a round
    pub stays : (r : ℕ) (s : State) → Listed r → Ok s → Ok (turn book r s).state
    pub stays_next_pass : (s : State) → Ok s → Ok (for_next_pass s)
    -- what a turn does to the things, to the flags and to where routines stand
    pub turned : (r : ℕ) (s : State) → Listed r → Ok s → Turned r s (turn book r s).trace (turn book r s).state
    -- how a turn comes out
    pub over : (r : ℕ) (s : State) → Listed r → Ok s → is_going s r ≡ false → turn book r s ≡ not_taken s
    pub out :
        (r : ℕ) (s : State) → Listed r → Ok s → is_going s r ≡ true →
        (h : Ending) × ((turn book r s).turns ≡ Some h ∷ []) × (is_going (turn book r s).state r ≡ not (is_done (Some h)))
    -- a turn that is to be continued ends by a missing thing, and there is none once the round is being closed
    pub continues :
        (r : ℕ) (s : State) → Listed r → Ok s → is_going s r ≡ true → is_going (turn book r s).state r ≡ true →
        (s.eoi ≡ false) × ToBeContinued r (turn book r s).state (turn book r s).trace
    pub calm :
        (r : ℕ) (s : State) → Listed r → Ok s → is_going s r ≡ true → is_going (turn book r s).state r ≡ false → s.eoi ≡ false →
        how_many is_miss (turn book r s).trace ≡ 0
    -- a try again: with nothing come it finds its thing missing, and otherwise it goes past
    pub misses_again :
        (r p : ℕ) (t : Thing) (s : State) → Listed r → Ok s → is_going s r ≡ true → Waits s r p t → is_there s t ≡ false →
        (turn book r s).trace ≡ missing r p t ∷ []
    pub unchanged :
        (r p : ℕ) (t : Thing) (s : State) → Listed r → Ok s → is_going s r ≡ true → Waits s r p t → is_there s t ≡ false → s.eoi ≡ false →
        turn book r s ≡ record { state = s; trace = missing r p t ∷ []; turns = Some Continued ∷ [] }
    pub goes_past :
        (r p : ℕ) (t : Thing) (s : State) → Listed r → Ok s → is_going s r ≡ true → Waits s r p t → is_there s t ≡ true →
        IsPast r p t (turn book r s).trace
