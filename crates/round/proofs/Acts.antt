-- What a step comes to, in the few cases into which Sorting.antt sorts the 21 kinds: it goes on, with an effect and its events, or
-- it halts the turn, for one of four reasons. Nearly all laws of turns speak of these cases.
use Prim.Native.Nat.{ℕ, ◌+◌, ◌<◌, ◌≤◌}
use mathlib.Core.Path.{◌≡◌}
use mathlib.Core.Bool.{Bool, true, false, ◌||◌}
use mathlib.Core.List.{List, [], ◌∷◌}
use lib.Dec.{eqb}
use lib.ListN.{length}
use lib.IntN.{ℤ}
use Rattle.std.specs.Prelude.{Option}
use Rattle.kinds.specs.declared.Kind.{Kind}
use Rattle.kinds.specs.Ops.{op_mark}
use Rattle.numbers.specs.declared.Sum.{Sum}
use Rattle.numbers.specs.Numbers.{CounterInRange}
use Rattle.numbers.proofs.Sums.{most_lost_by_one}
use Rattle.kinds.specs.declared.Counts.{Counts}
use Rattle.kinds.specs.Steps.{op_at, step_at, steps_in}
use Rattle.forms.specs.Timed.{MayBeLeft}
use Rattle.game.specs.Game.{counter_at}
use Rattle.round.specs.declared.Ending.{Ending}
use Rattle.round.specs.declared.Ending.TheVariants.{Ended, Rested, Missed, Continued}
use Rattle.round.specs.declared.Position.{Position}
use Rattle.round.specs.declared.Effect.{Effect}
use Rattle.round.specs.declared.Effect.TheVariants.{Nothing, Mark, Put, Add, Give, GiveNumber, Start, Stop, Suspend, Resume}
use Rattle.round.specs.declared.Act.{Act}
use Rattle.round.specs.declared.Act.TheVariants.{Goes, Halts}
use Rattle.round.specs.State.{State, Thing, Event, gave, ended, missing, past, marked, numbers_of, is_there}
use Rattle.round.specs.Ticks.{Tick, count_at}
use Rattle.round.specs.claims.Demand.{is_signal_op, AsksFor, wait, wait_for, join, join_for, read}
use Rattle.round.proofs.Leads.{Leaves}
use Rattle.round.specs.claims.Sound.{NumbersRight}

-- every counter and every number given is in range
pub record Ranged (s : State) : Type 0 where
  pub counters : (c : ℕ) → CounterInRange (counter_at s.game c)
  pub numbers : NumbersRight s.numbers

-- an effect on what the book has, which keeps counters and numbers in range, and cuts off no more than one addition may
pub data Right (counts : Counts) (s : State) : Effect → Type 0 where
  nothing : Right counts s Nothing
  mark : {n : ℤ} → Right counts s (Mark n)
  put : {c : ℕ} {v : ℤ} → c < counts.counters → (Ranged s → CounterInRange v) → Right counts s (Put c v)
  add :
      {c : ℕ} {v : Sum} → c < counts.counters → CounterInRange v.sum → (Ranged s → v.lost ≤ most_lost_by_one) → Right counts s (Add c v)
  give : {e : ℕ} → e < counts.signals → Right counts s (Give e)
  give_number : {e : ℕ} {v : ℤ} → e < counts.signals → (Ranged s → CounterInRange v) → Right counts s (GiveNumber e v)
  start : {t : ℕ} → t < counts.routines → Right counts s (Start t)
  stop : {t : ℕ} → t < counts.routines → Right counts s (Stop t)
  suspend : {t : ℕ} → t < counts.routines → Right counts s (Suspend t)
  resume : {t : ℕ} → t < counts.routines → Right counts s (Resume t)

-- an effect that gives a signal
abbrev pub is_giving : Effect → Bool
is_giving Nothing = false
is_giving (Mark n) = false
is_giving (Put c v) = false
is_giving (Add c v) = false
is_giving (Give e) = true
is_giving (GiveNumber e v) = true
is_giving (Start t) = false
is_giving (Stop t) = false
is_giving (Suspend t) = false
is_giving (Resume t) = false

-- the op of a step that gives a signal or a mark
abbrev pub is_signal_or_mark : ℕ → Bool
is_signal_or_mark op = is_signal_op op || eqb op op_mark

-- some is left of the count of a timed step that asks for a thing
abbrev SomeLeft : Position → {st : Option Kind} {t : Thing} → AsksFor st t → Type 0
SomeLeft x wait = Unit {0}
SomeLeft x (wait_for {n = n}) = 0 < count_at x n
SomeLeft x join = Unit {0}
SomeLeft x (join_for {n = n}) = 0 < count_at x n
SomeLeft x read = Unit {0}

-- a step asks for a thing, and goes no further if that isn't there: a timed step while some of its count is left
abbrev pub Asks : Position → Option Kind → Thing → Type 0
Asks x st t = (asks : AsksFor st t) × SomeLeft x asks

module _ (counts : Counts) (steps : List ℕ) where
  -- what fitting asks of a routine's position
  pub record Stands (x : Position) : Type 0 where
    pub inside : x.place ≤ steps_in steps
    pub where_begun : x.begun ≡ true → MayBeLeft (step_at counts steps x.place) x.left
    pub elsewhere : x.begun ≡ false → x.left ≡ 0

-- routine r stands at position x
module _ (counts : Counts) (r : ℕ) (steps : List ℕ) (x : Position) (s : State) where
  -- the events of a step that goes on, by its effect
  pub data Says : Effect → List Event → Type 0 where
    silent : {e : Effect} → is_giving e ≡ false → is_signal_or_mark (op_at steps x.place) ≡ false → Says e []
    marks : {n : ℤ} → op_at steps x.place ≡ op_mark → Says (Mark n) (marked r n ∷ [])
    gives : {e : ℕ} → is_signal_op (op_at steps x.place) ≡ true → Says (Give e) (gave e 0 ∷ [])
    gives_number :
        {e : ℕ} {v : ℤ} → is_signal_op (op_at steps x.place) ≡ true →
        Says (GiveNumber e v) (gave e (length (numbers_of s e) + 1) ∷ [])
    finds :
        {e : Effect} {t : Thing} → is_giving e ≡ false → is_signal_or_mark (op_at steps x.place) ≡ false →
        AsksFor (step_at counts steps x.place) t → is_there s t ≡ true → Says e (past r x.place t ∷ [])

  -- why a step halts the turn, and its events
  pub data Stops : Ending → Position → List Event → Type 0 where
    ends : {y : Position} → Stops Ended y (ended r ∷ [])
    rests : {y : Position} → Stops Rested y []
    misses :
        {y : Position} {t : Thing} → Asks x (step_at counts steps x.place) t → is_there s t ≡ false → s.eoi ≡ true →
        Stops Missed y (missing r x.place t ∷ [])
    continues :
        {t : Thing} → Asks x (step_at counts steps x.place) t → is_there s t ≡ false → s.eoi ≡ false →
        Stops Continued x (missing r x.place t ∷ [])

  abbrev pub Sorted : Act → List Event → Type 0
  Sorted (Goes q e) events = Leaves counts steps x q × Right counts s e × Says e events
  Sorted (Halts how y) events = (Stands counts steps x → Stands counts steps y) × Stops how y events

  abbrev pub SortedTick : Tick → Type 0
  SortedTick t = Sorted t.act t.events
