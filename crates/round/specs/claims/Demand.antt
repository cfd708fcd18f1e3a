-- Demand 3, the third of the three demands on rounds (docs/ARCHITECTURE.md): its four sentences stand over the fields of Demand3, and its
-- words are read as document 01 says: "What do demand 3's words mean? They are read off book and game as lent, through the passes of rules
-- 35 and 36 as read here."
use Rattle.std.specs.Prelude.{ℕ, ◌+◌, ◌≤◌, ◌≡◌, Bool, true, false, ◌||◌, List, ◌∷◌, ◌++◌, ◌⊎◌, eqb, Option, Some}
use Rattle.numbers.specs.Counting.{count_below, sum_over, how_many, Somewhere, Among}
use Rattle.kinds.specs.declared.Kind.{Kind}
use Rattle.kinds.specs.Ops.{op_signal, op_signal_number}
use Rattle.kinds.specs.declared.Kind.TheVariants as kind
use Rattle.kinds.specs.Steps.{op_at}
use Rattle.directory.specs.Directory.{step_count, routine_steps}
use Rattle.game.specs.declared.Game.{Game}
use Rattle.game.specs.Game.{routine_at}
use Rattle.game.specs.Game as stage
use Rattle.round.specs.State.{Thing, signal, end, number, Event, gave, ended, missing, past, marked, completed}
use Rattle.round.specs.Actions.{at_start}
use Rattle.round.specs.Rounds.{listed_in, trace_of}

-- "A signal step is one of op 4 or 5"
abbrev pub is_signal_op : ℕ → Bool
is_signal_op op = eqb op op_signal || eqb op op_signal_number

-- the step of routine r at place p is one
abbrev pub is_signal_step : List ℕ → ℕ → ℕ → Bool
is_signal_step book r p = is_signal_op (op_at (routine_steps book r) p)

-- how many steps of some routines of a book are in a set of steps, each a routine and a place
abbrev pub count_steps : List ℕ → (ℕ → ℕ → Bool) → List ℕ → ℕ
count_steps book set rs = sum_over (λ r. count_below (set r) (step_count book r)) rs

-- "it gives a signal each time a pass carries it out, repeated ones too, and broadcasts and end signals don't count"
abbrev pub gives_signal : Event → Bool
gives_signal (gave e k) = true
gives_signal (ended r) = false
gives_signal (missing r p t) = false
gives_signal (past r p t) = false
gives_signal (marked r n) = false
gives_signal (completed r p) = false

-- "A routine ended in the round if a pass brought it to stage 3"
abbrev pub ends_routine : Event → Bool
ends_routine (gave e k) = false
ends_routine (ended r) = true
ends_routine (missing r p t) = false
ends_routine (past r p t) = false
ends_routine (marked r n) = false
ends_routine (completed r p) = false

-- what a step of op 8 to 12 asks for: "its signal, the joined routine's end or the signal's k-th number", by the table's
-- "8 wait, 9 wait n", "10 join, 11 join n" and "12 read"
pub data AsksFor : Option Kind → Thing → Type 0 where
  wait : {e : ℕ} → AsksFor (Some (kind.Wait e)) (signal e)
  wait_for : {e n : ℕ} → AsksFor (Some (kind.WaitFor e n)) (signal e)
  join : {r : ℕ} → AsksFor (Some (kind.Join r)) (end r)
  join_for : {r n : ℕ} → AsksFor (Some (kind.JoinFor r n)) (end r)
  read : {e c k : ℕ} → AsksFor (Some (kind.Read e c k)) (number e k)

-- "It comes later if, in the same round after that try, a step gives the signal, the joined routine ends, or the signal's k-th number is
-- given."
pub data Comes : Thing → Event → Type 0 where
  signal_given : {e k : ℕ} → Comes (signal e) (gave e k)
  -- stage 4 never comes within a round
  routine_ended : {r : ℕ} → Comes (end r) (ended r)
  number_given : {e k : ℕ} → Comes (number e k) (gave e k)

-- "The routine is past the step once a later try in that round finds the thing and completes the step; a reading that rests isn't past.":
-- of routine r, its step at place p and thing t, somewhere in a trace; that a step is completed comes first, and then what it found
pub data IsPast (r p : ℕ) (t : Thing) : List Event → Type 0 where
  here : {events : List Event} → IsPast r p t (completed r p ∷ past r p t ∷ events)
  later : {h : Event} {events : List Event} → IsPast r p t events → IsPast r p t (h ∷ events)

-- Wherever in the trace a try "finds its signal, the joined routine's end or the signal's k-th number missing", and the thing comes
-- later, there the routine is past the step later.
abbrev pub CatchesUp : List Event → Type 0
CatchesUp events =
    (before after : List Event) (r p : ℕ) (t : Thing) → events ≡ before ++ (missing r p t ∷ after) →
    Somewhere (Comes t) after → IsPast r p t after

-- "All this is one claim about the whole round.": a round from the game as lent, "Passes: the number in the round's answer.", and the game
-- given back
pub record Demand3 (book : List ℕ) (lent : Game) (passes : ℕ) (back : Game) : Type 0 where
  -- passes ≤ 2 + signals given by steps + routines ended
  pub few_passes : passes ≤ 2 + how_many gives_signal (trace_of book lent) + how_many ends_routine (trace_of book lent)
  -- those signals ≤ the signal steps of the listed routines; "Listed, suspended: once the eight actions are done."
  pub few_signals : how_many gives_signal (trace_of book lent) ≤ count_steps book (is_signal_step book) (listed_in lent)
  -- at its end every listed routine that isn't suspended has rested or ended; "rested or ended is stage 2 or 3 in the game given back"
  pub rested_or_ended :
      (r : ℕ) → Among r (listed_in lent) → (routine_at (at_start lent).game r).suspended ≡ false →
      ((routine_at back r).stage ≡ stage.rested) ⊎ ((routine_at back r).stage ≡ stage.ended)
  -- each that found something missing which came later in that round went past that step in it
  pub caught_up : CatchesUp (trace_of book lent)
