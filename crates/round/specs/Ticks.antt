-- One step of one routine: rules 1 to 32, in the order of document 01's table of kinds. What a step comes to stands apart from its effect.
use Rattle.std.specs.Prelude.{ℕ, ◌+◌, ◌-◌, true, false, ◌&&◌, not, List, [], ◌∷◌, ◌++◌, eqb, length, set, ℤ, if◌then◌else◌, Option, Some, None}
use Rattle.numbers.specs.Numbers.{sum_of, relation_of}
use Rattle.kinds.specs.declared.Kind.{Kind}
use Rattle.kinds.specs.declared.Kind.TheVariants as kind
use Rattle.kinds.specs.declared.Counts.{Counts}
use Rattle.kinds.specs.Steps.{step_at, steps_in}
use Rattle.game.specs.Game.{routine_at, counter_at, with_stop, with_suspend, with_resume, with_start, with_starting, with_counter, with_routine}
use Rattle.round.specs.declared.Ending.TheVariants.{Ended, Rested, Missed, Continued}
use Rattle.round.specs.declared.Position.{Position}
use Rattle.round.specs.declared.Effect.{Effect}
use Rattle.round.specs.declared.Effect.TheVariants.{Nothing, Mark, Put, Add, Give, GiveNumber, Start, Stop, Suspend, Resume}
use Rattle.round.specs.declared.Act.{Act}
use Rattle.round.specs.declared.Act.TheVariants.{Goes, Halts}
use Rattle.round.specs.State.{State, with_game, with_present, with_numbers, with_lost, with_moves, Thing, signal, end, number, Event}
use Rattle.round.specs.State.{gave, ended, missing, past, marked, numbers_of, number_at, is_there}
use Rattle.round.specs.Jumps.{past_partner, from_end}

-- what a step comes to, and what happens in it
pub record Tick : Type 0 where
  pub act : Act
  pub events : List Event

abbrev pub tick_with : Act → List Event → Tick
tick_with a events = record { act = a; events = events }

-- a place with nothing begun
abbrev pub fresh : ℕ → Position
fresh p = record { place = p; begun = false; left = 0 }

-- "Begun is set when op 7, 9 or 11 pauses": on this place, with this count left
abbrev pub begun_at : ℕ → ℕ → Position
begun_at p left = record { place = p; begun = true; left = left }

-- the count of a timed step: what is left of it, or n
abbrev pub count_at : Position → ℕ → ℕ
count_at x n = if x.begun then x.left else n

-- routine r stands at position x of its steps
module _ (r : ℕ) (steps : List ℕ) (x : Position) (s : State) where
  -- the turn goes on behind the step (rule 3), with what the step changes
  abbrev pub onward : Effect → Act
  onward e = Goes (x.place + 1) e

  -- where its thing is missing, a routine is to be continued, and rests at position y once the round is being closed
  abbrev pub when_missing : Position → Act
  when_missing y = if s.eoi then Halts Missed y else Halts Continued x

  -- a try of op 8 to 12: it "finds the thing and completes the step", with this effect, or "it goes no further because that isn't there"
  abbrev pub tries : Thing → Effect → Position → Tick
  tries t e y =
      if is_there s t then tick_with (onward e) (past r x.place t ∷ []) else tick_with (when_missing y) (missing r x.place t ∷ [])

  -- rules 14 to 18; "every other pause leaves it on its own step"
  abbrev pub waits : Thing → Tick
  waits t = tries t Nothing (fresh x.place)

  -- rules 23 and 24, with the count k
  abbrev pub rests_for : ℕ → Act
  rests_for k = if eqb k 0 then onward Nothing else Halts Rested (begun_at x.place (k - 1))

  -- rules 25 to 29, with the count k; with none left and the thing not there the turn goes on all the same, and the try is neither
  -- missing, since it goes further, nor past, since it found nothing
  unfoldable pub waits_for : Thing → ℕ → Tick
  waits_for t k =
      if eqb k 0 && not (is_there s t)
      then tick_with (onward Nothing) []
      else tries t Nothing (begun_at x.place (k - 1))

  -- rules 30 to 32; "a reading that stayed missing, leaves the place on the step that follows it in the book"
  abbrev pub reads : ℕ → ℕ → ℕ → Tick
  reads e c k = tries (number e k) (Put c (number_at s e k)) (fresh (x.place + 1))

  -- rules 5, 6, 9 and 10: into the block where the test holds, and otherwise past it
  abbrev pub tests : ℕ → ℕ → ℤ → Act
  tests c relation n =
      Goes (if eqb (relation_of relation (counter_at s.game c) n) 1 then x.place + 1 else past_partner steps x.place) Nothing

  -- the step of this kind
  unfoldable pub tick_of : Kind → Tick
  -- rule 1
  tick_of (kind.Mark n) = tick_with (onward (Mark n)) (marked r n ∷ [])
  tick_of (kind.Set c n) = tick_with (onward (Put c n)) []
  tick_of (kind.Add c n) = tick_with (onward (Add c (sum_of (counter_at s.game c) n))) []
  tick_of (kind.Take c d) = tick_with (onward (Add c (sum_of (counter_at s.game c) (counter_at s.game d)))) []
  -- rules 12 and 13
  tick_of (kind.Signal e) = tick_with (onward (Give e)) (gave e 0 ∷ [])
  tick_of (kind.SignalNumber e c) =
      tick_with (onward (GiveNumber e (counter_at s.game c))) (gave e (length (numbers_of s e) + 1) ∷ [])
  -- rule 11; "Op 6 .. leaves the place on the step that follows it in the book"
  tick_of kind.Rest = tick_with (Halts Rested (fresh (x.place + 1))) []
  -- rules 23 and 24
  tick_of (kind.RestFor n) = tick_with (rests_for (count_at x n)) []
  -- rules 14 to 16
  tick_of (kind.Wait e) = waits (signal e)
  -- rules 25 to 27
  tick_of (kind.WaitFor e n) = waits_for (signal e) (count_at x n)
  -- rules 17 and 18
  tick_of (kind.Join t) = waits (end t)
  -- rules 28 and 29
  tick_of (kind.JoinFor t n) = waits_for (end t) (count_at x n)
  -- rules 30 to 32
  tick_of (kind.Read e c k) = reads e c k
  -- rules 19 to 22
  tick_of (kind.Start t) = tick_with (onward (Start t)) []
  tick_of (kind.Stop t) = tick_with (onward (Stop t)) []
  tick_of (kind.Suspend t) = tick_with (onward (Suspend t)) []
  tick_of (kind.Resume t) = tick_with (onward (Resume t)) []
  -- rules 9 and 10
  tick_of (kind.If c relation n) = tick_with (tests c relation n) []
  -- "A place on an else stands for the end of the first block": past its if
  tick_of kind.Else = tick_with (Goes (past_partner steps x.place) Nothing) []
  -- rules 5 and 6
  tick_of (kind.While c relation n) = tick_with (tests c relation n) []
  -- behind a while's body back to its test, by rule 7, and otherwise past its if
  tick_of kind.End = tick_with (Goes (from_end steps x.place) Nothing) []

  -- the routine's end, behind its last step: "An ended routine's place is its step count."
  abbrev pub ends_here : Tick
  ends_here = tick_with (Halts Ended (fresh (steps_in steps))) (ended r ∷ [])

  -- where a step stands, or none: in an accepted book only the place behind a routine's last step has none
  abbrev pub tick_at : Option Kind → Tick
  tick_at (Some k) = tick_of k
  tick_at None = ends_here

unfoldable pub tick : Counts → ℕ → List ℕ → Position → State → Tick
tick counts r steps x s = tick_at r steps x s (step_at counts steps x.place)

-- rule 12 "sets the flag each time"
abbrev pub given : State → ℕ → State
given s e = with_moves (with_present s (set s.present e true)) true s.eoi

-- rule 13
abbrev pub given_number : State → ℕ → ℤ → State
given_number s e v = with_numbers (given s e) (s.numbers ++ ((e, v) ∷ []))

-- the state behind an effect; a mark is an event and changes nothing; an addition adds what it cuts off to "the total of these over all
-- additions of the round" (document 02)
unfoldable pub effect_on : Effect → State → State
effect_on Nothing s = s
effect_on (Mark n) s = s
effect_on (Put c v) s = with_game s (with_counter s.game c v)
effect_on (Add c v) s = with_lost (with_game s (with_counter s.game c v.sum)) (s.lost + v.lost)
effect_on (Give e) s = given s e
effect_on (GiveNumber e v) s = given_number s e v
effect_on (Start t) s = with_game s (with_starting s.game (with_start s.game.starting t (routine_at s.game t).stage))
effect_on (Stop t) s = with_game s (with_routine s.game t (with_stop (routine_at s.game t)))
effect_on (Suspend t) s = with_game s (with_routine s.game t (with_suspend (routine_at s.game t)))
effect_on (Resume t) s = with_game s (with_routine s.game t (with_resume (routine_at s.game t)))
