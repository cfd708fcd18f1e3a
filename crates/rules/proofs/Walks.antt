-- The steps of a turn laid out one after the other, for proofs by induction: each state from which a step goes on has room for a start, and
-- the marks made so far are carried beside it.
use Prim.Native.Nat.{ℕ, suc}
use mathlib.Core.Path.{◌≡◌}
use mathlib.Core.List.{List, ◌++◌}
use mathlib.Core.Logic.{◌≢◌}
use lib.ListN.{length}
use lib.IntN.{ℤ}
use Rattle.kinds.specs.declared.Counts.{Counts}
use Rattle.lines.specs.Lines.{most_entries}
use Rattle.fitting.proofs.Lists.{LineRight}
use Rattle.round.specs.declared.Ending.{Ending}
use Rattle.round.specs.declared.Ending.TheVariants.{Ended, Rested, Missed, Continued}
use Rattle.round.specs.declared.Position.{Position}
use Rattle.round.specs.declared.Effect.{Effect}
use Rattle.round.specs.declared.Act.TheVariants.{Goes, Halts}
use Rattle.round.specs.State.{State, Event}
use Rattle.round.specs.Ticks.{tick_with, tick, fresh, effect_on}
use Rattle.round.specs.Answers.{marks_in}
use Rattle.rules.specs.Instructions.{Pause, Status, TERM, COOP, CONT}
use Rattle.rules.specs.Positions.{paused_at}

abbrev pub Marks : Type 0
Marks = List (ℕ × ℤ)

-- what is asked of a state to show the rule of a start: it finds room
pub record HasRoom (routines : ℕ) (s : State) : Type 0 where
  pub starting : LineRight s.game.starting routines
  pub items : length s.game.starting.items ≡ most_entries

-- the status of a turn of a routine with so many steps that ends so at position y; one that is to be continued says nothing of the position
pub data Shows (size : ℕ) (y : Position) : Ending → Status → Type 0 where
  ends_as : y ≡ fresh size → Shows size y Ended TERM
  rests_as : (w : Pause) → y ≡ paused_at w → Shows size y Rested (COOP w)
  misses_as : (w : Pause) → y ≡ paused_at w → Shows size y Missed (COOP w)
  continues_as : Shows size y Continued CONT

-- the same of a step that halts the turn before the routine's end
abbrev pub HaltsAs : ℕ → Position → Ending → Status → Type 0
HaltsAs size y h α = (α ≢ TERM) × Shows size y h α

-- a routine of a book
module _ (counts : Counts) (r : ℕ) (steps : List ℕ) where
  -- at most n steps from position x, state s and marks ms on end with h at position y, in state u with marks us
  pub data Ends (h : Ending) (y : Position) (u : State) (us : Marks) : ℕ → Position → State → Marks → Type 0 where
    halts :
        {n : ℕ} {x : Position} {events : List Event} →
        tick counts r steps x u ≡ tick_with (Halts h y) events → Ends h y u us (suc n) x u us
    goes :
        {n q : ℕ} {x : Position} {s : State} {ms : Marks} {e : Effect} {events : List Event} →
        HasRoom counts.routines s → tick counts r steps x s ≡ tick_with (Goes q e) events →
        Ends h y u us n (fresh q) (effect_on e s) (ms ++ marks_in events) → Ends h y u us (suc n) x s ms
