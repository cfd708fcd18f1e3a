-- Where a round leaves a routine, by what its thread did.
use Rattle.std.specs.Prelude.{ℕ, ◌+◌, [], ◌∷◌, eqb, if◌then◌else◌}
use Rattle.round.specs.declared.Position.{Position}
use Rattle.round.specs.Ticks.{fresh, begun_at}
use Rattle.rules.specs.Instructions.{Pause, rests, rests_for, misses, misses_for, unread, TERM, COOP}
use Rattle.rules.specs.Instants.{Execution, passed_over, executed, StepLog, Log}

-- "Op 6, or a reading that stayed missing, leaves the place on the step that follows it in the book; every other pause leaves it on its own
-- step. .. Begun is set when op 7, 9 or 11 pauses, and cleared when that step is past."
abbrev pub paused_at : Pause → Position
paused_at (rests p) = fresh (p + 1)
paused_at (rests_for p k) = begun_at p k
paused_at (misses p) = fresh p
paused_at (misses_for p k) = begun_at p k
paused_at (unread p) = fresh (p + 1)

-- of two executions of a thread the second, unless it is passed over there
abbrev pub second_or : Execution → Execution → Execution
second_or x passed_over = x
second_or x (executed α) = executed α

-- what thread t does last in an execution step, and in an instant: the last time that it is not passed over
unfoldable pub last_in : ℕ → StepLog → Execution
last_in t [] = passed_over
last_in t ((u, x) ∷ l) = second_or (if eqb u t then x else passed_over) (last_in t l)

unfoldable pub last_of : ℕ → Log → Execution
last_of t [] = passed_over
last_of t (l ∷ log) = second_or (last_in t l) (last_of t log)

-- Where a routine of so many steps stands behind a round in which its thread did this last, from where it stood before. No thread is left
-- to be continued.
pub data LeftBy (size : ℕ) (before : Position) : Execution → Position → Type 0 where
  -- nothing is done
  stays : LeftBy size before passed_over before
  -- "An ended routine's place is its step count."
  ended : LeftBy size before (executed TERM) (fresh size)
  paused : {w : Pause} → LeftBy size before (executed (COOP w)) (paused_at w)
