-- No step is completed twice in one round by one routine, and what follows from it for the limits.
use Rattle.std.specs.Prelude.{ℕ, ◌*◌, ◌≤◌, Bool, true, false, ◌&&◌, List, eqb, length}
use Rattle.numbers.specs.Counting.{how_many}
use Rattle.kinds.specs.Ops.{op_mark}
use Rattle.kinds.specs.Steps.{op_at}
use Rattle.layout.specs.Layout.{most_steps}
use Rattle.directory.specs.Directory.{routine_steps}
use Rattle.game.specs.declared.Game.{Game}
use Rattle.round.specs.State.{Event, gave, ended, missing, past, marked, completed}
use Rattle.round.specs.Rounds.{listed_in, trace_of}
use Rattle.round.specs.Answers.{marks_in, numbers_per_mark, space_for, most_numbers}
use Rattle.round.specs.claims.Reasons.{numbers_given}
use Rattle.round.specs.claims.Demand.{is_signal_step, gives_signal, count_steps}

-- a step of a set is completed; a step is a routine and a place
abbrev pub completes : (ℕ → ℕ → Bool) → Event → Bool
completes set (gave e k) = false
completes set (ended r) = false
completes set (missing r p t) = false
completes set (past r p t) = false
completes set (marked r n) = false
completes set (completed r p) = set r p

-- the step of routine r at place p, and no other
abbrev pub the_step : ℕ → ℕ → ℕ → ℕ → Bool
the_step r p q o = eqb q r && eqb o p

-- "0 mark"
abbrev pub is_mark_step : List ℕ → ℕ → ℕ → Bool
is_mark_step book r p = eqb (op_at (routine_steps book r) p) op_mark

abbrev pub any_step : ℕ → ℕ → Bool
any_step r p = true

-- in a round from game g
pub record CompletedOnce (book : List ℕ) (g : Game) : Type 0 where
  -- of any set of steps at most as many are completed as the listed routines have
  pub once : (set : ℕ → ℕ → Bool) → how_many (completes set) (trace_of book g) ≤ count_steps book set (listed_in g)
  -- so no step is completed twice
  pub never_twice : (r p : ℕ) → how_many (completes (the_step r p)) (trace_of book g) ≤ 1
  -- so a round gives at most as many signals as its listed routines have signal steps,
  pub signals : how_many gives_signal (trace_of book g) ≤ count_steps book (is_signal_step book) (listed_in g)
  -- writes at most as many marks as they have mark steps, and the buffer that 10 asks for holds them,
  pub marks : length (marks_in (trace_of book g)) ≤ count_steps book (is_mark_step book) (listed_in g)
  pub space : numbers_per_mark * length (marks_in (trace_of book g)) ≤ space_for book
  -- gives at most 1,024 numbers,
  pub numbers : numbers_given (trace_of book g) ≤ most_numbers
  -- and completes at most 1,024 steps, the most that a book has
  pub steps : how_many (completes any_step) (trace_of book g) ≤ most_steps
