-- What is claimed of turns, passes and rounds as defined: the rules give them.
use Rattle.std.specs.Prelude.{ℕ, ◌<◌, ◌≤◌, ◌*◌, ◌≡◌, List, [], ◌∷◌, ◌++◌, length, get_or, take, drop, ℤ, pos}
use Rattle.std.proofs.Math.Logic.{dite}
use Rattle.std.proofs.Math.Decide.{dec_lt}
use Rattle.verdicts.specs.Verdicts.{accepted}
use Rattle.layout.specs.Layout.{routines_of}
use Rattle.directory.specs.Directory.{step_count}
use Rattle.book.specs.Accepted.{Accepted}
use Rattle.game.specs.declared.Game.{Game}
use Rattle.game.specs.Game.{routine_at}
use Rattle.fitting.specs.Fits.{Fits}
use Rattle.round.specs.State.{State}
use Rattle.round.specs.Actions.{position_of}
use Rattle.round.specs.Answers.{numbers_per_mark, space_for, Answer, marks_in}
use Rattle.round.specs.Rounds.{PlayedTurns, all_done, PlayedRound}
use Rattle.rules.specs.Instructions.{Instruction, nothing}
use Rattle.rules.specs.Schedulers.{Scheduler, with_current}
use Rattle.rules.specs.Instants.{Execution, is_finished, Thread, StepLog, all_finished, ExecutionStep, Log, Instant, Round}
use Rattle.rules.specs.Positions.{last_of, LeftBy}
use Rattle.rules.specs.Residual.{residual, ◌⇝◌}
use Rattle.rules.specs.Scheduled.{nothing_present, scheduler_of, scheduler_in}

module _ (book : List ℕ) (a : Accepted book) where
  -- each thread is to run what is left of its routine where the game has it, but for nothings in front
  abbrev pub StandFor : (ℕ → Instruction) → Game → Type 0
  StandFor run g = (r : ℕ) (h : r < routines_of book) → run r ⇝ residual book a r h (position_of (routine_at g r))

  -- What a turn, a pass or a round's passes do from state s, with these marks made before: the rules lead from the scheduler of s to that
  -- of the state behind them, with their marks behind the others, and to threads run' that stand for its game.
  module _ (run : ℕ → Instruction) (s : State) (marks : List (ℕ × ℤ)) (run' : ℕ → Instruction) where
    -- A turn of routine r: rules 33 and 34, where "b is a boolean which is true if execution is finished for the current instant".
    pub record TurnByRules (r : ℕ) (d : PlayedTurns) (x : Execution) : Type 0 where
      pub derived : Thread r run (scheduler_in s marks) x run' (scheduler_in d.state (marks ++ marks_in d.trace))
      pub finished : is_finished x ≡ all_done d.turns
      pub standing : StandFor run' d.state.game

    -- "pass = one scheduler execution step (rules 35 and 36)"
    pub record PassByRules (d : PlayedTurns) (l : StepLog) : Type 0 where
      pub derived : ExecutionStep run (scheduler_in s marks) l run' (scheduler_in d.state (marks ++ marks_in d.trace))
      pub finished : all_finished l ≡ all_done d.turns
      pub standing : StandFor run' d.state.game

    -- The passes of a round: rules 37 and 38. "A sequence of execution steps leading to a situation where all threads are finished for the
    -- current instant defines a complete instant"; it has as many steps as there are passes.
    pub record InstantByRules (d : PlayedRound) (log : Log) : Type 0 where
      pub derived : Instant log run (scheduler_in s marks) run' (scheduler_in d.played.state (marks ++ marks_in d.played.trace))
      pub passes : d.passes ≡ length log
      pub standing : StandFor run' d.played.state.game

  -- the threads of a game: each is to run what is left of its routine
  abbrev pub threads_of : Game → ℕ → Instruction
  threads_of g r = dite (dec_lt r (routines_of book)) (λ h. residual book a r h (position_of (routine_at g r))) (λ n. nothing)

  -- The answer of a round from game g, where the rules lead, with this log, to these threads and this scheduler.
  pub record GivesAnswer
      (g : Game) (buffer : List ℤ) (answer : Answer) (log : Log) (run : ℕ → Instruction) (σ : Scheduler) : Type 0 where
    -- the round is accepted: nothing of 9 or 10 applies
    pub lent_fits : Fits book g
    pub long_enough : space_for book ≤ length buffer
    pub verdict : answer.verdict ≡ accepted
    -- the round begins with the threads and the scheduler of the game, no mark, and nothing cut off
    pub derived : Round log (threads_of g) (scheduler_of g [] 0) run σ
    pub passes : answer.passes ≡ length log
    -- The game given back has the scheduler that the rules lead to; "Signals and numbers of a round are not kept in the game."
    pub scheduler : scheduler_of answer.game σ.env.marks σ.env.lost ≡ with_current σ nothing_present
    -- place, begun and count left of each routine
    pub positions :
        (r : ℕ) → r < routines_of book →
        LeftBy (step_count book r) (position_of (routine_at g r)) (last_of r log) (position_of (routine_at answer.game r))
    -- and there is left to be run of it what the rules left to its thread
    pub standing : StandFor run answer.game
    -- what of the game the rules don't speak of: R, E and C, and nothing beyond them or behind a list
    pub fits : Fits book answer.game
    pub mark_count : answer.marks ≡ length σ.env.marks
    -- document 02: "the total of these over all additions of the round"
    pub lost : answer.lost ≡ σ.env.lost
    -- "writes a mark: routine, n", "two to a mark", "in the order made": the routine and the number of the i-th mark, i counted from 0, are
    -- the buffer's numbers at 2 i and 2 i + 1
    pub buffered :
        (i : ℕ) → i < length σ.env.marks →
        let mark = get_or σ.env.marks i (0, pos 0) in
        take numbers_per_mark (drop (numbers_per_mark * i) answer.buffer) ≡ pos mark.0 ∷ mark.1 ∷ []
    -- "the buffer beyond the marks is untouched"
    pub beyond : let n = numbers_per_mark * length σ.env.marks in drop n answer.buffer ≡ drop n buffer
    pub same_length : length answer.buffer ≡ length buffer

-- Demand 2, of an accepted round: the answer is what the paper's rules give, read as documents 01 and 02 say; that they give no other
-- is `same_answer`, proofs/OneAnswer.antt.
abbrev pub ByTheRules : List ℕ → Game → List ℤ → Answer → Type 0
ByTheRules book g buffer answer =
    (a : Accepted book) × (log : Log) × (run : ℕ → Instruction) × (σ : Scheduler) × GivesAnswer book a g buffer answer log run σ
