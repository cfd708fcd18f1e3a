-- The scheduler that a game stands for, and a state of a round; a routine's position is not in it. A game has neither marks nor a total of
-- what was cut off, so both are beside it; a state has the total.
use Rattle.std.specs.Prelude.{ℕ, false, List, [], map, eqb, ℤ, if◌then◌else◌}
use Rattle.lines.specs.Lines.{entries_of}
use Rattle.game.specs.declared.Game.{Game}
use Rattle.game.specs.Game.{continuing, rested, ended, not_started}
use Rattle.round.specs.State.{State}
use Rattle.rules.specs.Schedulers.{Stage, Current, Scheduler, with_current}
use Rattle.rules.specs.Schedulers as paper

-- "stage (0 not started, 1 continuing, 2 rested, 3 ended, 4 stopped)"
abbrev pub stage_of : ℕ → Stage
stage_of k =
    if eqb k not_started then paper.not_started
    else if eqb k continuing then paper.continuing
    else if eqb k rested then paper.rested
    else if eqb k ended then paper.ended
    else paper.stopped

-- "Signals and numbers of a round are not kept in the game."
abbrev pub nothing_present : Current
nothing_present = record { signals = []; terms = []; values = []; eoi = false; move = false }

-- between two rounds
abbrev pub scheduler_of : Game → List (ℕ × ℤ) → ℕ → Scheduler
scheduler_of g marks lost =
    record {
      actual = entries_of g.listed;
      current = nothing_present;
      orders =
          record {
            to_broadcast = g.broadcast;
            to_start = entries_of g.starting;
            to_stop = map (λ x. x.stopping) g.routines;
            to_suspend = map (λ x. x.suspending) g.routines;
            to_resume = map (λ x. x.resuming) g.routines;
          };
      threads = record { status = map (λ x. stage_of x.stage) g.routines; susp = map (λ x. x.suspended) g.routines };
      env = record { counters = g.counters; marks = marks; lost = lost };
    }

-- within a round
unfoldable pub scheduler_in : State → List (ℕ × ℤ) → Scheduler
scheduler_in s marks =
    with_current (scheduler_of s.game marks s.lost) (
    record { signals = s.present; terms = s.end_signals; values = s.numbers; eoi = s.eoi; move = s.moved }
    )
