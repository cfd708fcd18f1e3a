-- A pass and the passes of a round, as the code plays them.
use Rattle.std.specs.Prelude.{ℕ, zero, suc, ◌+◌, ◌≡◌, Bool, false, ◌&&◌, List, [], ◌∷◌}
use Rattle.round.specs.State.{State}
use Rattle.round.specs.Rounds.{PlayedTurns, PlayedRound, all_done, for_next_pass, turn, pass}
use Rattle.passing.specs.Effects.{Marks}
use Rattle.passing.specs.Turns.{TurnAsks, marks_after}

-- what the turns of a pass ask
unfoldable pub PassAsks : ℕ → List ℕ → List ℕ → State → Type 0
PassAsks room book [] s = Unit {0}
PassAsks room book (r ∷ rs) s = TurnAsks room book r s × PassAsks room book rs (turn book r s).state

-- what at most n passes ask
unfoldable pub PassesAsk : ℕ → List ℕ → ℕ → List ℕ → State → Type 0
PassesAsk room book zero rs s = Unit {0}
PassesAsk room book (suc n) rs s =
    PassAsks room book rs s × (all_done (pass book rs s).turns ≡ false → PassesAsk room book n rs (for_next_pass (pass book rs s).state))

-- turns of a pass: the state and the marks behind them, and whether all are done
pub record Passing : Type 0 where
  pub state : State
  pub marks : Marks
  pub done : Bool

abbrev pub passing : State → Marks → Bool → Passing
passing s m done = record { state = s; marks = m; done = done }

-- these turns, behind others that are all done or not
abbrev pub passed_by : PlayedTurns → Marks → Bool → Passing
passed_by p m done = passing p.state (marks_after p.trace m) (done && all_done p.turns)

-- passes: the state and the marks behind them, and how many they are
pub record AfterPasses : Type 0 where
  pub state : State
  pub marks : Marks
  pub passes : ℕ

abbrev pub passes : State → Marks → ℕ → AfterPasses
passes s m k = record { state = s; marks = m; passes = k }

-- these passes, behind k others
abbrev pub passes_by : PlayedRound → Marks → ℕ → AfterPasses
passes_by p m k = passes p.played.state (marks_after p.played.trace m) (k + p.passes)
