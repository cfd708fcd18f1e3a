-- That the steps which a turn may take, and the passes which a round may take, are never what stops them.
use Rattle.std.specs.Prelude.{ℕ, zero, suc, ◌+◌, ◌<◌, ◌≡◌, true, false, List, ◌⊎◌}
use Rattle.kinds.specs.declared.Counts.{Counts}
use Rattle.layout.specs.Layout.{routines_of, counts_of}
use Rattle.directory.specs.Directory.{routine_steps}
use Rattle.game.specs.declared.Game.{Game}
use Rattle.round.specs.declared.Position.{Position}
use Rattle.round.specs.declared.Act.{Act}
use Rattle.round.specs.declared.Act.TheVariants.{Goes, Halts}
use Rattle.round.specs.State.{State}
use Rattle.round.specs.Actions.{at_start}
use Rattle.round.specs.Ticks.{tick, fresh, effect_on}
use Rattle.round.specs.Rounds.{ticks, most_ticks, all_done, for_next_pass, most_passes, listed_in, pass, instant, round}

-- what is asked of the position and the state behind a step, if the turn goes on
abbrev pub IfItGoesOn : Act → State → (Position → State → Type 0) → Type 0
IfItGoesOn (Goes p e) s claim = claim (fresh p) (effect_on e s)
IfItGoesOn (Halts how y) s claim = Unit {0}

-- n steps are enough for a turn of routine r from position x in state s
unfoldable pub InTime : ℕ → Counts → ℕ → List ℕ → Position → State → Type 0
InTime zero counts r steps x s = ⊥
InTime (suc n) counts r steps x s = IfItGoesOn (tick counts r steps x s).act s (λ y u. InTime n counts r steps y u)

module _ (book : List ℕ) where
  -- n passes over some routines are enough from state s on
  unfoldable pub RoundEnds : ℕ → List ℕ → State → Type 0
  RoundEnds zero rs s = ⊥
  RoundEnds (suc n) rs s =
      let first = pass book rs s in
      (all_done first.turns ≡ true) ⊎ ((all_done first.turns ≡ false) × RoundEnds n rs (for_next_pass first.state))

  -- most_ticks steps are enough for every turn, and most_passes passes for the round from game g
  pub record Enough (g : Game) : Type 0 where
    pub turns :
        (r : ℕ) → r < routines_of book → (x : Position) (s : State) →
        InTime (most_ticks (routine_steps book r)) (counts_of book) r (routine_steps book r) x s
    pub passes : RoundEnds most_passes (listed_in g) (at_start g)
    -- so a turn that might take m steps more, and a round that might take m passes more, come out the same
    pub more_ticks :
        (r : ℕ) → r < routines_of book → (x : Position) (s : State) (m : ℕ) → let steps = routine_steps book r in
        ticks (most_ticks steps + m) (counts_of book) r steps x s ≡ ticks (most_ticks steps) (counts_of book) r steps x s
    pub more_passes : (m : ℕ) → instant book (most_passes + m) (listed_in g) (at_start g) ≡ round book g
