-- A round is what the paper has for it, one chaining step and then one instant, whatever signals and numbers an earlier round left. The
-- chaining step is the eight actions, which leave every routine where it stands; the passes are an instant.
use Prim.Native.Nat.{ℕ, ◌<◌}
use mathlib.Core.Path.{◌≡◌}
use mathlib.Core.Bool.{false}
use mathlib.Core.List.{List, ◌++◌}
use mathlib.Core.Logic.{inl}
use lib.ListN.{length}
use Rattle.numbers.proofs.Tests.{by_flag}
use Rattle.layout.specs.Layout.{routines_of}
use Rattle.directory.specs.Directory.{step_count}
use Rattle.book.specs.Accepted.{Accepted}
use Rattle.game.specs.declared.Game.{Game}
use Rattle.game.specs.Game.{routine_at}
use Rattle.fitting.specs.Fits.{Fits}
use Rattle.round.specs.State.{State}
use Rattle.round.specs.Actions.{position_of, at_start}
use Rattle.round.specs.Rounds.{most_passes, round, state_after}
use Rattle.round.specs.Answers.{marks_in}
use Rattle.round.proofs.Actions.{at_start_positions}
use Rattle.round.proofs.StartSound.{at_start_sound, listed_among}
use Rattle.round.proofs.Enough.{enough}
use Rattle.round.proofs.TurnLaws.{takes_turn}
use Rattle.round.proofs.AfterTurn.{going_parts}
use Rattle.round.proofs.After.{round_keeps}
use Rattle.round.proofs.Demand.{none_going_lem}
use Rattle.rules.specs.Instructions.{Instruction}
use Rattle.rules.specs.Instants.{Log, Round}
use Rattle.rules.specs.Positions.{last_of, LeftBy}
use Rattle.rules.specs.Scheduled.{scheduler_in}
use Rattle.rules.specs.Claims.{StandFor}
use Rattle.rules.proofs.Walks.{Marks}
use Rattle.rules.proofs.Chaining.{chains}
use Rattle.rules.proofs.Left.{left_at_lem}
use Rattle.rules.proofs.Passes.{instant_given}

module _ (book : List ℕ) (a : Accepted book) where
  -- the eight actions leave every routine where it stands
  at_start_stands : (run : ℕ → Instruction) (g : Game) → StandFor book a run g → StandFor book a run (at_start g).game
  at_start_stands run g stand r l = rw (at_start_positions g r) (stand r l)

  -- a listed routine takes no turn behind a round, and one that is not listed is not in stage 1
  none_turns : (g : Game) (f : Fits book g) (r : ℕ) → r < routines_of book → takes_turn (routine_at (state_after book g).game r) ≡ false
  none_turns g f r l =
      let x = routine_at (state_after book g).game r in
      let (sound, kept) = round_keeps book a g f in
      by_flag (takes_turn x) (λ on.
      let listed = sound.fits.listed_stages r l (inl (going_parts x.suspended x.stage on).1) in
      none_going_lem book a g f r (listed_among book g a f r (rw kept.listed at listed)))
      (λ off. off)

  pub round_given :
      (run : ℕ → Instruction) (s : State) (ms : Marks) (f : Fits book s.game) → StandFor book a run s.game →
      let d = round book s.game in
      (run' : ℕ → Instruction) × (log : Log)
      × Round log run (scheduler_in s ms) run' (scheduler_in d.played.state (ms ++ marks_in d.played.trace))
      × (d.passes ≡ length log) × StandFor book a run' d.played.state.game
      × ((r : ℕ) → r < routines_of book →
      LeftBy (step_count book r) (position_of (routine_at s.game r)) (last_of r log) (position_of (routine_at d.played.state.game r)))
  unfolding round
  round_given run s ms f stand =
      let g = s.game in
      let range = a.laid.counts in
      let (to, log, rule, behind) =
      instant_given book a most_passes run (at_start g) ms (at_start_stands run g stand) (at_start_sound book g a f)
      (enough book a g f).passes in (
        to,
        log,
        rw (chains book s ms range f) rule.derived,
        rule.passes,
        rule.standing,
        λ r l. rw (at_start_positions g r) at (left_at_lem book r (last_of r log) (at_start g).game _ (behind r l) (none_turns g f r l)),
      )
