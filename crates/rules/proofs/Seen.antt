-- What the view of a state shows of a routine, and of a turn: the state behind a turn is seen as rule 34 leaves the scheduler.
-- Field by field: a turn changes its routine's stage and position, and no position is seen.
use Prim.Native.Nat.{ℕ}
use mathlib.Core.Path.{◌≡◌, refl, ◌∙◌, ap}
use mathlib.Core.List.{map}
use lib.ListN.{set, get_or-map}
use Rattle.lines.specs.Lines.{entries_of}
use Rattle.game.specs.Game.{blank, routine_at, with_routine}
use Rattle.round.specs.declared.Ending.{Ending}
use Rattle.round.specs.declared.Position.{Position}
use Rattle.round.specs.State.{State, with_game}
use Rattle.round.specs.Rounds.{Ticks, behind_turn, with_end, after_turn, for_next_pass}
use Rattle.rules.specs.Instructions.{Status}
use Rattle.rules.specs.Schedulers.{has}
use Rattle.rules.specs.Instants.{with_status, with_termination}
use Rattle.rules.specs.Instants as paper
use Rattle.rules.specs.Scheduled.{scheduler_in}
use Rattle.rules.proofs.Walks.{Marks, Shows, ends_as, rests_as, misses_as, continues_as}
use Rattle.rules.proofs.Stages.{seen, stage_after_lem}
use Rattle.rules.proofs.Effects.{keeps, changes, routine_view}

module _ (s : State) (ms : Marks) where
  pub actual_seen : (scheduler_in s ms).actual ≡ entries_of s.game.listed
  unfolding scheduler_in
  actual_seen = refl

  -- the flags for another pass
  pub next_pass_seen : scheduler_in (for_next_pass s) ms ≡ paper.for_next_step (scheduler_in s ms)
  unfolding scheduler_in
  next_pass_seen = refl

module _ (s : State) (ms : Marks) (r : ℕ) where
  pub suspended_seen : has (scheduler_in s ms).threads.susp r ≡ (routine_at s.game r).suspended
  unfolding scheduler_in
  suspended_seen = get_or-map (λ x. x.suspended) s.game.routines r blank

  behind_seen :
      {size : ℕ} {h : Ending} {y : Position} {α : Status} → Shows size y h α →
      scheduler_in (with_game s (with_routine s.game r (behind_turn (routine_at s.game r) h y))) ms ≡ with_status r α (scheduler_in s ms)
  unfolding scheduler_in
  behind_seen {h = h} {y = y} how =
      let x = behind_turn (routine_at s.game r) h y in
      routine_view s r x ms (changes s r x seen ∙ ap (set (map seen s.game.routines) r) (stage_after_lem how))
      (keeps s r x (λ a. a.suspended) refl) (keeps s r x (λ a. a.stopping) refl)
      (keeps s r x (λ a. a.suspending) refl) (keeps s r x (λ a. a.resuming) refl)

  end_seen :
      {size : ℕ} {h : Ending} {y : Position} {α : Status} → Shows size y h α →
      scheduler_in (with_end h r s) ms ≡ with_termination α r (scheduler_in s ms)
  unfolding scheduler_in
  end_seen (ends_as e) = refl
  end_seen (rests_as w e) = refl
  end_seen (misses_as w e) = refl
  end_seen continues_as = refl

pub after_seen :
    {size : ℕ} {α : Status} (r : ℕ) (t : Ticks) (ms : Marks) → Shows size t.position t.ending α →
    scheduler_in (after_turn r t) ms ≡ with_termination α r (with_status r α (scheduler_in t.state ms))
after_seen {α = α} r t ms how = end_seen _ ms r how ∙ ap (λ σ. with_termination α r σ) (behind_seen t.state ms r how)
