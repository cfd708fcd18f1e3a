-- A routine's stage in a state and its status in the scheduler that the state stands for: what the definitions ask of the stage is what
-- the paper asks of the status. By the stages one by one, and by an entry of a map.
use Prim.Native.Nat.{ℕ, zero, suc, ◌≤◌}
use mathlib.Core.Path.{◌≡◌, refl, ap, ◌∙◌}
use mathlib.Core.Bool.{false, ◌||◌, true≢false}
use mathlib.Core.Logic.{◌≢◌}
use native.Mathlib.Omega.{arith}
use borrow.Author.Tests.{eqb-false, ne_eqb, le-leb}
use lib.Dec.{eqb}
use lib.ListN.{get_or-map}
use Rattle.game.specs.declared.Routine.{Routine}
use Rattle.game.specs.Game.{not_started, continuing, rested, ended, blank, routine_at}
use Rattle.round.specs.declared.Ending.{Ending}
use Rattle.round.specs.declared.Position.{Position}
use Rattle.round.specs.State.{State, counts_as_ended}
use Rattle.round.specs.Rounds.{stage_after}
use Rattle.rules.specs.Instructions.{Status}
use Rattle.rules.specs.Schedulers.{Stage, stage_by, status_of, is_not_started}
use Rattle.rules.specs.Schedulers as paper
use Rattle.rules.specs.Instants.{is_under_way, is_terminated}
use Rattle.rules.specs.Scheduled.{stage_of, scheduler_in}
use Rattle.rules.proofs.Walks.{Marks, Shows, ends_as, rests_as, misses_as, continues_as}

-- a claim on stages 0 to 3 and on all others
by_stage :
    (P : ℕ → Type 0) → P 0 → P 1 → P 2 → P 3 →
    ((k : ℕ) → eqb k 0 ≡ false → eqb k 1 ≡ false → eqb k 2 ≡ false → eqb k 3 ≡ false → P k) → (k : ℕ) → P k
by_stage P a b c d other zero = a
by_stage P a b c d other (suc zero) = b
by_stage P a b c d other (suc (suc zero)) = c
by_stage P a b c d other (suc (suc (suc zero))) = d
by_stage P a b c d other (suc (suc (suc (suc k)))) =
    let n = suc (suc (suc (suc k))) in
    other n (ne_eqb n 0 (λ e. omega arith)) (ne_eqb n 1 (λ e. omega arith)) (ne_eqb n 2 (λ e. omega arith)) (ne_eqb n 3 (λ e. omega arith))

not_started_stage : (k : ℕ) → is_not_started (stage_of k) ≡ eqb k not_started
not_started_stage = by_stage (λ k. is_not_started (stage_of k) ≡ eqb k not_started) refl refl refl refl (λ k a b c d. rw (a, b, c, d))

pub terminated_stage : (k : ℕ) → is_terminated (stage_of k) ≡ eqb k ended
terminated_stage = by_stage (λ k. is_terminated (stage_of k) ≡ eqb k ended) refl refl refl refl (λ k a b c d. rw (a, b, c, d))

pub under_way_stage : (k : ℕ) → is_under_way (stage_of k) ≡ (eqb k continuing || eqb k rested)
under_way_stage =
    by_stage (λ k. is_under_way (stage_of k) ≡ (eqb k continuing || eqb k rested)) refl refl refl refl (λ k a b c d. rw (a, b, c, d))

pub stage_continues : (k : ℕ) → k ≡ continuing → stage_of k ≡ paper.continuing
stage_continues k e = rw e

pub stage_pauses : (k : ℕ) → eqb k continuing ≡ false → stage_of k ≢ paper.continuing
stage_pauses =
    by_stage (λ k. eqb k continuing ≡ false → stage_of k ≢ paper.continuing)
    (λ e h. true≢false (cc)) (λ e h. true≢false e) (λ e h. true≢false (cc)) (λ e h. true≢false (cc))
    (λ k a b c d e h. let g = rw (a, b, c, d) at h in true≢false (cc))

-- behind a turn
pub stage_after_lem : {size : ℕ} {y : Position} {h : Ending} {α : Status} → Shows size y h α → stage_of (stage_after h) ≡ stage_by α
stage_after_lem (ends_as e) = refl
stage_after_lem (rests_as w e) = refl
stage_after_lem (misses_as w e) = refl
stage_after_lem continues_as = refl

-- a routine's status
abbrev pub seen : Routine → Stage
seen x = stage_of x.stage

-- what a join asks of it
counts_stage : (k : ℕ) → paper.counts_as_ended (stage_of k) ≡ counts_as_ended k
counts_stage =
    by_stage (λ k. paper.counts_as_ended (stage_of k) ≡ counts_as_ended k) refl refl refl refl
    (λ k a b c d.
    let high : ended ≤ k = omega (arith, eqb-false k 0 a, eqb-false k 1 b, eqb-false k 2 c) in
    rw (a, b, c, d, le-leb ended k high))

module _ (s : State) (ms : Marks) (t : ℕ) where
  pub stage_seen : status_of (scheduler_in s ms) t ≡ seen (routine_at s.game t)
  unfolding scheduler_in
  stage_seen = get_or-map seen s.game.routines t blank

  pub not_started_view : is_not_started (status_of (scheduler_in s ms) t) ≡ eqb (routine_at s.game t).stage not_started
  not_started_view = ap is_not_started stage_seen ∙ not_started_stage (routine_at s.game t).stage

  pub counts_view : paper.counts_as_ended (status_of (scheduler_in s ms) t) ≡ counts_as_ended (routine_at s.game t).stage
  counts_view = ap paper.counts_as_ended stage_seen ∙ counts_stage (routine_at s.game t).stage
