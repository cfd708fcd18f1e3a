-- Where a routine stands behind turns and passes, by what its thread did last in them: a turn moves its own routine alone, and one that is
-- to be continued takes another turn in the same round. Behind a round no routine takes a turn, so this says where each is left.
use Prim.Native.Nat.{ℕ}
use mathlib.Core.Path.{◌≡◌, ◌∙◌, ap}
use mathlib.Core.Bool.{true, false, not}
use mathlib.Core.List.{List}
use Rattle.std.specs.Prelude.{Some}
use Rattle.numbers.proofs.Tests.{clash}
use Rattle.directory.specs.Directory.{step_count}
use Rattle.game.specs.declared.Game.{Game}
use Rattle.game.specs.Game.{routine_at}
use Rattle.round.specs.declared.Ending.{Ending}
use Rattle.round.specs.declared.Position.{Position}
use Rattle.round.specs.Actions.{position_of}
use Rattle.round.specs.Ticks.{fresh}
use Rattle.round.specs.Rounds.{is_done}
use Rattle.round.proofs.Standings.{SameStanding, standing_then}
use Rattle.round.proofs.TurnLaws.{takes_turn}
use Rattle.rules.specs.Instructions.{Status, TERM, COOP, CONT}
use Rattle.rules.specs.Instants.{Execution, passed_over, executed}
use Rattle.rules.specs.Positions.{paused_at, second_or, LeftBy, stays, ended, paused}
use Rattle.rules.proofs.Walks.{Shows, ends_as, rests_as, misses_as, continues_as}

module _ (book : List ℕ) (r : ℕ) where
  -- routine r in game u, to which its thread has come from game s
  abbrev pub Behind : Execution → Game → Game → Type 0
  Behind passed_over s u = SameStanding (routine_at u r) (routine_at s r)
  Behind (executed TERM) s u = position_of (routine_at u r) ≡ fresh (step_count book r)
  Behind (executed (COOP w)) s u = position_of (routine_at u r) ≡ paused_at w
  Behind (executed CONT) s u = takes_turn (routine_at u r) ≡ true

  -- behind a turn of its own
  pub shows_behind :
      (s u : Game) {size : ℕ} {y : Position} {h : Ending} {α : Status} → size ≡ step_count book r → Shows size y h α →
      position_of (routine_at u r) ≡ y → takes_turn (routine_at u r) ≡ not (is_done (Some h)) → Behind (executed α) s u
  shows_behind s u all (ends_as e) place on = place ∙ e ∙ ap fresh all
  shows_behind s u all (rests_as w e) place on = place ∙ e
  shows_behind s u all (misses_as w e) place on = place ∙ e
  shows_behind s u all continues_as place on = on

  standing_behind :
      (x : Execution) (s u v : Game) → Behind x s u → SameStanding (routine_at v r) (routine_at u r) → Behind x s v
  standing_behind passed_over s u v b same = standing_then b same
  standing_behind (executed TERM) s u v b same = same.position ∙ b
  standing_behind (executed (COOP w)) s u v b same = same.position ∙ b
  standing_behind (executed CONT) s u v b same = rw (same.suspended, same.stage) b

  pub behind_then : (x y : Execution) (s u v : Game) → Behind x s u → Behind y u v → Behind (second_or x y) s v
  behind_then x passed_over s u v b c = standing_behind x s u v b c
  behind_then x (executed TERM) s u v b c = c
  behind_then x (executed (COOP w)) s u v b c = c
  behind_then x (executed CONT) s u v b c = c

  -- where it takes no turn any more
  pub left_at_lem :
      (x : Execution) (s u : Game) → Behind x s u → takes_turn (routine_at u r) ≡ false →
      LeftBy (step_count book r) (position_of (routine_at s r)) x (position_of (routine_at u r))
  left_at_lem passed_over s u b off = rw b.position stays
  left_at_lem (executed TERM) s u b off = rw b ended
  left_at_lem (executed (COOP w)) s u b off = rw b paused
  left_at_lem (executed CONT) s u b off = clash b off
