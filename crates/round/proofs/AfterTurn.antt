-- A turn is passed over or taken, and the state behind one that is taken: where its routine stands, whether it goes on in the same round,
-- and what is missing there still. The turn's steps leave its routine where it stands, and the turn's end writes that routine alone.
use Prim.Native.Nat.{ℕ, ◌<◌}
use mathlib.Core.Path.{◌≡◌, refl, sym, ap, ◌∙◌}
use mathlib.Core.Bool.{Bool, true, false, ◌||◌, not, not-not}
use mathlib.Core.List.{List}
use native.Mathlib.Decide.{dec_lt}
use native.Mathlib.Omega.{arith}
use borrow.Author.Tests.{eqb-true}
use lib.Dec.{eqb}
use lib.ListN.{length, get_or-eq_default}
use lib.Seq.{get_or-set_same}
use Rattle.std.specs.Prelude.{Some}
use Rattle.numbers.proofs.Tests.{clash, by_test}
use Rattle.game.specs.declared.Routine.{Routine}
use Rattle.game.specs.Game.{continuing, blank, routine_at, with_routine}
use Rattle.orders.proofs.Stores.{same_set}
use Rattle.round.specs.declared.Ending.{Ending}
use Rattle.round.specs.declared.Ending.TheVariants.{Ended, Rested, Missed, Continued}
use Rattle.round.specs.declared.Position.{Position}
use Rattle.round.specs.State.{State, with_game, Thing, signal, end, number, counts_as_ended, is_there}
use Rattle.round.specs.Actions.{position_of, placed}
use Rattle.round.specs.Rounds.{Ticks, stage_after, with_end, behind_turn, after_turn, PlayedTurns, not_taken, taken, is_done}
use Rattle.round.specs.Rounds.{ticks_of, turn}
use Rattle.round.proofs.Effects.{same_end}
use Rattle.round.proofs.Standings.{SameStanding}
use Rattle.round.proofs.TurnLaws.{is_going}

-- a routine that takes a turn is not suspended, and in stage 1
pub going_parts :
    (suspended : Bool) (stage : ℕ) → not (suspended || not (eqb stage continuing)) ≡ true → (suspended ≡ false) × (stage ≡ continuing)
going_parts true stage h = clash h refl
going_parts false stage h = (refl, eqb-true stage continuing (sym (not-not _) ∙ h))

-- the stage in which a turn that is to be continued leaves its routine is the one in which it takes turns
going_after : (how : Ending) → not (not (eqb (stage_after how) continuing)) ≡ not (is_done (Some how))
going_after Ended = refl
going_after Rested = refl
going_after Missed = refl
going_after Continued = refl

-- what a routine's end keeps holds behind a turn however it ends
pub end_keeps : (P : State → Type 0) (how : Ending) (r : ℕ) (s : State) → (P s → P (with_end Ended r s)) → P s → P (with_end how r s)
end_keeps P Ended r s over h = over h
end_keeps P Rested r s over h = h
end_keeps P Missed r s over h = h
end_keeps P Continued r s over h = h

-- rules 33 and 34
module _ (book : List ℕ) (r : ℕ) (s : State) where
  pub turn_by :
      (P : PlayedTurns → Type 0) → (is_going s r ≡ false → P (not_taken s)) → (is_going s r ≡ true → P (taken r (ticks_of book r s))) →
      P (turn book r s)
  unfolding turn
  turn_by P over on =
      let x = routine_at s.game r in
      by_test P (x.suspended || not (eqb x.stage continuing)) (λ h. over (ap not h)) (λ h. on (ap not h))

  pub turn_over : is_going s r ≡ false → turn book r s ≡ not_taken s
  turn_over h = turn_by (λ p. p ≡ not_taken s) (λ g. refl) (λ g. clash g h)

  pub turn_taken : is_going s r ≡ true → turn book r s ≡ taken r (ticks_of book r s)
  turn_taken h = turn_by (λ p. p ≡ taken r (ticks_of book r s)) (λ g. clash h g) (λ g. refl)

-- the same things are there with routine r as a turn leaves it, if it counts as ended as it did
pub there_behind :
    (s : State) (r : ℕ) (how : Ending) (y : Position) →
    counts_as_ended (stage_after how) ≡ counts_as_ended (routine_at s.game r).stage → (t : Thing) →
    is_there (with_game s (with_routine s.game r (behind_turn (routine_at s.game r) how y))) t ≡ is_there s t
unfolding is_there
there_behind s r how y same (signal e) = refl
there_behind s r how y same (end q) = same_end s _ q (same_set (λ x. counts_as_ended x.stage) s.game.routines r _ blank same q) refl
there_behind s r how y same (number e k) = refl

-- a routine to be continued where it stands is as it was
pub behind_same : (x : Routine) → x.stage ≡ continuing → behind_turn x Continued (position_of x) ≡ x
behind_same x e = ap (λ k. placed x k (position_of x)) (sym e)

-- behind a turn of routine r with these steps, which leave it standing as it did
module _
    (r : ℕ) (s : State) (t : Ticks) (standing : SameStanding (routine_at t.state.game r) (routine_at s.game r))
    (going : is_going s r ≡ true)
  where
    standing_going : ((routine_at t.state.game r).suspended ≡ false) × ((routine_at t.state.game r).stage ≡ continuing)
    standing_going =
        let (suspended, stage) = going_parts (routine_at s.game r).suspended (routine_at s.game r).stage going in
        (standing.suspended ∙ suspended, standing.stage ∙ stage)

    -- a routine in stage 1 is one of those that the game keeps: behind them all fields are 0
    kept_there : r < length t.state.game.routines
    kept_there = elim (dec_lt r (length t.state.game.routines)) [
      | yes l ↦ l
      | no n ↦
          let out : routine_at t.state.game r ≡ blank = get_or-eq_default t.state.game.routines blank (omega arith) in
          absurd (omega (arith, ap (λ (x : Routine). x.stage) out, standing_going.1))
    ]

    pub routine_after : routine_at (after_turn r t).game r ≡ behind_turn (routine_at t.state.game r) t.ending t.position
    routine_after =
        let x = behind_turn (routine_at t.state.game r) t.ending t.position in
        end_keeps (λ u. routine_at u.game r ≡ x) t.ending r _ (λ h. h)
        (get_or-set_same t.state.game.routines r x blank kept_there)

    -- the routine stands where its steps left it
    pub position_after_lem : position_of (routine_at (after_turn r t).game r) ≡ t.position
    position_after_lem = ap position_of routine_after

    -- it takes another turn in the same round if this one is to be continued
    pub after_going : is_going (after_turn r t) r ≡ not (is_done (Some t.ending))
    after_going = rw (routine_after, standing_going.0, going_after t.ending)

    -- what is missing behind the steps is missing behind a turn that is to be continued
    pub after_missing : t.ending ≡ Continued → (thing : Thing) → is_there t.state thing ≡ false → is_there (after_turn r t) thing ≡ false
    after_missing e thing h =
        let same = there_behind t.state r Continued t.position (ap counts_as_ended (sym standing_going.1)) thing in
        rw e (same ∙ h)
