-- Behind a pass without a move the round is closed: whoever is still going waits for a thing that is not there, so the next pass, with eoi
-- set, finds the same things missing, moves nothing, and leaves nobody going. By induction on the routines of the pass.
use Prim.Native.Nat.{ℕ}
use mathlib.Core.Path.{◌≡◌, refl, ap, ◌∙◌}
use mathlib.Core.Bool.{true, false, not}
use mathlib.Core.List.{List, [], ◌∷◌}
use mathlib.Core.Logic.{inl, inr}
use native.Mathlib.Decide.{ℕ_discrete}
use native.Mathlib.Omega.{arith}
use Rattle.numbers.specs.Counting.{All, how_many, Among}
use Rattle.numbers.proofs.Tests.{clash, both_true, not_true_false, by_flag}
use Rattle.round.specs.State.{State, Thing, signal, end, number, is_there, is_end_there}
use Rattle.round.specs.Rounds.{PlayedTurns, all_done, for_next_pass, turn, pass}
use Rattle.round.proofs.Traces.{moves_append}
use Rattle.round.proofs.TurnLaws.{is_going, moves, Waits, TurnLaws}
use Rattle.round.proofs.Waiting.{done_append, pass_stays, unmoved_pass, turn_done, was_going}
use Rattle.round.proofs.Waiting.{Stuck, stuck_own, stuck_other, stuck_pass}

-- the flags for another pass change nothing else: who waits, and what is there
pub there_next_pass : (s : State) (t : Thing) → is_there (for_next_pass s) t ≡ is_there s t
unfolding is_there is_end_there
there_next_pass s (signal e) = refl
there_next_pass s (end r) = refl
there_next_pass s (number e k) = refl

pub waits_next_pass : {book : List ℕ} {s : State} {r p : ℕ} {t : Thing} → Waits book s r p t → Waits book (for_next_pass s) r p t
waits_next_pass w = record { place = w.place; asks = w.asks }

stuck_again : (book : List ℕ) (s : State) (r : ℕ) → Stuck book s r → Stuck book (for_next_pass s) r
stuck_again book s r h g =
    let w = h g in
    record {
      place = w.place;
      thing = w.thing;
      waits = waits_next_pass w.waits;
      missed = there_next_pass s w.thing ∙ w.missed;
    }

module _ {book : List ℕ} {Listed : ℕ → Type 0} {Ok : State → Type 0} (laws : TurnLaws book Listed Ok) where
  -- who waits for what is not there moves nothing
  quiet_turn : (r : ℕ) (s : State) → Listed r → Ok s → Stuck book s r → moves (turn book r s).trace ≡ 0
  unfolding how_many
  quiet_turn r s l k h =
      by_flag (is_going s r)
      (λ g. let w = h g in ap moves (laws.misses_again r w.place w.thing s l k g w.waits w.missed))
      (λ g. ap (λ (p : PlayedTurns). moves p.trace) (laws.over r s l k g))

  quiet_pass :
      (l : List ℕ) → All Listed l → (s : State) → Ok s → ((q : ℕ) → Among q l → Stuck book s q) →
      moves (pass book l s).trace ≡ 0
  unfolding pass how_many
  quiet_pass [] a s k h = refl
  quiet_pass (r ∷ l) a s k h =
      let first = turn book r s in
      let rest = quiet_pass l a.1 first.state (laws.stays r s a.0 k) stuck in
      omega (arith, quiet, moves_append first.trace (pass book l first.state).trace)
    where
      quiet : moves (turn book r s).trace ≡ 0
      quiet = quiet_turn r s a.0 k (h r (inl refl))

      stuck : (q : ℕ) → Among q l → Stuck book (turn book r s).state q
      stuck q i =
          elim (ℕ_discrete q r) [
            | yes e ↦ rw e (stuck_own laws r s a.0 k)
            | no n ↦ stuck_other laws r q s a.0 k n quiet (h q (inr i))
          ]

  -- with eoi set every turn is done
  closed_turn : (r : ℕ) (s : State) → Listed r → Ok s → s.eoi ≡ true → all_done (turn book r s).turns ≡ true
  closed_turn r s l k e =
      turn_done laws r s l k ∙
      ap not (not_true_false _ (λ g. clash e (laws.continues r s l k (was_going laws r s l k g) g).0))

  closed_pass :
      (l : List ℕ) → All Listed l → (s : State) → Ok s → s.eoi ≡ true → all_done (pass book l s).turns ≡ true
  unfolding pass all_done
  closed_pass [] a s k e = refl
  closed_pass (r ∷ l) a s k e =
      let first = turn book r s in
      done_append first.turns (pass book l first.state).turns ∙
      both_true (closed_turn r s a.0 k e)
      (closed_pass l a.1 first.state (laws.stays r s a.0 k) ((laws.turned r s a.0 k).flags.eoi ∙ e))

  module _ (L : List ℕ) (listed : All Listed L) where
    -- behind a pass without a move
    pub all_stuck :
        (s : State) → Ok s → (pass book L s).state.moved ≡ false → (q : ℕ) → Among q L → Stuck book (pass book L s).state q
    all_stuck s k w q i = stuck_pass laws L listed s k (unmoved_pass laws L listed s k w) q (inl i)

    pub closing_pass :
        (s : State) → Ok s → (pass book L s).state.moved ≡ false →
        let u = for_next_pass (pass book L s).state in
        (moves (pass book L u).trace ≡ 0) × (all_done (pass book L u).turns ≡ true)
    closing_pass s k w =
        let p = (pass book L s).state in
        let ok = laws.stays_next_pass p (pass_stays laws L listed s k) in (
          quiet_pass L listed (for_next_pass p) ok (λ q i. stuck_again book p q (all_stuck s k w q i)),
          closed_pass L listed (for_next_pass p) ok (ap not w),
        )
