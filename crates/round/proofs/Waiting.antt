-- What a pass keeps and what its flag says, from the laws of turns. A pass whose turns are all done leaves nobody of it going, and behind
-- a pass without a move everybody of it who is still going is stuck: it waits for a thing that is not there. Both by one induction on the
-- pass's routines, for a claim that a turn brings about for its own routine and keeps for the others.
use Prim.Native.Nat.{ℕ, ◌<◌}
use mathlib.Core.Path.{◌≡◌, refl, sym, ap, ◌∙◌, subst}
use mathlib.Core.Bool.{true, false, ◌&&◌, not, and-true, and_assoc, not-not}
use mathlib.Core.List.{List, [], ◌∷◌, ◌++◌}
use mathlib.Core.Logic.{◌⊎◌, inl, inr, ◌≢◌}
use native.Mathlib.Decide.{ℕ_discrete}
use native.Mathlib.Omega.{arith}
use Rattle.std.specs.Prelude.{Option, Some}
use Rattle.numbers.specs.Counting.{All, Among}
use Rattle.numbers.proofs.Tests.{and_both, not_true_false, by_flag}
use Rattle.numbers.proofs.Tests.{clash}
use Rattle.round.specs.declared.Ending.{Ending}
use Rattle.round.specs.State.{State, Event}
use Rattle.round.specs.Rounds.{PlayedTurns, followed_by, is_done, all_done, turn, pass}
use Rattle.round.proofs.Along.{pass_along}
use Rattle.round.proofs.Traces.{moves_append, nothing_comes}
use Rattle.round.proofs.TurnLaws.{is_going, moves, Passed, passed_same, others_going, waits_too, WaitsForMissing, TurnLaws}

pub done_append : (a b : List (Option Ending)) → all_done (a ++ b) ≡ (all_done a && all_done b)
unfolding all_done
done_append [] b = refl
done_append (t ∷ a) b = ap (λ d. is_done t && d) (done_append a b) ∙ sym (and_assoc (is_done t) (all_done a) (all_done b))

passed_then : (s u v : State) (a b : List Event) → Passed s a u → Passed u b v → Passed s (a ++ b) v
passed_then s u v a b x y =
    let e = moves_append a b in
    record {
      eoi = y.eoi ∙ x.eoi;
      unmoved = λ m. y.unmoved (omega arith) ∙ x.unmoved (omega arith);
      moved = λ m. elim (ℕ_discrete (moves b) 0) [
        | yes z ↦ y.unmoved z ∙ x.moved (omega arith)
        | no n ↦ y.moved (omega arith)
      ];
    }

-- a routine is stuck if it waits for a thing that is not there, where it is still going
abbrev pub Stuck : List ℕ → State → ℕ → Type 0
Stuck book s r = is_going s r ≡ true → WaitsForMissing book s r

module _ {book : List ℕ} {Listed : ℕ → Type 0} {Ok : State → Type 0} (laws : TurnLaws book Listed Ok) where
  stays_passed :
      (l : List ℕ) → All Listed l → (s : State) → Ok s →
      Ok (pass book l s).state × Passed s (pass book l s).trace (pass book l s).state
  stays_passed =
      pass_along Passed passed_same passed_then book Ok Listed laws.stays (λ r s l k. (laws.turned r s l k).flags)

  passed : (l : List ℕ) → All Listed l → (s : State) → Ok s → Passed s (pass book l s).trace (pass book l s).state
  passed l a s k = (stays_passed l a s k).1

  pub pass_stays : (l : List ℕ) → All Listed l → (s : State) → Ok s → Ok (pass book l s).state
  pass_stays l a s k = (stays_passed l a s k).0

  -- behind a pass the flag says whether anything moved in it, if it was not set before
  pub unmoved_pass :
      (l : List ℕ) → All Listed l → (s : State) → Ok s → (pass book l s).state.moved ≡ false → moves (pass book l s).trace ≡ 0
  unmoved_pass l a s k e =
      elim (ℕ_discrete (moves (pass book l s).trace) 0) [ yes z ↦ z | no n ↦ clash ((passed l a s k).moved (omega arith)) e ]

  pub moved_pass :
      (l : List ℕ) → All Listed l → (s : State) → Ok s → s.moved ≡ false → (pass book l s).state.moved ≡ true →
      0 < moves (pass book l s).trace
  moved_pass l a s k m e =
      elim (ℕ_discrete (moves (pass book l s).trace) 0) [
        | yes z ↦ clash e ((passed l a s k).unmoved z ∙ m)
        | no n ↦ omega arith
      ]

  -- a turn is done exactly if its routine is not going behind it
  pub turn_done :
      (r : ℕ) (s : State) → Listed r → Ok s → all_done (turn book r s).turns ≡ not (is_going (turn book r s).state r)
  unfolding all_done
  turn_done r s l k =
      by_flag (is_going s r)
      (λ g.
      let (h, e, i) = laws.out r s l k g in
      ap all_done e ∙ and-true (is_done (Some h)) ∙ sym (not-not (is_done (Some h))) ∙ sym (ap not i))
      (λ g. subst (λ (p : PlayedTurns). all_done p.turns ≡ not (is_going p.state r)) (sym (laws.over r s l k g)) (sym (ap not g)))

  -- a turn leaves nobody going who was not
  pub was_going : (r : ℕ) (s : State) → Listed r → Ok s → is_going (turn book r s).state r ≡ true → is_going s r ≡ true
  was_going r s l k g =
      by_flag (is_going s r) (λ h. h) (λ h. clash g (ap (λ (p : PlayedTurns). is_going p.state r) (laws.over r s l k h) ∙ h))

  -- behind a pass that is such, a claim holds of each routine of it and of each of which it held, if a turn that is such brings it about
  -- for its own routine and keeps it for the others
  module _
      (Claim : State → ℕ → Type 0) (Such : PlayedTurns → Type 0) (parts : (p q : PlayedTurns) → Such (followed_by p q) → Such p × Such q)
      (own : (r : ℕ) (s : State) → Listed r → Ok s → Such (turn book r s) → Claim (turn book r s).state r)
      (other :
      (r q : ℕ) (s : State) → Listed r → Ok s → q ≢ r → Such (turn book r s) → Claim s q → Claim (turn book r s).state q)
    where
      behind_pass :
          (l : List ℕ) → All Listed l → (s : State) → Ok s → Such (pass book l s) → (q : ℕ) → Among q l ⊎ Claim s q →
          Claim (pass book l s).state q
      unfolding pass
      behind_pass [] a s k h q (inl i) = absurd i
      behind_pass [] a s k h q (inr x) = x
      behind_pass (r ∷ l) a s k h q i =
          let first = turn book r s in
          let (now, rest) = parts first (pass book l first.state) h in
          behind_pass l a.1 first.state (laws.stays r s a.0 k) rest q
          (elim (ℕ_discrete q r) [ yes e ↦ inr (rw e (own r s a.0 k now)) | no n ↦ next n now i ])
        where
          next : q ≢ r → Such (turn book r s) → Among q (r ∷ l) ⊎ Claim s q → Among q l ⊎ Claim (turn book r s).state q
          next n now (inl (inl e)) = absurd (n e)
          next n now (inl (inr i)) = inl i
          next n now (inr x) = inr (other r q s a.0 k n now x)

  -- nobody of it is going, if all are done
  pub done_pass :
      (l : List ℕ) → All Listed l → (s : State) → Ok s → all_done (pass book l s).turns ≡ true →
      (q : ℕ) → Among q l ⊎ (is_going s q ≡ false) → is_going (pass book l s).state q ≡ false
  done_pass =
      behind_pass (λ s q. is_going s q ≡ false) (λ p. all_done p.turns ≡ true)
      (λ p q d. and_both _ _ (sym (done_append p.turns q.turns) ∙ d))
      (λ r s l k d. not_true_false _ (λ g. clash d (turn_done r s l k ∙ ap not g)))
      (λ r q s l k n d g. others_going (laws.turned r s l k) q n ∙ g)

  pub stuck_own : (r : ℕ) (s : State) → Listed r → Ok s → Stuck book (turn book r s).state r
  stuck_own r s l k g = (laws.continues r s l k (was_going r s l k g) g).1.halt

  pub stuck_other :
      (r q : ℕ) (s : State) → Listed r → Ok s → q ≢ r → moves (turn book r s).trace ≡ 0 → Stuck book s q →
      Stuck book (turn book r s).state q
  stuck_other r q s l k n m h g =
      let turned = laws.turned r s l k in
      let w = h (sym (others_going turned q n) ∙ g) in
      record {
        place = w.place;
        thing = w.thing;
        waits = waits_too book q w.place w.thing s _ (turned.standings.others q n).position w.waits;
        missed =
            not_true_false _ (λ t.
            nothing_comes w.thing (turn book r s).trace m (turned.came w.thing w.missed t));
      }

  -- everybody of it who is still going is stuck, if nothing moved
  pub stuck_pass :
      (l : List ℕ) → All Listed l → (s : State) → Ok s → moves (pass book l s).trace ≡ 0 →
      (q : ℕ) → Among q l ⊎ Stuck book s q → Stuck book (pass book l s).state q
  stuck_pass =
      behind_pass (Stuck book) (λ p. moves p.trace ≡ 0)
      (λ p q m. let sum = moves_append p.trace q.trace in (omega arith, omega arith))
      (λ r s l k m. stuck_own r s l k) (λ r q s l k n. stuck_other r q s l k n)
