-- The passes of a round, from the laws of turns alone: they come to an end, they are few, they leave nobody going, and who missed what came
-- has gone past it. By induction on the passes allowed: a pass is the last one, or moved something, or is the last but one.
use Prim.Native.Nat.{ℕ, zero, suc, ◌+◌, ◌≤◌}
use mathlib.Core.Path.{◌≡◌, refl, ap, ◌∙◌, subst}
use mathlib.Core.Bool.{true, false, not}
use mathlib.Core.List.{List, [], append-nil}
use mathlib.Core.Logic.{◌⊎◌, inl, inr}
use native.Mathlib.Omega.{arith}
use Rattle.numbers.specs.Counting.{All, Among}
use Rattle.numbers.proofs.Tests.{clash, by_test, by_flag}
use Rattle.round.specs.State.{State, Thing, Event, is_there}
use Rattle.round.specs.Rounds.{followed_by, all_done, for_next_pass, pass, PlayedRound, instant}
use Rattle.round.specs.claims.Demand.{CatchesUp}
use Rattle.round.specs.claims.Enough.{RoundEnds}
use Rattle.round.proofs.Traces.{moves_append, nothing_comes}
use Rattle.round.proofs.Asking.{asks_once}
use Rattle.round.proofs.TurnLaws.{is_going, moves, Waits, WaitsForMissing, TurnLaws}
use Rattle.round.proofs.Waiting.{pass_stays, moved_pass, done_pass}
use Rattle.round.proofs.Closing.{all_stuck, closing_pass}
use Rattle.round.proofs.CatchingUp.{Caught, catches, quiet_caught, Owed, owed_next_pass, caught_pass}

-- what is claimed of the passes of a round over the routines of L
pub record FairRound (L : List ℕ) (R : PlayedRound) : Type 0 where
  pub few : R.passes ≤ 2 + moves R.played.trace
  pub none_going : (r : ℕ) → Among r L → is_going R.played.state r ≡ false
  pub catches_up : CatchesUp R.played.trace

module _
    {book : List ℕ} {Listed : ℕ → Type 0} {Ok : State → Type 0} (laws : TurnLaws book Listed Ok) (L : List ℕ) (listed : All Listed L)
  where
    pub round_ends :
        (budget : State → ℕ) →
        ((s : State) → Ok s → moves (pass book L s).trace + budget (pass book L s).state ≤ budget s) →
        ((s : State) → budget (for_next_pass s) ≡ budget s) →
        (n : ℕ) (s : State) → Ok s → s.eoi ≡ false → s.moved ≡ false → budget s + 2 ≤ n → RoundEnds book n L s
    unfolding RoundEnds
    round_ends budget falls same zero s k e m h = absurd (omega arith)
    round_ends budget falls same (suc zero) s k e m h = absurd (omega arith)
    round_ends budget falls same (suc (suc n)) s k e m h =
        let w = (pass book L s).state in
        let ok = pass_stays laws L listed s k in
        by_flag (all_done (pass book L s).turns) (λ d. inl d) (λ d.
        inr (
          d,
          by_flag w.moved
              (λ x.
              round_ends budget falls same (suc n) (for_next_pass w) (laws.stays_next_pass w ok) (ap not x) refl
              (omega (arith, falls s k, same w, moved_pass laws L listed s k m x)))
              (λ x. inl (closing_pass laws L listed s k x).1),
        ))

    -- a routine that lacks its thing waits for no other
    not_there : (s : State) (r p : ℕ) (t : Thing) → Waits book s r p t → WaitsForMissing book s r → is_there s t ≡ true → ⊥
    not_there s r p t w x h = clash h (ap (is_there s) (asks_once w.asks.0 x.waits.asks.0) ∙ x.missed)

    -- the same of the passes from a state on, in what is owed
    record Fair (s : State) (R : PlayedRound) : Type 0 where
      few : R.passes ≤ 2 + moves R.played.trace
      none : (r : ℕ) → Among r L → is_going R.played.state r ≡ false
      caught : Owed book L s R.played.trace × Caught R.played.trace

    module _ (s : State) (k : Ok s) (e : s.eoi ≡ false) where
      -- the last pass
      at_once : all_done (pass book L s).turns ≡ true → Fair s (record { played = pass book L s; passes = 1 })
      at_once d =
          let none : (r : ℕ) → Among r L → is_going (pass book L s).state r ≡ false = λ r i. done_pass laws L listed s k d r (inl i) in
          let events = (pass book L s).trace in
          record {
            few = omega arith;
            none = none;
            caught =
                subst (λ (h : List Event). Owed book L s h × Caught h) (append-nil events)
                (caught_pass laws L L listed (λ r i. i) s k e [] (λ r p t i g w c. clash g (none r i)) tt);
          }

      -- a pass, and those behind it
      joined :
          (R : PlayedRound) → R.passes + 1 ≤ 2 + (moves (pass book L s).trace + moves R.played.trace) →
          ((r : ℕ) → Among r L → is_going R.played.state r ≡ false) →
          Owed book L (pass book L s).state R.played.trace → Caught R.played.trace →
          Fair s (record { played = followed_by (pass book L s) R.played; passes = R.passes + 1 })
      joined R few none owed caught =
          record {
            few = omega (arith, moves_append (pass book L s).trace R.played.trace);
            none = none;
            caught = caught_pass laws L L listed (λ r i. i) s k e R.played.trace owed caught;
          }

      -- behind a pass without a move there is one more, and nothing comes in it
      closing :
          (pass book L s).state.moved ≡ false →
          Fair s (record { played = followed_by (pass book L s) (pass book L (for_next_pass (pass book L s).state)); passes = 2 })
      closing w =
          let p = (pass book L s).state in
          let stays = pass_stays laws L listed s k in
          let ok = laws.stays_next_pass p stays in
          let (quiet, done) = closing_pass laws L listed s k w in
          let events = (pass book L (for_next_pass p)).trace in
          joined (record { played = pass book L (for_next_pass p); passes = 1 }) (omega arith)
          (λ r i. done_pass laws L listed (for_next_pass p) ok done r (inl i))
          (λ r q t i g a c.
          elim c [
            | inl there ↦ absurd (not_there p r q t a (all_stuck laws L listed s k w r i g) there)
            | inr comes ↦ absurd (nothing_comes t events quiet comes)
          ])
          (quiet_caught events quiet)

    fair : (n : ℕ) (s : State) → Ok s → s.eoi ≡ false → s.moved ≡ false → RoundEnds book n L s → Fair s (instant book n L s)
    unfolding RoundEnds instant
    fair zero s k e m ends = absurd ends
    fair (suc n) s k e m ends =
        let first = pass book L s in
        let u = for_next_pass first.state in
        let ok = laws.stays_next_pass first.state (pass_stays laws L listed s k) in
        by_test (Fair s) (all_done first.turns) (at_once s k e) (λ d.
        by_flag first.state.moved
        (λ w.
        let rest = fair n u ok (ap not w) refl (later d ends) in
        joined s k e (instant book n L u) (omega (arith, rest.few, moved_pass laws L listed s k m w)) rest.none
        (owed_next_pass book L first.state (instant book n L u).played.trace rest.caught.0) rest.caught.1)
        (λ w. closed n (later d ends) w))
      where
        later :
            all_done (pass book L s).turns ≡ false →
            (all_done (pass book L s).turns ≡ true) ⊎
            ((all_done (pass book L s).turns ≡ false) × RoundEnds book n L (for_next_pass (pass book L s).state)) →
            RoundEnds book n L (for_next_pass (pass book L s).state)
        later d (inl x) = clash x d
        later d (inr x) = x.1

        closed :
            (j : ℕ) → RoundEnds book j L (for_next_pass (pass book L s).state) → (pass book L s).state.moved ≡ false →
            let rest = instant book j L (for_next_pass (pass book L s).state) in
            Fair s (record { played = followed_by (pass book L s) rest.played; passes = rest.passes + 1 })
        closed zero x w = absurd x
        closed (suc j) x w =
            by_test
            (λ (R : PlayedRound). Fair s (record { played = followed_by (pass book L s) R.played; passes = R.passes + 1 }))
            (all_done (pass book L (for_next_pass (pass book L s).state)).turns) (λ d. closing s k e w)
            (λ d. clash (closing_pass laws L listed s k w).1 d)

    pub fair_round :
        (n : ℕ) (s : State) → Ok s → s.eoi ≡ false → s.moved ≡ false → RoundEnds book n L s → FairRound L (instant book n L s)
    fair_round n s k e m ends =
        let all = fair n s k e m ends in
        record {
          few = all.few;
          none_going = all.none;
          catches_up = catches (instant book n L s).played.trace all.caught.1;
        }
