-- What holds of each turn holds of a pass and of a round's passes: for any claim on a state and on the turns from it that holds of no turns
-- and of some after others. By induction on the listed routines, and on the passes allowed. So too for any claim on two states and the
-- events between them, from the states that turns keep.
use Prim.Native.Nat.{ℕ, zero, suc}
use mathlib.Core.List.{List, [], ◌∷◌, ◌++◌}
use Rattle.numbers.specs.Counting.{All}
use Rattle.numbers.proofs.Tests.{by_test}
use Rattle.game.specs.declared.Game.{Game}
use Rattle.round.specs.State.{State, Event}
use Rattle.round.specs.Actions.{at_start}
use Rattle.round.specs.Rounds.{PlayedTurns, followed_by, all_done, for_next_pass, most_passes, listed_in, turn, pass, PlayedRound, instant}
use Rattle.round.specs.Rounds.{round, trace_of}
use Rattle.round.proofs.Among.{each_among}

module _
    (Claim : State → PlayedTurns → Type 0) (none : (s : State) → Claim s (record { state = s; trace = []; turns = [] }))
    (both : (s : State) (p q : PlayedTurns) → Claim s p → Claim p.state q → Claim s (followed_by p q)) (book : List ℕ)
    (Listed : ℕ → Type 0) (turns : (r : ℕ) (s : State) → Listed r → Claim s (turn book r s))
  where
    pass_by : (rs : List ℕ) → All Listed rs → (s : State) → Claim s (pass book rs s)
    unfolding pass
    pass_by [] l s = none s
    pass_by (r ∷ rs) l s = let first = turn book r s in both s first _ (turns r s l.0) (pass_by rs l.1 first.state)

    pub instant_by :
        ((s : State) (p : PlayedTurns) → Claim (for_next_pass s) p → Claim s p) → (n : ℕ) (rs : List ℕ) → All Listed rs → (s : State) →
        Claim s (instant book n rs s).played
    unfolding instant
    instant_by next_pass zero rs l s = none s
    instant_by next_pass (suc n) rs l s =
        let first = pass book rs s in
        let others = (instant book n rs (for_next_pass first.state)).played in
        by_test (λ (d : PlayedRound). Claim s d.played) (all_done first.turns) (λ h. pass_by rs l s)
        (λ h.
        both s first others (pass_by rs l s) (next_pass first.state others (instant_by next_pass n rs l (for_next_pass first.state))))

module _
    (Claim : State → List Event → State → Type 0) (none : (s : State) → Claim s [] s)
    (both : (s u v : State) (a b : List Event) → Claim s a u → Claim u b v → Claim s (a ++ b) v) (book : List ℕ)
  where
    -- from the states that turns of the listed routines keep
    module _
        (Ok : State → Type 0) (Listed : ℕ → Type 0) (stays : (r : ℕ) (s : State) → Listed r → Ok s → Ok (turn book r s).state)
        (turns : (r : ℕ) (s : State) → Listed r → Ok s → Claim s (turn book r s).trace (turn book r s).state)
      where
        abbrev Kept : State → PlayedTurns → Type 0
        Kept s p = Ok s → Ok p.state × Claim s p.trace p.state

        kept_both : (s : State) (p q : PlayedTurns) → Kept s p → Kept p.state q → Kept s (followed_by p q)
        kept_both s p q first second ok =
            let (between, one) = first ok in
            let (last, two) = second between in
            (last, both _ _ _ _ _ one two)

        pub pass_along : (rs : List ℕ) → All Listed rs → (s : State) → Kept s (pass book rs s)
        pass_along = pass_by Kept (λ s ok. (ok, none s)) kept_both book Listed (λ r s l ok. (stays r s l ok, turns r s l ok))

        pub instant_along :
            ((s : State) → Ok s → Ok (for_next_pass s)) → ((s : State) → Claim s [] (for_next_pass s)) → (n : ℕ) (rs : List ℕ) → All Listed rs →
            (s : State) → Kept s (instant book n rs s).played
        instant_along stays_next_pass next_pass =
            instant_by Kept (λ s ok. (ok, none s)) kept_both book Listed (λ r s l ok. (stays r s l ok, turns r s l ok)) (λ s p rest ok.
            let (last, two) = rest (stays_next_pass s ok) in
            (last, both _ _ _ [] _ (next_pass s) two))

    -- what holds of every turn, whichever routines are listed
    module _ (turns : (r : ℕ) (s : State) → Claim s (turn book r s).trace (turn book r s).state) where
      any_listed : (rs : List ℕ) → All (λ r. Unit {0}) rs
      any_listed rs = each_among (λ r. Unit {0}) rs (λ r h. tt)

      pub pass_always : (rs : List ℕ) (s : State) → Claim s (pass book rs s).trace (pass book rs s).state
      pass_always rs s =
          (pass_along (λ s. Unit {0}) (λ r. Unit {0}) (λ r s l ok. tt) (λ r s l ok. turns r s) rs (any_listed rs) s tt).1

      pub instant_always :
          ((s : State) → Claim s [] (for_next_pass s)) → (n : ℕ) (rs : List ℕ) (s : State) →
          Claim s (instant book n rs s).played.trace (instant book n rs s).played.state
      instant_always next_pass n rs s =
          (instant_along (λ s. Unit {0}) (λ r. Unit {0}) (λ r s l ok. tt) (λ r s l ok. turns r s) (λ s ok. tt) next_pass n rs
          (any_listed rs) s tt).1

      pub round_always :
          ((s : State) → Claim s [] (for_next_pass s)) → (g : Game) → Claim (at_start g) (trace_of book g) (round book g).played.state
      unfolding round
      round_always next_pass g = instant_always next_pass most_passes (listed_in g) (at_start g)
