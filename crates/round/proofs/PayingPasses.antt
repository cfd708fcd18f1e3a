-- Where each turn pays for its events from what its routine has left, the passes of a round have no more events than all have left: for
-- any test of events and whatever is left, since a turn leaves every other routine what it has. By the claim that the events and
-- what is left to all the listed routines are together at most what was left to them.
use Prim.Native.Nat.{ℕ, ◌+◌, ◌<◌, ◌≤◌}
use mathlib.Core.Bool.{Bool}
use mathlib.Core.List.{List, [], ◌∷◌, ◌++◌}
use mathlib.Core.Logic.{inl, inr}
use native.Mathlib.Decide.{ℕ_discrete}
use native.Mathlib.Omega.{arith}
use Rattle.numbers.specs.Counting.{All, sum_over, how_many, Among}
use Rattle.layout.specs.Layout.{routines_of}
use Rattle.book.specs.Accepted.{Accepted}
use Rattle.game.specs.declared.Game.{Game}
use Rattle.fitting.specs.Fits.{Fits}
use Rattle.round.specs.declared.Position.{Position}
use Rattle.round.specs.State.{State, Event}
use Rattle.round.specs.Actions.{at_start}
use Rattle.round.specs.Rounds.{listed_in, turn, pass, trace_of, state_after}
use Rattle.round.specs.claims.Sound.{Sound}
use Rattle.round.proofs.Sums.{over_le}
use Rattle.round.proofs.Traces.{many_append}
use Rattle.round.proofs.Among.{all_among}
use Rattle.round.proofs.Along.{pass_along}
use Rattle.round.proofs.TurnSound.{turn_sound}
use Rattle.round.proofs.After.{round_along}
use Rattle.round.proofs.Paying.{worth, turn_spares}

-- what some routines have left together
abbrev pub total : (ℕ → Position → ℕ) → List ℕ → State → ℕ
total left L s = sum_over (λ r. worth left r s) L

module _
    (book : List ℕ) (a : Accepted book) (test : Event → Bool) (left : ℕ → Position → ℕ)
    (pays :
    (r : ℕ) (s : State) → r < routines_of book →
    how_many test (turn book r s).trace + worth left r (turn book r s).state ≤ worth left r s)
  where
    -- a turn of routine r: no routine has more left behind it, and r pays if it is one of L
    module _ (r : ℕ) (s : State) (l : r < routines_of book) (ok : Sound book s) where
      no_more : (q : ℕ) → worth left q (turn book r s).state ≤ worth left q s
      no_more q =
          elim (ℕ_discrete q r) [
            | yes e ↦ rw e (omega (arith, pays r s l))
            | no n ↦ omega (arith, turn_spares book a left r q s l ok n)
          ]

      total_pays :
          (L : List ℕ) → Among r L → how_many test (turn book r s).trace + total left L (turn book r s).state ≤ total left L s
      unfolding sum_over
      total_pays [] h = elim h [ ]
      total_pays (q ∷ qs) (inl e) = rw (← e) (omega (arith, pays r s l, over_le _ _ qs (λ q k. no_more q)))
      total_pays (q ∷ qs) (inr h) = omega (arith, no_more q, total_pays qs h)

    module _ (L : List ℕ) where
      abbrev Claim : State → List Event → State → Type 0
      Claim s events u = how_many test events + total left L u ≤ total left L s

      abbrev Listed : ℕ → Type 0
      Listed r = (r < routines_of book) × Among r L

      claim_none : (s : State) → Claim s [] s
      unfolding how_many
      claim_none s = omega arith

      claim_both : (s u v : State) (b c : List Event) → Claim s b u → Claim u c v → Claim s (b ++ c) v
      claim_both s u v b c first second = omega (arith, many_append test b c)

      claim_turn : (r : ℕ) (s : State) → Listed r → Sound book s → Claim s (turn book r s).trace (turn book r s).state
      claim_turn r s l ok = total_pays r s l.0 ok L l.1

    pub pass_pays :
        (L : List ℕ) → All (λ r. r < routines_of book) L → (s : State) → Sound book s →
        how_many test (pass book L s).trace + total left L (pass book L s).state ≤ total left L s
    pass_pays L all s ok =
        (pass_along (Claim L) (claim_none L) (claim_both L) book (Sound book) (Listed L) (λ r s l. turn_sound book a r s l.0)
        (claim_turn L) L (all_among (λ r. r < routines_of book) L all) s ok).1

    -- the flags for another pass leave everybody what it has
    pub round_pays :
        (g : Game) → Fits book g →
        how_many test (trace_of book g) + total left (listed_in g) (state_after book g) ≤ total left (listed_in g) (at_start g)
    round_pays g f =
        let L = listed_in g in
        round_along book a g f (Claim L) (claim_none L) (claim_both L) (claim_turn L) (claim_none L)
