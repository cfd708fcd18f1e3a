-- The game after a round fits the book; the round has kept its playing order, and suspended nobody and resumed nobody. The state behind the
-- eight actions is sound, and turns keep it so; hence what holds of each turn in a sound state holds of a round.
use Prim.Native.Nat.{ℕ, ◌<◌}
use mathlib.Core.Path.{◌≡◌, refl, ◌∙◌, subst}
use mathlib.Core.Bool.{Bool}
use mathlib.Core.List.{List, [], ◌++◌}
use mathlib.Core.Logic.{◌≢◌}
use native.Mathlib.Decide.{ℕ_discrete}
use lib.IntN.{ℤ}
use Rattle.numbers.specs.Counting.{All, Among}
use Rattle.verdicts.specs.Verdicts.{accepted}
use Rattle.layout.specs.Layout.{routines_of}
use Rattle.book.specs.Accepted.{Accepted}
use Rattle.game.specs.declared.Game.{Game}
use Rattle.game.specs.Game.{routine_at}
use Rattle.fitting.specs.Fits.{Fits}
use Rattle.round.specs.State.{State, with_moves, Event}
use Rattle.round.specs.Actions.{at_start}
use Rattle.round.specs.Rounds.{for_next_pass, most_passes, listed_in, turn, pass, instant, round, state_after, trace_of}
use Rattle.round.specs.Answers.{answer}
use Rattle.round.specs.claims.Sound.{Sound}
use Rattle.round.proofs.Reasons.{accepted_played}
use Rattle.round.proofs.Among.{all_among}
use Rattle.round.proofs.Along.{pass_along, instant_along}
use Rattle.round.proofs.TurnLaws.{Turned}
use Rattle.round.proofs.StartSound.{listed_below, at_start_sound}
use Rattle.round.proofs.TurnSound.{turn_sound, next_pass_sound}
use Rattle.round.proofs.Turned.{turn_turned}

-- what a round keeps from state s to state u
pub record Kept (s u : State) : Type 0 where
  pub listed : u.game.listed ≡ s.game.listed
  pub suspended : (r : ℕ) → (routine_at u.game r).suspended ≡ (routine_at s.game r).suspended

module _ (book : List ℕ) (a : Accepted book) where
  abbrev Keeps : State → List Event → State → Type 0
  Keeps s events u = Kept s u

  -- other flags, or the same
  flags_keep : (s : State) {moved eoi : Bool} → Kept s (with_moves s moved eoi)
  flags_keep s = record { listed = refl; suspended = λ r. refl }

  keeps_both : (s u v : State) (b c : List Event) → Keeps s b u → Keeps u c v → Keeps s [] v
  keeps_both s u v b c one two =
      record {
        listed = two.listed ∙ one.listed;
        suspended = λ r. two.suspended r ∙ one.suspended r;
      }

  turn_keeps : (r : ℕ) (s : State) → r < routines_of book → Sound book s → Kept s (turn book r s).state
  turn_keeps r s l ok =
      let t = turn_turned book a r s l ok in
      record { listed = t.standings.listed; suspended = t.standings.suspended }

  pub pass_keeps :
      (rs : List ℕ) → All (λ r. r < routines_of book) rs → (s : State) → Sound book s →
      Sound book (pass book rs s).state × Kept s (pass book rs s).state
  pass_keeps = pass_along Keeps (λ s. flags_keep s) keeps_both book (Sound book) (λ r. r < routines_of book) (turn_sound book a) turn_keeps

  pub instant_keeps :
      (n : ℕ) (rs : List ℕ) → All (λ r. r < routines_of book) rs → (s : State) → Sound book s →
      Sound book (instant book n rs s).played.state × Kept s (instant book n rs s).played.state
  instant_keeps =
      instant_along Keeps (λ s. flags_keep s) keeps_both book (Sound book) (λ r. r < routines_of book) (turn_sound book a) turn_keeps
      next_pass_sound (λ s. flags_keep s)

  module _ (g : Game) (f : Fits book g) where
    module _
        (Claim : State → List Event → State → Type 0) (none : (s : State) → Claim s [] s)
        (both : (s u v : State) (b c : List Event) → Claim s b u → Claim u c v → Claim s (b ++ c) v)
      where
        abbrev OfTurn : ℕ → State → Type 0
        OfTurn r s = Claim s (turn book r s).trace (turn book r s).state

        -- what holds of each turn of a listed routine in a sound state holds of a round
        pub round_along :
            ((r : ℕ) (s : State) → (r < routines_of book) × Among r (listed_in g) → Sound book s → OfTurn r s) →
            ((s : State) → Claim s [] (for_next_pass s)) → Claim (at_start g) (trace_of book g) (state_after book g)
        unfolding round
        round_along turns next_pass =
            let L = listed_in g in
            let start = at_start_sound book g a f in
            let Below : ℕ → Type 0 = λ r. r < routines_of book in
            (instant_along Claim none both book (Sound book) (λ r. Below r × Among r L) (λ r s l. turn_sound book a r s l.0) turns
            next_pass_sound next_pass most_passes L (all_among Below L (listed_below start)) (at_start g) start).1

        -- so does what holds of routine r's own turns, and of the others' by what a turn does
        pub own_and_others :
            (r : ℕ) → ((s : State) → r < routines_of book → Sound book s → OfTurn r s) →
            ((q : ℕ) (s : State) → r ≢ q → Turned q s (turn book q s).trace (turn book q s).state → OfTurn q s) →
            ((s : State) → Claim s [] (for_next_pass s)) → Claim (at_start g) (trace_of book g) (state_after book g)
        own_and_others r own other =
            round_along (λ q s (l, _) ok.
            elim (ℕ_discrete r q) [
              | yes e ↦ subst (λ i. i < routines_of book → OfTurn i s) e (λ m. own s m ok) l
              | no n ↦ other q s n (turn_turned book a q s l ok)
            ])

    pub round_keeps : Sound book (state_after book g) × Kept (at_start g) (state_after book g)
    unfolding round
    round_keeps = let start = at_start_sound book g a f in instant_keeps most_passes (listed_in g) (listed_below start) (at_start g) start

    pub round_fits : Fits book (state_after book g).game
    round_fits = round_keeps.0.fits

-- the game of an accepted answer
pub answer_fits :
    (book : List ℕ) (g : Game) (buffer : List ℤ) → (answer book g buffer).verdict ≡ accepted →
    Fits book (answer book g buffer).game
answer_fits book g buffer e =
    let ((a, fits, space), same) = accepted_played book g buffer e in
    rw same (round_fits book a g fits)
