-- Demand 3, of every round of an accepted book from a game that fits, and of its answer; and that refusal 11 is never told.
-- What is left to show after the theory of passes: a listed routine that does not go on and is not suspended is in stage 2 or 3, since it
-- is listed in a game that fits.
use Prim.Native.Nat.{ℕ, ◌<◌, ◌≤◌}
use mathlib.Core.Path.{◌≡◌, refl, ◌∙◌, subst}
use mathlib.Core.Bool.{false}
use mathlib.Core.List.{List}
use mathlib.Core.Logic.{◌⊎◌, inl, inr}
use native.Mathlib.Decide.{ℕ_discrete}
use native.Mathlib.Omega.{arith}
use borrow.Author.Tests.{eq-eqb}
use lib.ListN.{length}
use lib.IntN.{ℤ}
use Rattle.numbers.specs.Counting.{Among}
use Rattle.numbers.proofs.Tests.{clash}
use Rattle.verdicts.specs.Verdicts.{accepted}
use Rattle.layout.specs.Layout.{routines_of}
use Rattle.book.specs.Accepted.{Accepted}
use Rattle.game.specs.declared.Game.{Game}
use Rattle.game.specs.Game.{continuing, rested, ended, not_started, stopped, routine_at}
use Rattle.fitting.specs.Fits.{Fits, In}
use Rattle.round.specs.Actions.{at_start}
use Rattle.round.specs.Rounds.{most_passes, listed_in, round, state_after}
use Rattle.round.specs.Answers.{space_for, answer}
use Rattle.round.specs.claims.Reasons.{RoundReason}
use Rattle.round.specs.claims.Demand.{Demand3}
use Rattle.round.proofs.Reasons.{round_reason_only, answer_verdict, accepted_played}
use Rattle.round.proofs.StartSound.{listed_below, at_start_sound, among_listed}
use Rattle.round.proofs.Passes.{FairRound, fair_round}
use Rattle.round.proofs.TurnLaws.{is_going}
use Rattle.round.proofs.Lawful.{turn_laws}
use Rattle.round.proofs.Enough.{enough}
use Rattle.round.proofs.Once.{completed_once}
use Rattle.round.proofs.After.{round_keeps}

-- of the stages of a listed routine, those in which it does not go on
rests_or_ends :
    (stage : ℕ) → stage ≤ stopped → (stage ≡ continuing → ⊥) → ((stage ≡ not_started) ⊎ (stage ≡ stopped) → ⊥) →
    (stage ≡ rested) ⊎ (stage ≡ ended)
rests_or_ends stage l on out =
    let low : stage ≡ not_started → ⊥ = λ e. out (inl e) in
    let high : stage ≡ stopped → ⊥ = λ e. out (inr e) in
    elim (ℕ_discrete stage rested) [ yes e ↦ inl e | no n ↦ inr (omega arith) ]

module _ (book : List ℕ) (a : Accepted book) (g : Game) (f : Fits book g) where
  fair : FairRound (listed_in g) (round book g)
  unfolding round at_start
  fair =
      let start = at_start_sound book g a f in
      fair_round (turn_laws book a) (listed_in g) (listed_below start) most_passes (at_start g) start refl refl (enough book a g f).passes

  -- no listed routine is left to take a turn
  pub none_going_lem : (r : ℕ) → Among r (listed_in g) → is_going (state_after book g) r ≡ false
  none_going_lem = fair.none_going

  rested_or_ended_lem :
      (r : ℕ) → Among r (listed_in g) → (routine_at (at_start g).game r).suspended ≡ false →
      ((routine_at (state_after book g).game r).stage ≡ rested) ⊎ ((routine_at (state_after book g).game r).stage ≡ ended)
  rested_or_ended_lem r i unsuspended =
      let (sound, kept) = round_keeps book a g f in
      let fits = sound.fits in
      let (k, l, e) = among_listed book g a f r i in
      let lower : r < routines_of book = subst (λ q. q < routines_of book) e ((at_start_sound book g a f).fits.entries_in_range.0 k l) in
      let here : In (state_after book g).game.listed r = rw kept.listed (k, l, e) in
      let off = none_going_lem r i in
      rests_or_ends (routine_at (state_after book g).game r).stage (fits.stages_in_range r lower)
      (λ on. clash refl (rw (kept.suspended r ∙ unsuspended, eq-eqb _ _ on) at off))
      (λ out. fits.unlisted_stages r lower out here)

  pub demand_3 : Demand3 book g (round book g).passes (state_after book g).game
  demand_3 =
      record {
        few_passes = omega (arith, fair.few);
        few_signals = (completed_once book a g f).signals;
        rested_or_ended = rested_or_ended_lem;
        caught_up = fair.catches_up;
      }

  -- "More than 1,024 numbers are given in one round." never applies: a buffer that is long enough is all that is left to ask
  pub round_accepted : (buffer : List ℤ) → space_for book ≤ length buffer → (answer book g buffer).verdict ≡ accepted
  round_accepted buffer space =
      answer_verdict book g buffer ∙ round_reason_only (RoundReason.nothing a f space (completed_once book a g f).numbers)

-- the passes and the game of an accepted answer
pub answer_demand_3 :
    (book : List ℕ) (g : Game) (buffer : List ℤ) → (answer book g buffer).verdict ≡ accepted →
    Demand3 book g (answer book g buffer).passes (answer book g buffer).game
answer_demand_3 book g buffer e =
    let ((a, fits, space), same) = accepted_played book g buffer e in
    rw same (demand_3 book a g fits)
