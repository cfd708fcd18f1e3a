-- What the additions of a round cut off. The total never falls, and a step adds at most 1,000,000 to it, since the counters of a sound
-- state and the numbers of a book are in range. A round completes at most 1,024 steps, so all its additions cut off at most 1,000,000 for
-- each of these.
use Prim.Native.Nat.{ℕ, ◌+◌, ◌*◌, ◌≤◌}
use mathlib.Core.Path.{refl}
use mathlib.Core.List.{List, [], ◌++◌}
use native.Mathlib.Omega.{arith}
use borrow.Author.Tests.{eqb-true}
use lib.Dec.{eqb}
use lib.IntN.{ℤ}
use Rattle.numbers.specs.Counting.{how_many}
use Rattle.numbers.proofs.Sums.{most_lost_by_one}
use Rattle.numbers.proofs.Tests.{by_test}
use Rattle.kinds.specs.declared.Counts.{Counts}
use Rattle.layout.specs.Layout.{counts_of}
use Rattle.directory.specs.Directory.{routine_steps}
use Rattle.book.specs.Accepted.{Accepted}
use Rattle.game.specs.declared.Game.{Game}
use Rattle.fitting.specs.Fits.{Fits}
use Rattle.round.specs.declared.Effect.{Effect}
use Rattle.round.specs.declared.Effect.TheVariants.{Nothing, Mark, Put, Add, Give, GiveNumber, Start, Stop, Suspend, Resume}
use Rattle.round.specs.declared.Position.{Position}
use Rattle.round.specs.State.{State, Event}
use Rattle.round.specs.Actions.{at_start}
use Rattle.round.specs.Ticks.{effect_on}
use Rattle.round.specs.Rounds.{ticks, ticks_of, turn, pass, instant, state_after}
use Rattle.round.specs.Answers.{most_lost, round_verdict, Answer, answer}
use Rattle.round.specs.claims.Completed.{completes, any_step}
use Rattle.round.specs.claims.Sound.{Sound}
use Rattle.round.proofs.Acts.{Ranged, Right, nothing, mark, put, add, give, give_number, start, stop, suspend, resume}
use Rattle.round.proofs.Traces.{many_append, stops_none}
use Rattle.round.proofs.Along.{pass_always, instant_always}
use Rattle.round.proofs.Stepping.{ticks_by, ticks_along}
use Rattle.round.proofs.EffectSound.{sound_ranged, effect_sound}
use Rattle.round.proofs.AfterTurn.{end_keeps, turn_by}
use Rattle.round.proofs.Once.{completed_once}
use Rattle.round.proofs.Reasons.{round_clauses, round_reason}
use Rattle.round.proofs.After.{round_along}

-- the total does not fall
abbrev Rises : State → List Event → State → Type 0
Rises s events u = s.lost ≤ u.lost

rises_same : (s : State) → Rises s [] s
rises_same s = omega arith

rises_then : (s u v : State) (a b : List Event) → Rises s a u → Rises u b v → Rises s (a ++ b) v
rises_then s u v a b first second = omega arith

effect_rises : (s : State) (e : Effect) → s.lost ≤ (effect_on e s).lost
unfolding effect_on
effect_rises s Nothing = omega arith
effect_rises s (Mark n) = omega arith
effect_rises s (Put c v) = omega arith
effect_rises s (Add c v) = omega arith
effect_rises s (Give e) = omega arith
effect_rises s (GiveNumber e v) = omega arith
effect_rises s (Start t) = omega arith
effect_rises s (Stop t) = omega arith
effect_rises s (Suspend t) = omega arith
effect_rises s (Resume t) = omega arith

module _ (book : List ℕ) where
  turn_rises : (r : ℕ) (s : State) → s.lost ≤ (turn book r s).state.lost
  turn_rises r s =
      let t = ticks_of book r s in
      turn_by book r s (λ p. s.lost ≤ p.state.lost) (λ h. omega arith)
      (λ h.
      end_keeps (λ u. s.lost ≤ u.lost) t.ending r _ (λ k. k)
      (ticks_along (counts_of book) r (routine_steps book r) Rises rises_same rises_then
      (λ x u e events right says. effect_rises u e) (λ x u how y events stops. omega arith) _ _ s))

  pub pass_rises : (rs : List ℕ) (s : State) → s.lost ≤ (pass book rs s).state.lost
  pass_rises = pass_always Rises rises_same rises_then book turn_rises

  pub instant_rises : (n : ℕ) (rs : List ℕ) (s : State) → s.lost ≤ (instant book n rs s).played.state.lost
  instant_rises = instant_always Rises rises_same rises_then book turn_rises rises_same

-- it rises by at most so much with each step that is completed
abbrev Loses : State → List Event → State → Type 0
Loses s events u = u.lost ≤ s.lost + most_lost_by_one * how_many (completes any_step) events

loses_same : (s : State) → Loses s [] s
unfolding how_many
loses_same s = omega arith

loses_then : (s u v : State) (a b : List Event) → Loses s a u → Loses u b v → Loses s (a ++ b) v
loses_then s u v a b first second = omega (arith, many_append (completes any_step) a b)

effect_loses : {counts : Counts} (s : State) (e : Effect) → Right counts s e → Ranged s → (effect_on e s).lost ≤ s.lost + most_lost_by_one
unfolding effect_on
effect_loses s Nothing nothing h = omega arith
effect_loses s (Mark n) mark h = omega arith
effect_loses s (Put c v) (put l inside) h = omega arith
effect_loses s (Add c v) (add l inside few) h = omega (arith, few h)
effect_loses s (Give e) (give l) h = omega arith
effect_loses s (GiveNumber e v) (give_number l inside) h = omega arith
effect_loses s (Start t) (start l) h = omega arith
effect_loses s (Stop t) (stop l) h = omega arith
effect_loses s (Suspend t) (suspend l) h = omega arith
effect_loses s (Resume t) (resume l) h = omega arith

module _ (book : List ℕ) (a : Accepted book) where
  ticks_lose :
      (r n : ℕ) (x : Position) (s : State) → Sound book s →
      let t = ticks n (counts_of book) r (routine_steps book r) x s in
      Loses s t.trace t.state
  unfolding how_many
  ticks_lose r =
      ticks_by (counts_of book) r (routine_steps book r) (λ x s t. Sound book s → Loses s t.trace t.state)
      (λ x s q e events t same leaves right says rest h.
      omega (
        arith,
        effect_loses s e right (sound_ranged h),
        rest (effect_sound book a s e right h),
        many_append (completes any_step) events t.trace,
      ))
      (λ x s how y events same stays stops h. omega (arith, stops_none (completes any_step) refl (λ t. refl) stops))
      (λ x s h. loses_same s)

  turn_loses : (r : ℕ) (s : State) → Sound book s → Loses s (turn book r s).trace (turn book r s).state
  turn_loses r s h =
      let t = ticks_of book r s in
      turn_by book r s (λ p. Loses s p.trace p.state) (λ k. loses_same s)
      (λ k. end_keeps (Loses s t.trace) t.ending r _ (λ u. u) (ticks_lose r _ _ s h))

  pub lost_few : (g : Game) → Fits book g → (state_after book g).lost ≤ most_lost
  unfolding at_start
  lost_few g f =
      let all = round_along book a g f Loses loses_same loses_then (λ r s l. turn_loses r s) (λ s. loses_same s) in
      omega (arith, all, (completed_once book a g f).steps)

-- so an answer tells no more: it is that of an accepted round, or 0
pub answer_lost : (book : List ℕ) (g : Game) (buffer : List ℤ) → (answer book g buffer).lost ≤ most_lost
unfolding answer
answer_lost book g buffer =
    by_test (λ (r : Answer). r.lost ≤ most_lost) (eqb (round_verdict book g buffer).number 0)
    (λ e. let (a, f, space) = round_clauses (round_reason book g buffer) (eqb-true _ 0 e) in lost_few book a g f) (λ e. omega arith)
