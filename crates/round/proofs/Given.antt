-- A round keeps as many numbers as its trace has. From one state to the next as many are added as the events in between have: so it is of a
-- step, which appends its number, and hence of a turn, a pass and the passes of a round.
use Prim.Native.Nat.{ℕ, ◌+◌}
use mathlib.Core.Path.{◌≡◌, refl, ap}
use mathlib.Core.Bool.{false}
use mathlib.Core.List.{List, [], ◌∷◌, ◌++◌}
use native.Mathlib.Omega.{arith}
use borrow.Author.Tests.{ne_eqb}
use lib.ListN.{length, length-append}
use lib.IntN.{ℤ}
use Rattle.numbers.specs.Counting.{how_many}
use Rattle.kinds.specs.declared.Counts.{Counts}
use Rattle.layout.specs.Layout.{counts_of}
use Rattle.directory.specs.Directory.{routine_steps}
use Rattle.game.specs.declared.Game.{Game}
use Rattle.round.specs.declared.Position.{Position}
use Rattle.round.specs.declared.Effect.{Effect}
use Rattle.round.specs.declared.Effect.TheVariants.{GiveNumber}
use Rattle.round.specs.State.{State, completed, Event, gave, numbers_of}
use Rattle.round.specs.Actions.{at_start}
use Rattle.round.specs.Ticks.{effect_on}
use Rattle.round.specs.Rounds.{ticks, ticks_of, turn, pass, instant, round}
use Rattle.round.specs.claims.Reasons.{gives_number, numbers_given}
use Rattle.round.proofs.Along.{pass_always, instant_always, round_always}
use Rattle.round.proofs.Acts.{Right, is_giving, Says}
use Rattle.round.proofs.Traces.{many_append, stops_none}
use Rattle.round.proofs.Stepping.{ticks_along}
use Rattle.round.proofs.Effects.{effect_ungiven}
use Rattle.round.proofs.AfterTurn.{end_keeps, turn_by}

-- from one state to another as many numbers are added as the events have
abbrev pub Gives : State → List Event → State → Type 0
Gives s events u = length u.numbers ≡ length s.numbers + numbers_given events

gives_same : (s : State) → Gives s [] s
unfolding how_many
gives_same s = omega arith

gives_then : (s u v : State) (a b : List Event) → Gives s a u → Gives u b v → Gives s (a ++ b) v
gives_then s u v a b first second = omega (arith, many_append gives_number a b)

-- an effect that gives no signal gives no number
no_number : (s : State) (e : Effect) → is_giving e ≡ false → length (effect_on e s).numbers ≡ length s.numbers + 0
no_number s e quiet = omega (arith, ap length (effect_ungiven s e quiet).numbers)

one_number : (s : State) (e : ℕ) (v : ℤ) → Gives s (gave e (length (numbers_of s e) + 1) ∷ []) (effect_on (GiveNumber e v) s)
unfolding effect_on how_many
one_number s e v = rw (ne_eqb (length (numbers_of s e) + 1) 0 (λ z. omega arith), length-append)

-- a step that goes on
goes_gives :
    (counts : Counts) (r : ℕ) (steps : List ℕ) (x : Position) (s : State) (e : Effect) (events : List Event) → Right counts s e →
    Says counts r steps x s e events → Gives s (completed r x.place ∷ events) (effect_on e s)
unfolding effect_on how_many
goes_gives counts r steps x s e events right (Says.silent quiet o) = no_number s e quiet
goes_gives counts r steps x s e events right (Says.marks o) = omega arith
goes_gives counts r steps x s e events right (Says.gives o) = omega arith
goes_gives counts r steps x s e events right (Says.gives_number {e = a} {v} o) = one_number s a v
goes_gives counts r steps x s e events right (Says.finds quiet o asks there) = no_number s e quiet

pub ticks_give :
    (counts : Counts) (r : ℕ) (steps : List ℕ) (n : ℕ) (x : Position) (s : State) →
    Gives s (ticks n counts r steps x s).trace (ticks n counts r steps x s).state
ticks_give counts r steps =
    ticks_along counts r steps Gives gives_same gives_then (goes_gives counts r steps)
    (λ x s how y events stops. omega (arith, stops_none gives_number refl (λ t. refl) stops))

module _ (book : List ℕ) where
  pub turn_gives : (r : ℕ) (s : State) → Gives s (turn book r s).trace (turn book r s).state
  turn_gives r s =
      let t = ticks_of book r s in
      turn_by book r s (λ p. Gives s p.trace p.state) (λ h. gives_same s)
      (λ h. end_keeps (Gives s t.trace) t.ending r _ (λ k. k) (ticks_give (counts_of book) r (routine_steps book r) _ _ s))

  pub pass_gives : (rs : List ℕ) (s : State) → Gives s (pass book rs s).trace (pass book rs s).state
  pass_gives = pass_always Gives gives_same gives_then book turn_gives

  pub instant_gives :
      (n : ℕ) (rs : List ℕ) (s : State) → Gives s (instant book n rs s).played.trace (instant book n rs s).played.state
  instant_gives = instant_always Gives gives_same gives_then book turn_gives gives_same

  pub numbers_in_trace : (g : Game) → length (round book g).played.state.numbers ≡ numbers_given (round book g).played.trace
  unfolding at_start
  numbers_in_trace g = omega (arith, round_always Gives gives_same gives_then book turn_gives gives_same g)
