-- What a turn's steps carry from one state to the next: what is there stays, what the events give is there, what is new has come, and
-- the flag says whether a signal was given. It holds of each step, by what the step comes to, and of one after the other.
use Prim.Native.Nat.{ℕ, ◌<◌, ◌≤◌}
use mathlib.Core.Path.{◌≡◌, refl, ◌∙◌, ap}
use mathlib.Core.Bool.{true, false}
use mathlib.Core.List.{List, [], ◌∷◌, ◌++◌}
use mathlib.Core.Logic.{inl, inr}
use native.Mathlib.Omega.{arith}
use native.Mathlib.Decide.{dec_lt}
use lib.ListN.{length}
use Rattle.numbers.specs.Counting.{how_many, Somewhere}
use Rattle.numbers.proofs.Tests.{clash}
use Rattle.kinds.specs.declared.Counts.{Counts}
use Rattle.layout.specs.Layout.{most_signals, counts_of}
use Rattle.directory.specs.Directory.{routine_steps}
use Rattle.round.specs.declared.Position.{Position}
use Rattle.round.specs.declared.Effect.{Effect}
use Rattle.round.specs.declared.Effect.TheVariants.{Mark}
use Rattle.round.specs.State.{State, Thing, signal, end, number, Event, gave, completed, is_there}
use Rattle.round.specs.Ticks.{effect_on}
use Rattle.round.specs.Rounds.{ticks, ticks_of}
use Rattle.round.specs.claims.Demand.{gives_signal, ends_routine, Comes}
use Rattle.round.proofs.Acts.{Right, Says}
use Rattle.round.proofs.Stepping.{ticks_along}
use Rattle.round.proofs.Standings.{StillThere}
use Rattle.round.proofs.Effects.{Untouched, untouched_same, untouched_then, effect_untouched, Ungiven, ungiven, effect_ungiven}
use Rattle.round.proofs.Effects.{same_things, Gave, give, give_number_lem}
use Rattle.round.proofs.Among.{somewhere_append, in_either}
use Rattle.round.proofs.Traces.{end_ends, many_append, no_event, stops_none, is_given, given_by_signals}

-- state u comes of state s, with these events between them
pub record Carries (s : State) (events : List Event) (u : State) : Type 0 where
  pub present : length u.present ≡ length s.present
  pub keeps : StillThere s u
  pub brings :
      length s.present ≡ most_signals → (t : Thing) → is_given t ≡ true → Somewhere (Comes t) events → is_there u t ≡ true
  pub came : (t : Thing) → is_there s t ≡ false → is_there u t ≡ true → Somewhere (Comes t) events
  pub unmoved : how_many gives_signal events ≡ 0 → u.moved ≡ s.moved
  pub moved : 0 < how_many gives_signal events → u.moved ≡ true

-- where no event is an end, whatever comes is there
pub all_brought :
    {s u : State} {events : List Event} → Carries s events u → length s.present ≡ most_signals → how_many ends_routine events ≡ 0 →
    (t : Thing) → Somewhere (Comes t) events → is_there u t ≡ true
all_brought c l none (signal e) k = c.brings l (signal e) refl k
all_brought {events = events} c l none (end q) k = absurd (no_event ends_routine (Comes (end q)) end_ends events none k)
all_brought c l none (number e n) k = c.brings l (number e n) refl k

-- no signal is given
carries_none : {s u : State} (events : List Event) → how_many gives_signal events ≡ 0 → Untouched s u → Ungiven s u → Carries s events u
carries_none events none a b =
    record {
      present = ap length b.present;
      keeps = λ t h. same_things a b t ∙ h;
      brings = λ l t g k. absurd (no_event gives_signal (Comes t) (given_by_signals g) events none k);
      came = λ t h k. clash k (same_things a b t ∙ h);
      unmoved = λ h. b.moved;
      moved = λ h. absurd (omega arith);
    }

carries_same : (s : State) → Carries s [] s
unfolding how_many
carries_same s = carries_none [] refl untouched_same ungiven

carries_then : (s u v : State) (a b : List Event) → Carries s a u → Carries u b v → Carries s (a ++ b) v
carries_then s u v a b c d =
    let both = many_append gives_signal a b in
    record {
      present = d.present ∙ c.present;
      keeps = λ t h. d.keeps t (c.keeps t h);
      brings =
          λ l t g k.
          elim (somewhere_append (Comes t) a b k) [
            | inl m ↦ d.keeps t (c.brings l t g m)
            | inr m ↦ d.brings (c.present ∙ l) t g m
          ];
      came = λ t h k. in_either (Comes t) a b (is_there u t) (λ e. c.came t h e) (λ e. d.came t e k);
      unmoved = λ h. d.unmoved (omega arith) ∙ c.unmoved (omega arith);
      moved =
          λ h.
          elim (dec_lt 0 (how_many gives_signal b)) [
            | yes m ↦ d.moved m
            | no m ↦ d.unmoved (omega arith) ∙ c.moved (omega arith)
          ];
    }

-- what came by a signal given is there
come_there :
    {s u : State} (t : Thing) {e k : ℕ} → e < length s.present → Gave s e k u → Comes t (gave e k) → is_there u t ≡ true
come_there t l b Comes.signal_given = b.signal_there l
come_there t l b Comes.number_given = b.number_there

-- one signal is given
carries_one :
    {s u : State} (r p e k : ℕ) → e < most_signals → Gave s e k u → Carries s (completed r p ∷ gave e k ∷ []) u
unfolding how_many
carries_one {s} {u} r p e k below b =
    record {
      present = b.present;
      keeps = b.keeps;
      brings = come;
      came = λ t h there. inr (inl (b.came t h there));
      unmoved = λ h. absurd (omega arith);
      moved = λ h. b.moved;
    }
  where
    come :
        length s.present ≡ most_signals → (t : Thing) → is_given t ≡ true → Somewhere (Comes t) (completed r p ∷ gave e k ∷ []) →
        is_there u t ≡ true
    come l t g (inl e) = elim e [ ]
    come l t g (inr (inl m)) = come_there t (omega arith) b m
    come l t g (inr (inr h)) = elim h [ ]

-- no step of a turn touches what no effect does
module _ (counts : Counts) (r : ℕ) (steps : List ℕ) where
  ticks_untouched : (n : ℕ) (x : Position) (s : State) → Untouched s (ticks n counts r steps x s).state
  ticks_untouched =
      ticks_along counts r steps (λ s events u. Untouched s u) (λ s. untouched_same) (λ s u v a b first then. untouched_then first then)
      (λ x s e events right says. effect_untouched s e) (λ x s how y events stops. untouched_same)

pub turn_untouched : (book : List ℕ) (r : ℕ) (s : State) → Untouched s (ticks_of book r s).state
turn_untouched book r s = ticks_untouched (counts_of book) r (routine_steps book r) _ _ s

module _ (counts : Counts) (r : ℕ) (steps : List ℕ) (few_signals : counts.signals ≤ most_signals) where
  -- a step that goes on
  pub goes_carries :
      (x : Position) (s : State) (e : Effect) (events : List Event) → Right counts s e → Says counts r steps x s e events →
      Carries s (completed r x.place ∷ events) (effect_on e s)
  unfolding how_many
  goes_carries x s e events right (Says.silent h o) = carries_none _ refl (effect_untouched s e) (effect_ungiven s e h)
  goes_carries x s e events right (Says.marks {n} o) =
      carries_none _ refl (effect_untouched s (Mark n)) (effect_ungiven s (Mark n) refl)
  goes_carries x s e events (Right.give l) (Says.gives {e = a} o) = carries_one r _ a 0 (omega arith) (give s a)
  goes_carries x s e events (Right.give_number l f) (Says.gives_number {e = a} {v} o) =
      carries_one r _ a _ (omega arith) (give_number_lem s a v)
  goes_carries x s e events right (Says.finds h o q k) = carries_none _ refl (effect_untouched s e) (effect_ungiven s e h)

  pub ticks_carry : (n : ℕ) (x : Position) (s : State) → Carries s (ticks n counts r steps x s).trace (ticks n counts r steps x s).state
  ticks_carry =
      ticks_along counts r steps Carries carries_same carries_then goes_carries
      (λ x s how y events stops. carries_none events (stops_none gives_signal refl (λ t. refl) stops) untouched_same ungiven)
