-- An event of a try is of what the step asks for, and a step without a count that asks for a thing is completed only by finding
-- it. So it is of each step's events and of one stretch after another, hence of a turn and of a round, of any book from any game.
use Prim.Native.Nat.{ℕ}
use mathlib.Core.Path.{◌≡◌, ap, subst}
use mathlib.Core.List.{List, [], ◌∷◌, ◌++◌}
use mathlib.Core.Logic.{◌⊎◌, inl, inr}
use Rattle.std.specs.Prelude.{Option}
use Rattle.kinds.specs.declared.Kind.{Kind}
use Rattle.numbers.specs.Counting.{Somewhere}
use Rattle.forms.specs.Timed as timed
use Rattle.forms.specs.Timed.{Timed}
use Rattle.layout.specs.Layout.{counts_of}
use Rattle.directory.specs.Directory.{routine_steps, routine_step}
use Rattle.game.specs.declared.Game.{Game}
use Rattle.round.specs.declared.Ending.{Ending}
use Rattle.round.specs.declared.Position.{Position}
use Rattle.round.specs.declared.Effect.{Effect}
use Rattle.round.specs.declared.Act.TheVariants.{Goes}
use Rattle.round.specs.State.{State, Thing, Event, gave, ended, missing, past, marked, completed}
use Rattle.round.specs.Ticks.{tick_with, tick}
use Rattle.round.specs.Rounds.{turn, trace_of}
use Rattle.round.specs.claims.Demand.{AsksFor, wait, wait_for, join, join_for, read}
use Rattle.round.proofs.Acts.{Asks, Says, silent, marks, gives, gives_number, finds, Stops, ends, rests, misses, continues}
use Rattle.round.proofs.Asking.{asked_goes}
use Rattle.round.proofs.Along.{round_always}
use Rattle.round.proofs.Traces.{EachWith, each_at}
use Rattle.round.proofs.Stepping.{ticks_by}
use Rattle.round.proofs.AfterTurn.{turn_by}

abbrev Untimed : Option Kind → Type 0
Untimed st = (n : ℕ) → Timed st n → ⊥

-- a step without a count goes no further if its thing isn't there
untimed_asks : (x : Position) {st : Option Kind} {t : Thing} → AsksFor st t → Untimed st → Asks x st t
untimed_asks x wait none = (wait, tt)
untimed_asks x (wait_for {n = n}) none = absurd (none n timed.wait_for)
untimed_asks x join none = (join, tt)
untimed_asks x (join_for {n = n}) none = absurd (none n timed.join_for)
untimed_asks x read none = (read, tt)

module _ (book : List ℕ) where
  -- what is claimed of an event, with the events behind it
  abbrev OfItsStep : Event → List Event → Type 0
  OfItsStep (gave e k) events = Unit {0}
  OfItsStep (ended r) events = Unit {0}
  OfItsStep (missing r p t) events = AsksFor (routine_step book r p) t
  OfItsStep (past r p t) events = AsksFor (routine_step book r p) t
  OfItsStep (marked r n) events = Unit {0}
  OfItsStep (completed r p) events =
      (t : Thing) → AsksFor (routine_step book r p) t → Untimed (routine_step book r p) →
      (rest : List Event) × (events ≡ past r p t ∷ rest)

  abbrev OfTheirSteps : List Event → Type 0
  OfTheirSteps = EachWith OfItsStep

  -- one stretch after another
  longer : (h : Event) (a b : List Event) → OfItsStep h a → OfItsStep h (a ++ b)
  longer (gave e k) a b o = o
  longer (ended r) a b o = o
  longer (missing r p t) a b o = o
  longer (past r p t) a b o = o
  longer (marked r n) a b o = o
  longer (completed r p) a b o = λ t asks none. let (rest, next) = o t asks none in (rest ++ b, ap (λ l. l ++ b) next)

  both : (a b : List Event) → OfTheirSteps a → OfTheirSteps b → OfTheirSteps (a ++ b)
  both [] b o p = p
  both (h ∷ a) b o p = (longer h a b o.0, both a b o.1 p)

  -- a step of routine r at position x: one that goes on, and one that halts the turn
  module _ (r : ℕ) (x : Position) (s : State) where
    abbrev steps : List ℕ
    steps = routine_steps book r

    says_of : {e : Effect} {events : List Event} → Says (counts_of book) r steps x s e events → OfTheirSteps events
    says_of (silent g o) = tt
    says_of (marks o) = (tt, tt)
    says_of (gives o) = (tt, tt)
    says_of (gives_number o) = (tt, tt)
    says_of (finds g o asks h) = (asks, tt)

    goes_of :
        (q : ℕ) (e : Effect) (events : List Event) → tick (counts_of book) r steps x s ≡ tick_with (Goes q e) events →
        Says (counts_of book) r steps x s e events → OfTheirSteps (completed r x.place ∷ events)
    unfolding tick
    goes_of q e events same says = (λ t asks none. ([], asked_goes r steps x s (untimed_asks x asks none) same), says_of says)

    stops_of : {how : Ending} {y : Position} {events : List Event} → Stops (counts_of book) r steps x s how y events → OfTheirSteps events
    stops_of ends = (tt, tt)
    stops_of rests = tt
    stops_of (misses asks h e) = (asks.0, tt)
    stops_of (continues asks h e) = (asks.0, tt)

  turn_of : (r : ℕ) (s : State) → OfTheirSteps (turn book r s).trace
  turn_of r s =
      let all =
      ticks_by (counts_of book) r (routine_steps book r) (λ x u t. OfTheirSteps t.trace)
      (λ x u q e events t same leaves right says rest.
      both (completed r x.place ∷ events) t.trace (goes_of r x u q e events same says) rest)
      (λ x u how y events same stays stops. stops_of r x u stops) (λ x u. tt) in
      turn_by book r s (λ p. OfTheirSteps p.trace) (λ h. tt) (λ h. all _ _ s)

  round_of : (g : Game) → OfTheirSteps (trace_of book g)
  round_of = round_always (λ s events u. OfTheirSteps events) (λ s. tt) (λ s u v. both) book turn_of (λ s. tt)

  of_try :
      (r p : ℕ) (t : Thing) (events : List Event) → OfTheirSteps events →
      Somewhere (λ h. (h ≡ missing r p t) ⊎ (h ≡ past r p t)) events → AsksFor (routine_step book r p) t
  of_try r p t [] o w = elim w [ ]
  of_try r p t (h ∷ events) o (inl (inl e)) = subst (λ k. OfItsStep k events) e o.0
  of_try r p t (h ∷ events) o (inl (inr e)) = subst (λ k. OfItsStep k events) e o.0
  of_try r p t (h ∷ events) o (inr w) = of_try r p t events o.1 w

  module _ (g : Game) where
    -- a try is of what its step asks for
    pub asked :
        (r p : ℕ) (t : Thing) → Somewhere (λ h. (h ≡ missing r p t) ⊎ (h ≡ past r p t)) (trace_of book g) →
        AsksFor (routine_step book r p) t
    asked r p t = of_try r p t (trace_of book g) (round_of g)

    -- a step without a count finds what it asks for
    pub completed_by_finding_lem :
        (before after : List Event) (r p : ℕ) (t : Thing) → trace_of book g ≡ before ++ (completed r p ∷ after) →
        AsksFor (routine_step book r p) t → Untimed (routine_step book r p) → (rest : List Event) × (after ≡ past r p t ∷ rest)
    completed_by_finding_lem before after r p t e = each_at OfItsStep before after (completed r p) (subst OfTheirSteps e (round_of g)) t
