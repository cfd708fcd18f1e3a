-- The events are those of what is completed: a round has as many signals as it completes signal steps, and as many marks as it completes
-- mark steps. For a test of events and a set of steps: if a step that goes on has one such event where it is in the set and
-- none elsewhere, and a step that halts the turn none, the same holds of a turn and of a round.
use Prim.Native.Nat.{ℕ, ◌+◌, ◌≤◌}
use mathlib.Core.Path.{◌≡◌, refl, sym, ◌∙◌}
use mathlib.Core.Bool.{Bool, true, false, not}
use mathlib.Core.List.{List, [], ◌∷◌, ◌++◌}
use native.Mathlib.Decide.{ℕ_discrete}
use native.Mathlib.Omega.{arith}
use borrow.Author.Tests.{ne_eqb}
use lib.Dec.{eqb}
use lib.ListN.{length}
use Rattle.kinds.specs.Ops.{op_mark}
use Rattle.std.specs.Prelude.{if◌then◌else◌}
use Rattle.numbers.specs.Counting.{how_many}
use Rattle.numbers.proofs.Tests.{clash, neither}
use Rattle.layout.specs.Layout.{counts_of}
use Rattle.directory.specs.Directory.{routine_steps}
use Rattle.game.specs.declared.Game.{Game}
use Rattle.round.specs.declared.Position.{Position}
use Rattle.round.specs.declared.Effect.{Effect}
use Rattle.round.specs.State.{State, Thing, Event, gave, ended, missing, past, marked, completed}
use Rattle.round.specs.Rounds.{turn, trace_of}
use Rattle.round.specs.Answers.{marks_in}
use Rattle.round.specs.claims.Reasons.{numbers_given}
use Rattle.round.specs.claims.Demand.{is_signal_op, is_signal_step, gives_signal}
use Rattle.round.specs.claims.Completed.{completes, is_mark_step}
use Rattle.round.proofs.Traces.{many_append, stops_none}
use Rattle.round.proofs.Along.{round_always}
use Rattle.round.proofs.Acts.{is_signal_or_mark, Says, silent, marks, gives, gives_number, finds}
use Rattle.round.proofs.Stepping.{ticks_along}
use Rattle.round.proofs.AfterTurn.{turn_by}

-- a mark is written
abbrev is_marked : Event → Bool
is_marked (gave e k) = false
is_marked (ended r) = false
is_marked (missing r p t) = false
is_marked (past r p t) = false
is_marked (marked r n) = true
is_marked (completed r p) = false

marks_counted : (events : List Event) → length (marks_in events) ≡ how_many is_marked events
unfolding marks_in how_many
marks_counted [] = refl
marks_counted (gave e k ∷ events) = marks_counted events
marks_counted (ended r ∷ events) = marks_counted events
marks_counted (missing r p t ∷ events) = marks_counted events
marks_counted (past r p t ∷ events) = marks_counted events
marks_counted (marked r n ∷ events) = omega (arith, marks_counted events)
marks_counted (completed r p ∷ events) = marks_counted events

-- each number is given with a signal
pub numbers_few : (events : List Event) → numbers_given events ≤ how_many gives_signal events
unfolding how_many
numbers_few [] = omega arith
numbers_few (gave e k ∷ events) = one_more (eqb k 0) _ _ (numbers_few events)
  where
    one_more : (none : Bool) (m n : ℕ) → m ≤ n → (if not none then m + 1 else m) ≤ n + 1
    one_more true m n h = omega arith
    one_more false m n h = omega arith
numbers_few (ended r ∷ events) = numbers_few events
numbers_few (missing r p t ∷ events) = numbers_few events
numbers_few (past r p t ∷ events) = numbers_few events
numbers_few (marked r n ∷ events) = numbers_few events
numbers_few (completed r p ∷ events) = numbers_few events

-- an op that gives neither a signal nor a mark, and one of a signal
neither_op : (op : ℕ) → is_signal_or_mark op ≡ false → (is_signal_op op ≡ false) × (eqb op op_mark ≡ false)
neither_op op = neither (is_signal_op op) (eqb op op_mark)

no_mark : (op : ℕ) → is_signal_op op ≡ true → eqb op op_mark ≡ false
no_mark op h = elim (ℕ_discrete op op_mark) [ yes e ↦ clash (rw e at h) refl | no n ↦ ne_eqb op op_mark n ]

module _ (book : List ℕ) where
  -- as many events pass the test as steps of the set are completed
  abbrev Balanced : (Event → Bool) → (ℕ → ℕ → Bool) → List Event → Type 0
  Balanced test set events = how_many test events ≡ how_many (completes set) events

  module _
      (test : Event → Bool) (set : ℕ → ℕ → Bool)
      (goes :
      (r : ℕ) (x : Position) (s : State) (e : Effect) (events : List Event) →
      Says (counts_of book) r (routine_steps book r) x s e events → Balanced test set (completed r x.place ∷ events))
      (over : (r : ℕ) → test (ended r) ≡ false) (miss : (r p : ℕ) (t : Thing) → test (missing r p t) ≡ false)
    where
      abbrev Claim : State → List Event → State → Type 0
      Claim s events u = Balanced test set events

      balanced_none : Balanced test set []
      unfolding how_many
      balanced_none = refl

      balanced_both : (a b : List Event) → Balanced test set a → Balanced test set b → Balanced test set (a ++ b)
      balanced_both a b h k = omega (arith, many_append test a b, many_append (completes set) a b)

      turn_balanced : (r : ℕ) (s : State) → Balanced test set (turn book r s).trace
      turn_balanced r s =
          let all =
          ticks_along (counts_of book) r (routine_steps book r) Claim (λ s. balanced_none) (λ s u v. balanced_both)
          (λ x u e events right says. goes r x u e events says)
          (λ x u how y events stops.
          stops_none test (over r) (λ t. miss r x.place t) stops ∙ sym (stops_none (completes set) refl (λ t. refl) stops)) in
          turn_by book r s (λ p. Balanced test set p.trace) (λ h. balanced_none) (λ h. all _ _ s)

      round_balanced : (g : Game) → Balanced test set (trace_of book g)
      round_balanced = round_always Claim (λ s. balanced_none) (λ s u v. balanced_both) book turn_balanced (λ s. balanced_none)

  -- by the op of the step
  module _ (r : ℕ) (x : Position) (s : State) where
    signal_events :
        (e : Effect) (events : List Event) → Says (counts_of book) r (routine_steps book r) x s e events →
        Balanced gives_signal (is_signal_step book) (completed r x.place ∷ events)
    unfolding how_many
    signal_events e events (silent g o) = rw (neither_op _ o).0
    signal_events e events (marks o) = rw o
    signal_events e events (gives o) = rw o
    signal_events e events (gives_number o) = rw o
    signal_events e events (finds g o a h) = rw (neither_op _ o).0

    mark_events :
        (e : Effect) (events : List Event) → Says (counts_of book) r (routine_steps book r) x s e events →
        Balanced is_marked (is_mark_step book) (completed r x.place ∷ events)
    unfolding how_many
    mark_events e events (silent g o) = rw (neither_op _ o).1
    mark_events e events (marks o) = rw o
    mark_events e events (gives o) = rw (no_mark _ o)
    mark_events e events (gives_number o) = rw (no_mark _ o)
    mark_events e events (finds g o a h) = rw (neither_op _ o).1

  pub turn_signals : (r : ℕ) (s : State) → Balanced gives_signal (is_signal_step book) (turn book r s).trace
  turn_signals = turn_balanced gives_signal (is_signal_step book) signal_events (λ r. refl) (λ r p t. refl)

  pub signals_completed : (g : Game) → how_many gives_signal (trace_of book g) ≡ how_many (completes (is_signal_step book)) (trace_of book g)
  signals_completed = round_balanced gives_signal (is_signal_step book) signal_events (λ r. refl) (λ r p t. refl)

  pub marks_completed : (g : Game) → length (marks_in (trace_of book g)) ≡ how_many (completes (is_mark_step book)) (trace_of book g)
  marks_completed g =
      marks_counted (trace_of book g) ∙ round_balanced is_marked (is_mark_step book) mark_events (λ r. refl) (λ r p t. refl) g
