-- Traces: how many of the events pass a test, what holds of each with the events after it, and what comes by them.
-- By induction on the events, and for those of one step by the table of Acts.antt.
use Prim.Native.Nat.{ℕ, ◌+◌}
use mathlib.Core.Path.{◌≡◌, refl}
use mathlib.Core.Bool.{Bool, true, false}
use mathlib.Core.List.{List, [], ◌∷◌, ◌++◌}
use mathlib.Core.Logic.{inl, inr}
use native.Mathlib.Omega.{arith}
use lib.IntN.{ℤ}
use Rattle.std.specs.Prelude.{if◌then◌else◌}
use Rattle.numbers.specs.Counting.{how_many, Somewhere}
use Rattle.numbers.proofs.Tests.{clash}
use Rattle.kinds.specs.declared.Counts.{Counts}
use Rattle.round.specs.declared.Ending.{Ending}
use Rattle.round.specs.declared.Position.{Position}
use Rattle.round.specs.declared.Effect.{Effect}
use Rattle.round.specs.State.{State, Thing, signal, end, number, Event, gave, ended, missing, past, marked}
use Rattle.round.specs.claims.Demand.{gives_signal, ends_routine, Comes, signal_given, routine_ended, number_given}
use Rattle.round.proofs.Acts.{Says, silent, marks, gives, gives_number, finds, Stops, ends, rests, misses, continues}
use Rattle.round.proofs.TurnLaws.{moves}

-- where one more, if it counts, makes none, it does not count and the others are none
pub none_of_all : (t : Bool) (n : ℕ) → (if t then n + 1 else n) ≡ 0 → (t ≡ false) × (n ≡ 0)
none_of_all true n e = absurd (omega arith)
none_of_all false n e = (refl, e)

module _ {A : Type 0} (test : A → Bool) where
  pub many_append : (a b : List A) → how_many test (a ++ b) ≡ how_many test a + how_many test b
  unfolding how_many
  many_append [] b = omega arith
  many_append (x ∷ a) b = let rest = many_append a b in counted (test x) _ _ _ rest
    where
      counted : (t : Bool) (m n k : ℕ) → m ≡ n + k → (if t then m + 1 else m) ≡ (if t then n + 1 else n) + k
      counted true m n k e = omega arith
      counted false m n k e = e

  -- nothing of the one and nothing of the other
  pub none_of_both : (a b : List A) → how_many test a ≡ 0 → how_many test b ≡ 0 → how_many test (a ++ b) ≡ 0
  none_of_both a b h k = let both = many_append a b in omega arith

  -- where no event passes a test, none is such that it would have to pass it
  pub no_event :
      (P : A → Type 0) → ((h : A) → P h → test h ≡ true) → (events : List A) → how_many test events ≡ 0 → Somewhere P events → ⊥
  unfolding how_many
  no_event P passes [] e p = elim p [ ]
  no_event P passes (h ∷ events) e (inl p) = clash (passes h p) (none_of_all (test h) _ e).0
  no_event P passes (h ∷ events) e (inr p) = no_event P passes events (none_of_all (test h) _ e).1 p

-- the events of a step of routine r at position x
module _ (test : Event → Bool) {counts : Counts} {r : ℕ} {steps : List ℕ} {x : Position} {s : State} where
  pub says_none :
      ((n : ℤ) → test (marked r n) ≡ false) → ((e k : ℕ) → test (gave e k) ≡ false) →
      ((t : Thing) → test (past r x.place t) ≡ false) →
      {e : Effect} {events : List Event} → Says counts r steps x s e events → how_many test events ≡ 0
  unfolding how_many
  says_none mark give find (silent g o) = refl
  says_none mark give find (marks {n} h) = rw (mark n)
  says_none mark give find (gives {e} h) = rw (give e 0)
  says_none mark give find (gives_number {e} h) = rw give
  says_none mark give find (finds {t = t} g o a h) = rw (find t)

  pub stops_none :
      test (ended r) ≡ false → ((t : Thing) → test (missing r x.place t) ≡ false) →
      {how : Ending} {y : Position} {events : List Event} → Stops counts r steps x s how y events → how_many test events ≡ 0
  unfolding how_many
  stops_none over miss ends = rw over
  stops_none over miss rests = refl
  stops_none over miss (misses {t = t} a h e) = rw (miss t)
  stops_none over miss (continues {t} a h e) = rw (miss t)

pub moves_append : (a b : List Event) → moves (a ++ b) ≡ moves a + moves b
moves_append a b = omega (arith, many_append gives_signal a b, many_append ends_routine a b)

-- a claim on each event, with the events after it
abbrev pub EachWith : (Event → List Event → Type 0) → List Event → Type 0
EachWith P [] = Unit {0}
EachWith P (h ∷ events) = P h events × EachWith P events

pub each_at :
    (P : Event → List Event → Type 0) (before after : List Event) (h : Event) →
    EachWith P (before ++ (h ∷ after)) → P h after
each_at P [] after h all = all.0
each_at P (x ∷ before) after h all = each_at P before after h all.1

-- a thing that a step gives
abbrev pub is_given : Thing → Bool
is_given (signal e) = true
is_given (end r) = false
is_given (number e k) = true

-- it comes with a signal given, and a routine's end with an end
pub given_by_signals : {t : Thing} → is_given t ≡ true → (h : Event) → Comes t h → gives_signal h ≡ true
given_by_signals g h signal_given = refl
given_by_signals g h routine_ended = clash g refl
given_by_signals g h number_given = refl

pub end_ends : {r : ℕ} (h : Event) → Comes (end r) h → ends_routine h ≡ true
end_ends h routine_ended = refl

-- so where nothing moves, nothing comes
pub nothing_comes : (t : Thing) (events : List Event) → moves events ≡ 0 → Somewhere (Comes t) events → ⊥
nothing_comes (signal e) events m = no_event gives_signal (Comes (signal e)) (given_by_signals refl) events (omega arith)
nothing_comes (end r) events m = no_event ends_routine (Comes (end r)) end_ends events (omega arith)
nothing_comes (number e k) events m = no_event gives_signal (Comes (number e k)) (given_by_signals refl) events (omega arith)
