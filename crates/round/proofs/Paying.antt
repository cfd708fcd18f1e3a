-- A turn pays for its events from what its routine has left: what passes a test, and what is left behind the turn, are together at
-- most what was left before it, if that holds of each step. So a turn completes no more steps of a set than its routine has before it, and
-- ends it at most once. Every other routine has as much left as before.
use Prim.Native.Nat.{ℕ, ◌+◌, ◌<◌, ◌≤◌}
use mathlib.Core.Path.{◌≡◌, refl}
use mathlib.Core.Bool.{Bool, true, false, not}
use mathlib.Core.List.{List, [], ◌∷◌}
use mathlib.Core.Logic.{◌≢◌}
use native.Mathlib.Omega.{arith}
use Rattle.std.specs.Prelude.{if◌then◌else◌, Some}
use Rattle.numbers.specs.Counting.{how_many}
use Rattle.layout.specs.Layout.{routines_of, counts_of}
use Rattle.directory.specs.Directory.{routine_steps}
use Rattle.book.specs.Accepted.{Accepted}
use Rattle.game.specs.Game.{routine_at}
use Rattle.round.specs.declared.Ending.{Ending}
use Rattle.round.specs.declared.Position.{Position}
use Rattle.round.specs.declared.Effect.{Effect}
use Rattle.round.specs.State.{State, Thing, Event, ended, missing, completed}
use Rattle.round.specs.Actions.{position_of}
use Rattle.round.specs.Ticks.{fresh}
use Rattle.round.specs.Rounds.{ticks, is_done, ticks_of, turn}
use Rattle.round.specs.claims.Demand.{ends_routine}
use Rattle.round.specs.claims.Completed.{completes}
use Rattle.round.specs.claims.Sound.{Sound}
use Rattle.round.proofs.Counting.{one}
use Rattle.round.proofs.Traces.{many_append, says_none}
use Rattle.round.proofs.Leads.{Leaves}
use Rattle.round.proofs.Acts.{Says, Stops}
use Rattle.round.proofs.Stepping.{ticks_by}
use Rattle.round.proofs.Lasting.{left, left_less}
use Rattle.round.proofs.Coming.{turn_untouched}
use Rattle.round.proofs.TurnLaws.{is_going}
use Rattle.round.proofs.AfterTurn.{turn_by, position_after_lem, after_going}
use Rattle.round.proofs.Turned.{turn_turned}

-- what is left behind steps that end so, n being left at the position reached: a turn that is to be continued goes on from there in this
-- round, and no other does
abbrev left_behind : Ending → ℕ → ℕ
left_behind how n = if not (is_done (Some how)) then n else 0

-- what routine r has before it in a state of a round, where left says it of a routine at a position
abbrev pub worth : (ℕ → Position → ℕ) → ℕ → State → ℕ
worth left r s = if is_going s r then left r (position_of (routine_at s.game r)) else 0

-- a turn leaves every other routine what it has, whatever that is
pub turn_spares :
    (book : List ℕ) → Accepted book → (left : ℕ → Position → ℕ) (r q : ℕ) (s : State) → r < routines_of book → Sound book s → q ≢ r →
    worth left q (turn book r s).state ≡ worth left q s
turn_spares book a left r q s l ok n =
    let e = (turn_turned book a r s l ok).standings.others q n in
    cc (e.stage, e.suspended, e.position)

module _
    (book : List ℕ) (test : Event → Bool) (left : ℕ → Position → ℕ) (r : ℕ)
    (goes :
    (x : Position) (s : State) (q : ℕ) (e : Effect) (events : List Event) → Leaves (counts_of book) (routine_steps book r) x q →
    Says (counts_of book) r (routine_steps book r) x s e events →
    how_many test (completed r x.place ∷ events) + left r (fresh q) ≤ left r x)
    (misses : (p : ℕ) (t : Thing) → how_many test (missing r p t ∷ []) ≡ 0)
    (ends : (x : Position) → how_many test (ended r ∷ []) ≤ left r x)
  where
    abbrev steps : List ℕ
    steps = routine_steps book r

    stops_pay :
        (x : Position) (s : State) (how : Ending) (y : Position) (events : List Event) → Stops (counts_of book) r steps x s how y events →
        how_many test events + left_behind how (left r y) ≤ left r x
    unfolding how_many
    stops_pay x s how y events Stops.ends = omega (arith, ends x)
    stops_pay x s how y events Stops.rests = omega arith
    stops_pay x s how y events (Stops.misses {t = t} a h e) = omega (arith, misses x.place t)
    stops_pay x s how y events (Stops.continues {t} a h e) = omega (arith, misses x.place t)

    ticks_pay :
        (n : ℕ) (x : Position) (s : State) →
        let t = ticks n (counts_of book) r steps x s in
        how_many test t.trace + left_behind t.ending (left r t.position) ≤ left r x
    unfolding how_many
    ticks_pay =
        ticks_by (counts_of book) r steps (λ x s t. how_many test t.trace + left_behind t.ending (left r t.position) ≤ left r x)
        (λ x s q e events t same leaves right says rest.
        omega (arith, many_append test (completed r x.place ∷ events) t.trace, goes x s q e events leaves says, rest))
        (λ x s how y events same stays stops. stops_pay x s how y events stops) (λ x s. omega arith)

    pays : (s : State) → how_many test (turn book r s).trace + worth left r (turn book r s).state ≤ worth left r s
    unfolding how_many
    pays s =
        let t = ticks_of book r s in
        let standing = (turn_untouched book r s).standings r in
        turn_by book r s (λ p. how_many test p.trace + worth left r p.state ≤ worth left r s) (λ h. omega arith)
        (λ h. rw (after_going r s t standing h, position_after_lem r s t standing h, h) (ticks_pay _ _ s))

-- one step more, in the set or not, where n are left behind it
one_more : (t : Bool) (k m n : ℕ) → k ≡ 0 → n + one t ≤ m → (if t then k + 1 else k) + n ≤ m
one_more true k m n none h = omega arith
one_more false k m n none h = omega arith

module _ (book : List ℕ) (a : Accepted book) (set : ℕ → ℕ → Bool) where
  abbrev pub left_of : ℕ → Position → ℕ
  left_of = left book a set

  pub turn_pays :
      (r : ℕ) (s : State) → r < routines_of book →
      how_many (completes set) (turn book r s).trace + worth left_of r (turn book r s).state ≤ worth left_of r s
  unfolding how_many
  turn_pays r s l =
      pays book (completes set) left_of r
      (λ x u q e events leaves says.
      one_more (set r x.place) _ _ _ (says_none (completes set) (λ n. refl) (λ b k. refl) (λ t. refl) says)
      (left_less book a set r l x q leaves))
      (λ p t. refl) (λ x. omega arith) s

-- a routine that takes turns may still end, once
abbrev pub may_end : ℕ → Position → ℕ
may_end r x = 1

pub ends_pay :
    (book : List ℕ) (r : ℕ) (s : State) →
    how_many ends_routine (turn book r s).trace + worth may_end r (turn book r s).state ≤ worth may_end r s
unfolding how_many
ends_pay book r s =
    pays book ends_routine may_end r
    (λ x u q e events leaves says. omega (arith, says_none ends_routine (λ n. refl) (λ b k. refl) (λ t. refl) says))
    (λ p t. refl) (λ x. omega arith) s
