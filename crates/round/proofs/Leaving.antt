-- Where a step that halts the turn leaves its routine: in the way out of a turn that specs/claims/Trace.antt has for it, or, if the turn is
-- to be continued, where it stands. By the kinds, each by its tick; where no step stands, it is behind the last.
use Prim.Native.Nat.{ℕ, ◌+◌, ◌-◌, ◌<◌, ◌≤◌}
use mathlib.Core.Path.{◌≡◌, refl, sym, ap, ◌∙◌, subst}
use mathlib.Core.Bool.{false, ◌&&◌, not, and-true}
use mathlib.Core.List.{List, [], ◌∷◌, ◌++◌}
use mathlib.Core.Logic.{inl, inr}
use native.Mathlib.Decide.{dec_lt}
use native.Mathlib.Omega.{arith}
use lib.Dec.{eqb}
use Rattle.std.specs.Prelude.{Option, Some, None}
use Rattle.numbers.proofs.Tests.{by_test}
use Rattle.kinds.specs.declared.Kind.{Kind}
use Rattle.kinds.specs.declared.Kind.TheVariants as kind
use Rattle.kinds.specs.Steps.{steps_in}
use Rattle.kinds.proofs.Readable.{kind_not_refused}
use Rattle.layout.specs.Layout.{routines_of, counts_of}
use Rattle.directory.specs.Directory.{step_count, routine_steps, routine_step}
use Rattle.book.specs.Accepted.{Accepted}
use Rattle.book.proofs.Routines.{shown_routine, shown_kind}
use Rattle.game.specs.declared.Routine.{Routine}
use Rattle.game.specs.Game as stage
use Rattle.round.specs.declared.Ending.{Ending}
use Rattle.round.specs.declared.Ending.TheVariants.{Ended, Rested, Missed, Continued}
use Rattle.round.specs.declared.Position.{Position}
use Rattle.round.specs.declared.Effect.{Effect}
use Rattle.round.specs.declared.Effect.TheVariants.{Nothing, Put}
use Rattle.round.specs.declared.Act.{Act}
use Rattle.round.specs.declared.Act.TheVariants.{Goes, Halts}
use Rattle.round.specs.State.{State, Thing, signal, end, number, Event, missing, number_at, is_there}
use Rattle.round.specs.Actions.{position_of}
use Rattle.round.specs.Ticks.{Tick, tick_with, fresh, begun_at, count_at, tries, waits_for, tick_of, tick_at, tick}
use Rattle.round.specs.claims.Trace.{WasMissing, LeftAt}
use Rattle.round.proofs.Among.{in_second}
use Rattle.round.proofs.Parsed.{size_same}
use Rattle.round.proofs.Tries.{some_left}

-- routine r
module _ (book : List ℕ) (r : ℕ) where
  -- a routine is left as another in the same stage and at the same position is, and when more is told
  pub left_as :
      {x : Position} {b c : List Event} {y z : Routine} → ((t : Thing) → WasMissing book r x b t → WasMissing book r x c t) →
      z.stage ≡ y.stage → position_of z ≡ position_of y → LeftAt book r x b y → LeftAt book r x c z
  left_as more s p (LeftAt.rests o (d, q)) = LeftAt.rests o (s ∙ d, p ∙ q)
  left_as more s p (LeftAt.unread {e} {k = k} o m (d, q)) = LeftAt.unread o (more (number e k) m) (s ∙ d, p ∙ q)
  left_as more s p (LeftAt.misses {i} (inl (o, m)) (d, q)) = LeftAt.misses (inl (o, more (signal i) m)) (s ∙ d, p ∙ q)
  left_as more s p (LeftAt.misses {i} (inr (o, m)) (d, q)) = LeftAt.misses (inr (o, more (end i) m)) (s ∙ d, p ∙ q)
  left_as more s p (LeftAt.rests_for o some (d, q)) = LeftAt.rests_for o some (s ∙ d, p ∙ q)
  left_as more s p (LeftAt.misses_for {i} (inl (o, m)) some (d, q)) = LeftAt.misses_for (inl (o, more (signal i) m)) some (s ∙ d, p ∙ q)
  left_as more s p (LeftAt.misses_for {i} (inr (o, m)) some (d, q)) = LeftAt.misses_for (inr (o, more (end i) m)) some (s ∙ d, p ∙ q)
  left_as more s p (LeftAt.ends l d q) = LeftAt.ends l (s ∙ d) (p ∙ q)

  -- a turn that told this and has come to x leaves its routine in this stage at y, in one of the ways out of a turn
  abbrev Out : List Event → Position → ℕ → Position → Type 0
  Out events x stage y = (v : Routine) → v.stage ≡ stage → position_of v ≡ y → LeftAt book r x events v

  -- a turn that ends so is out, or to be continued where it has come to
  abbrev pub Halted : List Event → Position → Ending → Position → Type 0
  Halted events x Ended y = Out events x stage.ended y
  Halted events x Rested y = Out events x stage.rested y
  Halted events x Missed y = Out events x stage.rested y
  Halted events x Continued y = y ≡ x

  -- with more events before
  out_later : (b c : List Event) {x : Position} {stage : ℕ} {y : Position} → Out c x stage y → Out (b ++ c) x stage y
  out_later b c {x} h v d p = left_as (λ t. in_second (λ k. k ≡ missing r x.place t) b c) refl refl (h v d p)

  pub halted_later :
      (b c : List Event) (x : Position) (how : Ending) (y : Position) → Halted c x how y → Halted (b ++ c) x how y
  halted_later b c x Ended y h = out_later b c h
  halted_later b c x Rested y h = out_later b c h
  halted_later b c x Missed y h = out_later b c h
  halted_later b c x Continued y h = h

  -- it stands at position x
  module _ (x : Position) (s : State) where
    abbrev steps : List ℕ
    steps = routine_steps book r

    -- what a step that halts the turn comes to; of one that goes on nothing is claimed
    abbrev Halting : Act → List Event → Type 0
    Halting (Goes q e) events = Unit {0}
    Halting (Halts how y) events = Halted events x how y

    abbrev HaltingTick : Tick → Type 0
    HaltingTick t = Halting t.act t.events

    -- a try that finds its thing missing leaves its routine at y
    abbrev MayMiss : Thing → Position → Type 0
    MayMiss t y = Halted (missing r x.place t ∷ []) x Missed y

    tries_halt : (t : Thing) (e : Effect) (y : Position) → (is_there s t ≡ false → MayMiss t y) → HaltingTick (tries r steps x s t e y)
    tries_halt t e y may =
        by_test HaltingTick (is_there s t) (λ there. tt)
        (λ none. by_test (λ act. Halting act (missing r x.place t ∷ [])) s.eoi (λ closing. may none) (λ going. refl))

    -- with the count k: only while some of it is left
    waits_halt :
        (t : Thing) (k : ℕ) → (0 < k → MayMiss t (begun_at x.place (k - 1))) → HaltingTick (waits_for r steps x s t k)
    unfolding waits_for
    waits_halt t k may =
        by_test HaltingTick (eqb k 0 && not (is_there s t)) (λ over. tt)
        (λ h. tries_halt t Nothing (begun_at x.place (k - 1)) (λ none. may (some_left k (rw (none, and-true) at h))))

    kind_halts : (k : Kind) → routine_step book r x.place ≡ Some k → HaltingTick (tick_of r steps x s k)
    unfolding tick_of
    kind_halts (kind.Mark n) o = tt
    kind_halts (kind.Set c n) o = tt
    kind_halts (kind.Add c n) o = tt
    kind_halts (kind.Take c d) o = tt
    kind_halts (kind.Signal e) o = tt
    kind_halts (kind.SignalNumber e c) o = tt
    kind_halts kind.Rest o = λ v d q. LeftAt.rests o (d, q)
    kind_halts (kind.RestFor n) o =
        by_test (λ act. Halting act []) (eqb (count_at x n) 0) (λ over. tt)
        (λ h v d q. LeftAt.rests_for o (some_left (count_at x n) h) (d, q))
    kind_halts (kind.Wait e) o = tries_halt (signal e) Nothing (fresh x.place) (λ none v d q. LeftAt.misses (inl (o, inl refl)) (d, q))
    kind_halts (kind.WaitFor e n) o = waits_halt (signal e) (count_at x n) (λ some v d q. LeftAt.misses_for (inl (o, inl refl)) some (d, q))
    kind_halts (kind.Join t) o = tries_halt (end t) Nothing (fresh x.place) (λ none v d q. LeftAt.misses (inr (o, inl refl)) (d, q))
    kind_halts (kind.JoinFor t n) o = waits_halt (end t) (count_at x n) (λ some v d q. LeftAt.misses_for (inr (o, inl refl)) some (d, q))
    kind_halts (kind.Read e c k) o =
        tries_halt (number e k) (Put c (number_at s e k)) (fresh (x.place + 1)) (λ none v d q. LeftAt.unread o (inl refl) (d, q))
    kind_halts (kind.Start t) o = tt
    kind_halts (kind.Stop t) o = tt
    kind_halts (kind.Suspend t) o = tt
    kind_halts (kind.Resume t) o = tt
    kind_halts (kind.If c relation n) o = tt
    kind_halts kind.Else o = tt
    kind_halts (kind.While c relation n) o = tt
    kind_halts kind.End o = tt

    -- in an accepted book, at one of its steps or behind the last
    module _ (a : Accepted book) (below : r < routines_of book) (inside : x.place ≤ steps_in (routine_steps book r)) where
      behind_last : routine_step book r x.place ≡ None → x.place ≡ step_count book r
      behind_last none =
          elim (dec_lt x.place (step_count book r)) [
            | yes l ↦
                let (k, e) = rw (shown_routine book a r below) at (shown_kind book a r below x.place l) in
                absurd (kind_not_refused (sym e ∙ none))
            | no n ↦ omega (arith, inside, size_same book a r below)
          ]

      step_halts : (st : Option Kind) → routine_step book r x.place ≡ st → HaltingTick (tick_at r steps x s st)
      step_halts (Some k) o = kind_halts k o
      step_halts None none = λ v d q. LeftAt.ends (behind_last none) d (q ∙ ap fresh (size_same book a r below))

      pub halted :
          {how : Ending} {y : Position} {events : List Event} → tick (counts_of book) r steps x s ≡ tick_with (Halts how y) events →
          Halted events x how y
      unfolding tick
      halted same = subst HaltingTick same (step_halts (routine_step book r x.place) refl)
