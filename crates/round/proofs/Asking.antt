-- What a step that asks for a thing comes to: past it where the thing is there, and otherwise the turn's end; so where the turn goes on,
-- the thing was found. By cases on the step.
use Prim.Native.Nat.{ℕ, ◌+◌, ◌-◌, ◌<◌}
use mathlib.Core.Path.{◌≡◌, refl, sym, ap, ◌∙◌}
use mathlib.Core.Bool.{Bool, true, false}
use mathlib.Core.List.{List, [], ◌∷◌}
use native.Mathlib.Omega.{arith}
use borrow.Author.Tests.{ne_eqb}
use lib.Dec.{eqb}
use Rattle.std.specs.Prelude.{if◌then◌else◌, Option}
use Rattle.kinds.specs.declared.Kind.{Kind}
use Rattle.numbers.proofs.Tests.{by_test}
use Rattle.round.specs.declared.Ending.TheVariants.{Missed, Continued}
use Rattle.round.specs.declared.Position.{Position}
use Rattle.round.specs.declared.Effect.{Effect}
use Rattle.round.specs.declared.Effect.TheVariants.{Nothing, Put}
use Rattle.round.specs.declared.Act.TheVariants.{Goes, Halts}
use Rattle.round.specs.State.{State, Thing, signal, end, Event, missing, past, number_at, is_there}
use Rattle.round.specs.Ticks.{Tick, tick_with, fresh, begun_at, count_at, tries, waits_for, tick_of, tick_at}
use Rattle.round.specs.claims.Demand.{AsksFor, wait, wait_for, join, join_for, read}
use Rattle.round.proofs.Acts.{Asks}

-- a step asks for one thing
pub asks_once : {st : Option Kind} {t u : Thing} → AsksFor st t → AsksFor st u → t ≡ u
asks_once wait wait = refl
asks_once wait_for wait_for = refl
asks_once join join = refl
asks_once join_for join_for = refl
asks_once read read = refl

module _ (r : ℕ) (steps : List ℕ) (x : Position) (s : State) where
  -- a timed step with some of its count left waits as one without a count does
  waits_for_lem :
      (t : Thing) (k : ℕ) → 0 < k →
      waits_for r steps x s t k ≡ tries r steps x s t Nothing (begun_at x.place (k - 1))
  unfolding waits_for
  waits_for_lem t k l = let some : eqb k 0 ≡ false = ne_eqb k 0 (λ z. omega arith) in rw some

  -- the step that asks for t tries for it
  asks_tries :
      {st : Option Kind} {t : Thing} → Asks x st t →
      (e : Effect) × (y : Position) × (tick_at r steps x s st ≡ tries r steps x s t e y)
  unfolding tick_of
  asks_tries (wait, l) = (Nothing, fresh x.place, refl)
  asks_tries (wait_for {e} {n}, l) = (Nothing, begun_at x.place (count_at x n - 1), waits_for_lem (signal e) (count_at x n) l)
  asks_tries (join, l) = (Nothing, fresh x.place, refl)
  asks_tries (join_for {r = q} {n}, l) = (Nothing, begun_at x.place (count_at x n - 1), waits_for_lem (end q) (count_at x n) l)
  asks_tries (read {e} {c} {k}, l) = (Put c (number_at s e k), fresh (x.place + 1), refl)

  pub asked_there :
      {st : Option Kind} {t : Thing} → Asks x st t → is_there s t ≡ true →
      (e : Effect) × (tick_at r steps x s st ≡ tick_with (Goes (x.place + 1) e) (past r x.place t ∷ []))
  asked_there a h = let (e, y, tried) = asks_tries a in (e, rw h at tried)

  pub asked_missing :
      {st : Option Kind} {t : Thing} → Asks x st t → is_there s t ≡ false →
      (y : Position) ×
      (tick_at r steps x s st ≡ tick_with (if s.eoi then Halts Missed y else Halts Continued x) (missing r x.place t ∷ []))
  asked_missing a h = let (e, y, tried) = asks_tries a in (y, rw h at tried)

  -- so where the turn goes on, the thing was found
  pub asked_goes :
      {st : Option Kind} {t : Thing} {q : ℕ} {e : Effect} {events : List Event} → Asks x st t →
      tick_at r steps x s st ≡ tick_with (Goes q e) events → events ≡ past r x.place t ∷ []
  asked_goes {t = t} {q} {e} {events} a on =
      let (f, y, tried) = asks_tries a in
      by_test (λ (k : Tick). k ≡ tick_with (Goes q e) events → events ≡ past r x.place t ∷ []) (is_there s t)
      (λ h same. sym (ap (λ (k : Tick). k.events) same))
      (λ h same. absurd (halts s.eoi y (ap (λ (k : Tick). k.act) same)))
      (sym tried ∙ on)
    where
      halts : (closing : Bool) (y : Position) → (if closing then Halts Missed y else Halts Continued x) ≡ Goes q e → ⊥
      halts true y same = let z : ◌≡◌ {A = ℕ} 0 1 = cc in omega arith
      halts false y same = let z : ◌≡◌ {A = ℕ} 0 1 = cc in omega arith
