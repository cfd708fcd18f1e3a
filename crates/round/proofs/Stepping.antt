-- What holds of each step, by what it comes to, holds of a turn's steps: for any claim on where they begin and what they come to, and so
-- for any claim on two states and the events between them that holds of one after the other. By induction on the steps allowed.
use Prim.Native.Nat.{ℕ, zero, suc}
use mathlib.Core.Path.{◌≡◌, refl}
use mathlib.Core.List.{List, [], ◌∷◌, ◌++◌}
use Rattle.kinds.specs.declared.Counts.{Counts}
use Rattle.round.specs.declared.Ending.{Ending}
use Rattle.round.specs.declared.Ending.TheVariants.{Continued}
use Rattle.round.specs.declared.Position.{Position}
use Rattle.round.specs.declared.Effect.{Effect}
use Rattle.round.specs.declared.Act.{Act}
use Rattle.round.specs.declared.Act.TheVariants.{Goes, Halts}
use Rattle.round.specs.State.{State, Event, completed}
use Rattle.round.specs.Ticks.{tick_with, tick, fresh, effect_on}
use Rattle.round.specs.Rounds.{Ticks, follow, ticks}
use Rattle.round.specs.claims.Enough.{IfItGoesOn, InTime}
use Rattle.round.proofs.Leads.{Leaves}
use Rattle.round.proofs.Acts.{Right, Says, Stands, Stops, Sorted}
use Rattle.round.proofs.Sorting.{sorted}

-- steps that end so, and the steps behind one that went on with these events
abbrev ending : Ending → Position → State → List Event → Ticks
ending how y s events = record { ending = how; position = y; state = s; trace = events }

abbrev onto : ℕ → ℕ → List Event → Ticks → Ticks
onto r p events t = ending t.ending t.position t.state (completed r p ∷ events ++ t.trace)

module _ (counts : Counts) (r : ℕ) (steps : List ℕ) where
  module _
      (Claim : Position → State → Ticks → Type 0)
      (goes :
      (x : Position) (s : State) (q : ℕ) (e : Effect) (events : List Event) (t : Ticks) →
      tick counts r steps x s ≡ tick_with (Goes q e) events → Leaves counts steps x q → Right counts s e →
      Says counts r steps x s e events → Claim (fresh q) (effect_on e s) t → Claim x s (onto r x.place events t))
      (halts :
      (x : Position) (s : State) (how : Ending) (y : Position) (events : List Event) →
      tick counts r steps x s ≡ tick_with (Halts how y) events →
      (Stands counts steps x → Stands counts steps y) → Stops counts r steps x s how y events → Claim x s (ending how y s events))
    where
      -- with n steps allowed, of which something is known that stays known of those behind a step
      module _
          (Known : ℕ → Position → State → Type 0) (none : (x : Position) (s : State) → Known 0 x s → Claim x s (ending Continued x s []))
          (later :
          (n : ℕ) (x : Position) (s : State) → Known (suc n) x s → IfItGoesOn (tick counts r steps x s).act s (λ y u. Known n y u))
        where
          known_by : (n : ℕ) (x : Position) (s : State) → Known n x s → Claim x s (ticks n counts r steps x s)
          unfolding ticks
          known_by zero x s h = none x s h
          known_by (suc n) x s h =
              let t = tick counts r steps x s in
              behind t.act t.events refl (sorted counts r steps x s) (later n x s h) (λ q u. known_by n (fresh q) u)
            where
              rest : ℕ → State → Ticks
              rest q u = ticks n counts r steps (fresh q) u

              behind :
                  (act : Act) (events : List Event) → tick counts r steps x s ≡ tick_with act events →
                  Sorted counts r steps x s act events → IfItGoesOn act s (λ y u. Known n y u) →
                  ((q : ℕ) (u : State) → Known n (fresh q) u → Claim (fresh q) u (rest q u)) →
                  Claim x s (follow r x.place act events s rest)
              behind (Goes q e) events same (leaves, right, says) h on =
                  goes x s q e events (rest q (effect_on e s)) same leaves right says (on q (effect_on e s) h)
              behind (Halts how y) events same (stays, stops) h on = halts x s how y events same stays stops

      -- whether they are enough or not
      pub ticks_by :
          ((x : Position) (s : State) → Claim x s (ending Continued x s [])) →
          (n : ℕ) (x : Position) (s : State) → Claim x s (ticks n counts r steps x s)
      ticks_by none n x s = known_by (λ n x s. Unit {0}) (λ x s h. none x s) (λ n x s h. any (tick counts r steps x s).act s) n x s tt
        where
          any : (act : Act) (s : State) → IfItGoesOn act s (λ y u. Unit {0})
          any (Goes q e) s = tt
          any (Halts how y) s = tt

      -- where they are enough
      pub ticks_in_time : (n : ℕ) (x : Position) (s : State) → InTime n counts r steps x s → Claim x s (ticks n counts r steps x s)
      unfolding InTime
      ticks_in_time = known_by (λ n x s. InTime n counts r steps x s) (λ x s h. absurd h) (λ n x s h. h)

  module _
      (Claim : State → List Event → State → Type 0) (none : (s : State) → Claim s [] s)
      (both : (s u v : State) (a b : List Event) → Claim s a u → Claim u b v → Claim s (a ++ b) v)
      (goes :
      (x : Position) (s : State) (e : Effect) (events : List Event) → Right counts s e → Says counts r steps x s e events →
      Claim s (completed r x.place ∷ events) (effect_on e s))
      (halts :
      (x : Position) (s : State) (how : Ending) (y : Position) (events : List Event) → Stops counts r steps x s how y events →
      Claim s events s)
    where
      pub ticks_along :
          (n : ℕ) (x : Position) (s : State) → Claim s (ticks n counts r steps x s).trace (ticks n counts r steps x s).state
      ticks_along =
          ticks_by (λ x s t. Claim s t.trace t.state)
          (λ x s q e events t same leaves right says rest.
          both _ _ _ (completed r x.place ∷ events) _ (goes x s e events right says) rest)
          (λ x s how y events same stays stops. halts x s how y events stops) (λ x s. none s)
