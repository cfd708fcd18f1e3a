-- Each step does what its fields say when the trace is carried out again: by the rows of the table of kinds, it changes the counters and
-- numbers so and leads on so, or it halts the turn and changes neither. Hence the counters and numbers at a round's end are what the steps
-- told as completed make of the counters before it.
use Prim.Native.Nat.{ℕ}
use mathlib.Core.Path.{◌≡◌, refl, sym, subst, ap, ◌∙◌}
use mathlib.Core.Bool.{◌&&◌, not}
use mathlib.Core.List.{List, [], ◌∷◌, ◌++◌}
use lib.Dec.{eqb}
use lib.IntN.{ℤ}
use Rattle.std.specs.Prelude.{Option, Some, None}
use Rattle.numbers.specs.Numbers.{count_of}
use Rattle.kinds.specs.declared.Kind.{Kind}
use Rattle.kinds.specs.Steps.{field_a, field_b, field_n, step_at}
use Rattle.kinds.proofs.Rows.{◌and◌, Kinds, kind_holds}
use Rattle.layout.specs.Layout.{counts_of}
use Rattle.directory.specs.Directory.{routine_steps}
use Rattle.game.specs.declared.Game.{Game}
use Rattle.numbers.proofs.Tests.{by_test}
use Rattle.round.specs.declared.Position.{Position}
use Rattle.round.specs.declared.Effect.{Effect}
use Rattle.round.specs.declared.Effect.TheVariants.{Nothing, Put}
use Rattle.round.specs.declared.Act.{Act}
use Rattle.round.specs.declared.Act.TheVariants.{Goes, Halts}
use Rattle.round.specs.State.{State, Thing, signal, end, number, Event, missing, past, completed}
use Rattle.round.specs.State.{number_at, is_there}
use Rattle.round.specs.Actions.{at_start}
use Rattle.round.specs.Ticks.{Tick, count_at, onward, tries, waits_for, tick_of, tick_at, tick, effect_on}
use Rattle.round.specs.Rounds.{ticks, ticks_of, turn, round, trace_of}
use Rattle.round.specs.claims.Replay.{Contents, made_by, leads_to, at_step, made_of, contents_after}
use Rattle.round.proofs.Stepping.{ticks_by}
use Rattle.round.proofs.Along.{round_always}
use Rattle.round.proofs.AfterTurn.{end_keeps, turn_by}

-- the counters and numbers of a state
abbrev pub contents_of : State → Contents
contents_of s = (s.game.counters, s.numbers)

module _ (book : List ℕ) where
  after_append : (a b : List Event) (c : Contents) → contents_after book (a ++ b) c ≡ contents_after book b (contents_after book a c)
  unfolding contents_after
  after_append [] b c = refl
  after_append (h ∷ a) b c = after_append a b (made_of book h c)

  -- the events between two states make the second's contents of the first's
  abbrev pub Makes : State → List Event → State → Type 0
  Makes s events u = contents_of u ≡ contents_after book events (contents_of s)

  pub makes_same : (s : State) → Makes s [] s
  unfolding contents_after
  makes_same s = refl

  pub makes_both : (s u v : State) (a b : List Event) → Makes s a u → Makes u b v → Makes s (a ++ b) v
  makes_both s u v a b first then = then ∙ ap (contents_after book b) first ∙ sym (after_append a b (contents_of s))

  -- routine r stands at position x
  module _ (r : ℕ) (x : Position) (s : State) where
    abbrev steps : List ℕ
    steps = routine_steps book r

    -- a step with these fields
    module _ (op a b : ℕ) (n : ℤ) where
      -- one that goes on changes the contents, and leads on, as its fields say; one that halts the turn changes nothing
      abbrev Agrees : Act → List Event → Type 0
      Agrees (Goes q e) events =
          (q ≡ leads_to steps x.place op a b n s.game.counters) ×
          (contents_of (effect_on e s) ≡ contents_after book events (made_by op a b n (contents_of s)))
      Agrees (Halts how y) events = Makes s events s

      abbrev TickAgrees : Tick → Type 0
      TickAgrees t = Agrees t.act t.events

      tries_agrees :
          (t : Thing) (e : Effect) (y : Position) → Agrees (onward r steps x s e) (past r x.place t ∷ []) →
          TickAgrees (tries r steps x s t e y)
      unfolding contents_after
      tries_agrees t e y h =
          by_test TickAgrees (is_there s t) (λ there. h)
          (λ none. by_test (λ act. Agrees act (missing r x.place t ∷ [])) s.eoi (λ closing. refl) (λ going. refl))

      waits_agrees : (t : Thing) (k : ℕ) → Agrees (onward r steps x s Nothing) [] → TickAgrees (waits_for r steps x s t k)
      unfolding waits_for contents_after
      waits_agrees t k h = by_test TickAgrees (eqb k 0 && not (is_there s t)) (λ over. h) (λ some. tries_agrees t Nothing _ h)

    -- each row of the table: its op with the fields a, b and n
    table_agrees :
        (a b : ℕ) (n : ℤ) → Kinds (λ op k. TickAgrees op a b n (tick_of r steps x s k)) a b n
    unfolding tick_of effect_on made_by leads_to contents_after
    table_agrees a b n =
        (refl, refl)
        and (refl, refl)
        and (refl, refl)
        and (refl, refl)
        and (refl, refl)
        and (refl, refl)
        and refl
        and by_test (λ act. Agrees 7 a b n act []) (eqb (count_at x (count_of n)) 0) (λ over. (refl, refl)) (λ some. refl)
        and tries_agrees 8 a b n (signal a) Nothing _ (refl, refl)
        and waits_agrees 9 a b n (signal a) (count_at x (count_of n)) (refl, refl)
        and tries_agrees 10 a b n (end a) Nothing _ (refl, refl)
        and waits_agrees 11 a b n (end a) (count_at x (count_of n)) (refl, refl)
        and tries_agrees 12 a b n (number a (count_of n)) (Put b (number_at s a (count_of n))) _ (refl, refl)
        and (refl, refl)
        and (refl, refl)
        and (refl, refl)
        and (refl, refl)
        and (refl, refl)
        and (refl, refl)
        and (refl, refl)
        and (refl, refl)
        and tt

    -- what the step there comes to, or the routine's end where none stands
    step_agrees :
        (st : Option Kind) → step_at (counts_of book) steps x.place ≡ st → at_step TickAgrees steps x.place (tick_at r steps x s st)
    unfolding contents_after
    step_agrees (Some k) e =
        let p = x.place in
        let a = field_a steps p in
        let b = field_b steps p in
        let n = field_n steps p in
        kind_holds (λ op (k : Kind). TickAgrees op a b n (tick_of r steps x s k)) (counts_of book) steps p (table_agrees a b n) e
    step_agrees None e = refl

    pub tick_agrees : {t : Tick} → tick (counts_of book) r steps x s ≡ t → at_step TickAgrees steps x.place t
    unfolding tick
    tick_agrees same = subst (at_step TickAgrees steps x.place) same (step_agrees (step_at (counts_of book) steps x.place) refl)

  ticks_make :
      (r n : ℕ) (x : Position) (s : State) →
      let t = ticks n (counts_of book) r (routine_steps book r) x s in
      Makes s t.trace t.state
  unfolding contents_after
  ticks_make r =
      ticks_by (counts_of book) r (routine_steps book r) (λ x s t. Makes s t.trace t.state)
      (λ x s q e events t same leaves right says rest.
      makes_both s (effect_on e s) t.state (completed r x.place ∷ events) t.trace (tick_agrees r x s same).1 rest)
      (λ x s how y events same stays stops. tick_agrees r x s same) (λ x s. makes_same s)

  pub turn_makes : (r : ℕ) (s : State) → Makes s (turn book r s).trace (turn book r s).state
  turn_makes r s =
      let t = ticks_of book r s in
      turn_by book r s (λ p. Makes s p.trace p.state) (λ h. makes_same s)
      (λ h. end_keeps (Makes s t.trace) t.ending r _ (λ k. k) (ticks_make r _ _ s))

  pub contents_made :
      (g : Game) → contents_of (round book g).played.state ≡ contents_after book (trace_of book g) (g.counters, [])
  unfolding at_start
  contents_made = round_always Makes makes_same makes_both book turn_makes makes_same
