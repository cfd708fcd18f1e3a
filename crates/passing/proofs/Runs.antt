-- The steps of a turn, one by one: what one more of them comes to, that its effect has a place in the tables, and, since neither numbers
-- nor what is cut off is ever taken back, that there is room for what it gives or cuts off if there is for all of it in the end.
use Prim.Native.Nat.{ℕ, zero, suc, ◌+◌, ◌-◌, ◌/◌, ◌≤◌, ◌<◌}
use mathlib.Core.Path.{◌≡◌, refl, ◌∙◌}
use mathlib.Core.Bool.{Bool}
use mathlib.Core.List.{List}
use native.Mathlib.Omega.{arith}
use native.Mathlib.Numerals.{sub-one}
use lib.IntN.{ℤ}
use lib.ListN.{length, length-take, length-append}
use Rattle.game.specs.declared.Game.{Game}
use Rattle.round.specs.declared.Ending.{Ending}
use Rattle.round.specs.declared.Ending.TheVariants.{Continued}
use Rattle.round.specs.declared.Position.{Position}
use Rattle.round.specs.declared.Effect.{Effect}
use Rattle.round.specs.declared.Effect.TheVariants.{Nothing, Mark, Put, Add, Give, GiveNumber, Start, Stop, Suspend, Resume}
use Rattle.round.specs.declared.Act.{Act}
use Rattle.round.specs.declared.Act.TheVariants.{Goes, Halts}
use Rattle.round.specs.State.{State, Event}
use Rattle.round.specs.Rounds.{most_ticks}
use Rattle.round.specs.Ticks.{fresh, tick, effect_on}
use Rattle.round.proofs.Acts.{Right, nothing, mark, put, add, give, give_number, start, stop, suspend, resume, Sorted}
use Rattle.round.proofs.Sorting.{sorted}
use Rattle.tables.specs.declared.Tally.{Tally}
use Rattle.tables.specs.declared.Tables.{Tables}
use Rattle.tables.specs.Tables.{state_of, state_in, WholeIn}
use Rattle.tables.proofs.Pairs.{pairs_length}
use Rattle.ticking.specs.Acts.{act_at}
use Rattle.ticking.proofs.StepMarks.{act_same}
use Rattle.passing.specs.Effects.{HasRoom, FitsTables, Marks, marks_of, marked_by}
use Rattle.passing.specs.Turns.{Run, runs, follow_run, run_of, position_in, Roomy, Playable}

module _ (n r : ℕ) (steps : List ℕ) (x : Position) (s : State) (m : Marks) (some : 0 < n) where
  run_more : run_of n r steps x s m ≡ follow_run r (act_at steps x s) s m (λ p u k. run_of (n - 1) r steps (fresh p) u k)
  unfolding run_of
  run_more = more n some
    where
      more :
          (n : ℕ) → 0 < n → run_of n r steps x s m ≡ follow_run r (act_at steps x s) s m (λ p u k. run_of (n - 1) r steps (fresh p) u k)
      more zero h = absurd (omega arith)
      more (suc n) h = rw (sub-one (suc n))

  -- a step that goes on, and one that halts
  run_goes :
      (q : ℕ) (e : Effect) → act_at steps x s ≡ Goes q e →
      run_of n r steps x s m ≡ run_of (n - 1) r steps (fresh q) (effect_on e s) (marked_by r e m)
  run_goes q e h = rw (run_more, h)

  run_halts : (how : Ending) (y : Position) → act_at steps x s ≡ Halts how y → run_of n r steps x s m ≡ runs how y s m
  run_halts how y h = rw (run_more, h)

pub run_over : (r : ℕ) (steps : List ℕ) (x : Position) (s : State) (m : Marks) → run_of 0 r steps x s m ≡ runs Continued x s m
unfolding run_of
run_over r steps x s m = refl

-- there is room before an effect if there is behind it
roomy_effect : (room : ℕ) (e : Effect) (s : State) → Roomy room (effect_on e s) → Roomy room s
unfolding effect_on
roomy_effect room Nothing s h = h
roomy_effect room (Mark n) s h = h
roomy_effect room (Put c v) s h = h
roomy_effect room (Add c v) s h = (h.0, omega (arith, h.1))
roomy_effect room (Give e) s h = h
roomy_effect room (GiveNumber e v) s h = (omega (arith, rw length-append at h.0), h.1)
roomy_effect room (Start t) s h = h
roomy_effect room (Stop t) s h = h
roomy_effect room (Suspend t) s h = h
roomy_effect room (Resume t) s h = h

roomy_follow :
    (room r : ℕ) (a : Act) (s : State) (m : Marks) (next : ℕ → State → Marks → Run) →
    ((p : ℕ) (u : State) (k : Marks) → Roomy room (next p u k).state → Roomy room u) →
    Roomy room (follow_run r a s m next).state → Roomy room s
roomy_follow room r (Goes q e) s m next on h = roomy_effect room e s (on q (effect_on e s) (marked_by r e m) h)
roomy_follow room r (Halts how y) s m next on h = h

roomy_run :
    (room n r : ℕ) (steps : List ℕ) (x : Position) (s : State) (m : Marks) → Roomy room (run_of n r steps x s m).state → Roomy room s
unfolding run_of
roomy_run room zero r steps x s m h = h
roomy_run room (suc n) r steps x s m h =
    roomy_follow room r (act_at steps x s) s m (λ p u k. run_of n r steps (fresh p) u k) (λ p u k. roomy_run room n r steps (fresh p) u k) h

-- so there is room for what an effect gives or cuts off, if the tables count as the state has it
room_for :
    (room : ℕ) (e : Effect) (s : State) (t : Tally) → length s.numbers ≡ t.given → s.lost ≡ t.lost → Roomy room (effect_on e s) →
    HasRoom room t e
unfolding effect_on
room_for room Nothing s t given lost h = tt
room_for room (Mark n) s t given lost h = tt
room_for room (Put c v) s t given lost h = tt
room_for room (Add c v) s t given lost h = omega (arith, h.1)
room_for room (Give e) s t given lost h = tt
room_for room (GiveNumber e v) s t given lost h = omega (arith, rw length-append at h.0)
room_for room (Start r) s t given lost h = tt
room_for room (Stop r) s t given lost h = tt
room_for room (Suspend r) s t given lost h = tt
room_for room (Resume r) s t given lost h = tt

-- a step that goes on changes what the tables have a place for
module _ {steps : List ℕ} (p : Playable steps) where
  right_fits : {s : State} {e : Effect} → Right p.counts s e → FitsTables e
  right_fits nothing = tt
  right_fits mark = tt
  right_fits (put h v) = omega (arith, p.few_counters)
  right_fits (add h v few) = omega (arith, p.few_counters)
  right_fits (give h) = omega (arith, p.few_signals)
  right_fits (give_number h v) = omega (arith, p.few_signals)
  right_fits (start h) = omega (arith, p.few_routines)
  right_fits (stop h) = omega (arith, p.few_routines)
  right_fits (suspend h) = omega (arith, p.few_routines)
  right_fits (resume h) = omega (arith, p.few_routines)

  pub goes_fits : (x : Position) (s : State) (q : ℕ) (e : Effect) → act_at steps x s ≡ Goes q e → FitsTables e
  goes_fits x s q e h =
      let goes = act_same 0 steps x s p.counts p.decodes ∙ h in
      let t = tick p.counts 0 steps x s in
      right_fits (sorted_right t.act t.events goes (sorted p.counts 0 steps x s))
    where
      sorted_right :
          (a : Act) (events : List Event) → a ≡ Goes q e → Sorted p.counts 0 steps x s a events → Right p.counts s e
      sorted_right a events same h = (rw same at h).1

-- as many numbers are given as the tables count, and as much is cut off
given_held :
    (g : Game) (counters : List ℤ) (flags : List Bool) (fields : List ℕ) (given : List ℤ) (t : Tally) (eoi : Bool) →
    t.given ≤ length given / 2 → length (state_of g counters flags fields given t eoi).numbers ≡ t.given
unfolding state_of
given_held g counters flags fields given t eoi h = simp (length-take, pairs_length) (omega arith)

lost_held :
    (g : Game) (counters : List ℤ) (flags : List Bool) (fields : List ℕ) (given : List ℤ) (t : Tally) (eoi : Bool) →
    (state_of g counters flags fields given t eoi).lost ≡ t.lost
unfolding state_of
lost_held g counters flags fields given t eoi = refl

-- the steps of a turn so far: the tables, with the steps that are still allowed from position x, lead to what they led to at the start
pub record Inside
    (steps : List ℕ) (r : ℕ) (eoi : Bool) (t₀ : Tables) (given₀ marks₀ : List ℤ) (t : Tables) (given marks : List ℤ) (x : Position) (taken : ℕ)
    : Type 0 where
  pub whole : WholeIn (length given₀ / 2) t
  pub given_long : length given ≡ length given₀
  pub marks_long : length marks ≡ length marks₀
  pub leads :
      (g : Game) →
      run_of (most_ticks steps - taken) r steps x (state_in g t given eoi) (marks_of marks t.tally.marks)
      ≡ run_of (most_ticks steps) r steps (position_in t₀.flags t₀.fields r) (state_in g t₀ given₀ eoi) (marks_of marks₀ t₀.tally.marks)

module _
    {steps : List ℕ} {r : ℕ} {eoi : Bool} {t₀ : Tables} {given₀ marks₀ : List ℤ} {t : Tables} {given marks : List ℤ} {x : Position} {taken : ℕ}
    (i : Inside steps r eoi t₀ given₀ marks₀ t given marks x taken) (more : taken < most_ticks steps) where
  abbrev held : Game → State
  held g = state_in g t given eoi

  abbrev all : Game → Run
  all g = run_of (most_ticks steps) r steps (position_in t₀.flags t₀.fields r) (state_in g t₀ given₀ eoi) (marks_of marks₀ t₀.tally.marks)

  -- the next step halts
  pub halts :
      (how : Ending) (y : Position) → ((g : Game) → act_at steps x (held g) ≡ Halts how y) → (g : Game) →
      runs how y (held g) (marks_of marks t.tally.marks) ≡ all g
  halts how y act g = rw (run_halts (most_ticks steps - taken) r steps x (held g) _ (omega arith) how y (act g)) at (i.leads g)

  -- or it goes on
  module _ (q : ℕ) (e : Effect) (act : (g : Game) → act_at steps x (held g) ≡ Goes q e) where
    on :
        (g : Game) (m : Marks) →
        run_of (most_ticks steps - taken) r steps x (held g) m
        ≡ run_of (most_ticks steps - taken - 1) r steps (fresh q) (effect_on e (held g)) (marked_by r e m)
    on g m = run_goes (most_ticks steps - taken) r steps x (held g) m (omega arith) q e (act g)

    pub effect_room : (g : Game) → Roomy (length given₀ / 2) (all g).state → HasRoom (length given₀ / 2) t.tally e
    effect_room g h =
        let room = length given₀ / 2 in
        let behind = rw (← (i.leads g), on g _) at h in
        room_for room e (held g) t.tally (given_held g t.counters t.flags t.fields given t.tally eoi (rw i.given_long i.whole.given_fits))
        (lost_held g t.counters t.flags t.fields given t.tally eoi) (roomy_run room (most_ticks steps - taken - 1) r steps (fresh q) _ _ behind)

    pub goes_on_lem :
        (t' : Tables) (given' marks' : List ℤ) →
        ((g : Game) (eoi : Bool) → state_in g t' given' eoi ≡ effect_on e (state_in g t given eoi)) →
        marks_of marks' t'.tally.marks ≡ marked_by r e (marks_of marks t.tally.marks) → WholeIn (length given₀ / 2) t' →
        length given' ≡ length given₀ → length marks' ≡ length marks₀ →
        Inside steps r eoi t₀ given₀ marks₀ t' given' marks' (fresh q) (taken + 1)
    goes_on_lem t' given' marks' state marked whole given_long marks_long =
        let left : most_ticks steps - (taken + 1) ≡ most_ticks steps - taken - 1 = omega arith in
        record {
          whole = whole;
          given_long = given_long;
          marks_long = marks_long;
          leads = λ g. rw (left, state g eoi, marked, ← (on g (marks_of marks t.tally.marks))) (i.leads g);
        }
