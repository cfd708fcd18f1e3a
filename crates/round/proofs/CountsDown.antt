-- A timed step over a round. With none left the routine's first turn goes past it, and if its thing is there at the round's end it is past
-- too. Otherwise the thing was missing at every try, since what is there stays; and a turn that begins at the step leaves the routine there
-- for its next turn, or at rest with one less left.
use Prim.Native.Nat.{ℕ, ◌+◌, ◌-◌, ◌<◌}
use mathlib.Core.Path.{◌≡◌, refl, sym, ap, ◌∙◌, subst}
use mathlib.Core.Bool.{true, false, not, or-true}
use mathlib.Core.List.{List}
use mathlib.Core.Logic.{◌⊎◌, inl, inr, ⊎_elim}
use native.Mathlib.Decide.{ℕ_discrete}
use native.Mathlib.Omega.{arith}
use Rattle.std.specs.Prelude.{Option, Some}
use Rattle.numbers.specs.Counting.{Among}
use Rattle.kinds.specs.declared.Kind.{Kind}
use Rattle.kinds.specs.declared.Counts.{Counts}
use Rattle.kinds.specs.Steps.{step_at, steps_in}
use Rattle.forms.specs.Timed.{Timed, rest_for, wait_for, join_for}
use Rattle.layout.specs.Layout.{routines_of, counts_of}
use Rattle.directory.specs.Directory.{routine_steps}
use Rattle.book.specs.Accepted.{Accepted}
use Rattle.game.specs.declared.Routine.{Routine}
use Rattle.game.specs.declared.Game.{Game}
use Rattle.game.specs.Game.{rested, routine_at}
use Rattle.fitting.specs.Fits.{Fits}
use Rattle.numbers.proofs.Tests.{clash, not_true_false, by_flag}
use Rattle.round.specs.declared.Ending.{Ending}
use Rattle.round.specs.declared.Position.{Position}
use Rattle.round.specs.declared.Effect.{Effect}
use Rattle.round.specs.declared.Act.{Act}
use Rattle.round.specs.declared.Act.TheVariants.{Goes, Halts}
use Rattle.round.specs.State.{State, Thing, signal, end, Event, is_there}
use Rattle.round.specs.Actions.{position_of, at_start}
use Rattle.round.specs.Ticks.{begun_at, count_at, tick_at, tick, fresh}
use Rattle.round.specs.Rounds.{Ticks, follow, ticks, most_ticks, stage_after, PlayedTurns, taken, is_done, listed_in, state_after}
use Rattle.round.specs.Rounds.{ticks_of, turn, trace_of}
use Rattle.round.specs.claims.Demand.{AsksFor}
use Rattle.round.specs.claims.Timed.{has_thing, is_pausing, TimedRound, CountsDown}
use Rattle.round.specs.claims.Sound.{Sound}
use Rattle.round.proofs.Acts.{Asks}
use Rattle.round.proofs.Timed.{timed_tick}
use Rattle.round.proofs.TurnLaws.{is_going}
use Rattle.round.proofs.Standings.{StillThere}
use Rattle.round.proofs.Coming.{turn_untouched}
use Rattle.round.proofs.AfterTurn.{turn_over, turn_taken, routine_after, position_after_lem, after_going}
use Rattle.round.proofs.Turned.{turn_turned}
use Rattle.round.proofs.Again.{first_tick}
use Rattle.round.proofs.FirstTurn.{Completes, stands_first, Due, due_standing, round_of_one}
use Rattle.round.proofs.FirstTurn.{due_first, due_last, events_then, thing_past}

-- a turn's first step halts it, or is completed
module _ (counts : Counts) (r : ℕ) (steps : List ℕ) (n : ℕ) (x : Position) (s : State) where
  abbrev all : Ticks
  all = ticks (n + 1) counts r steps x s

  abbrev behind : Act → Ticks
  behind act = follow r x.place act (tick counts r steps x s).events s (λ p u. ticks n counts r steps (fresh p) u)

  by_act : {act : Act} → (tick counts r steps x s).act ≡ act → all ≡ behind act
  by_act e = first_tick counts r steps n x s refl ∙ ap behind e

  first_halts :
      {how : Ending} {y : Position} → (tick counts r steps x s).act ≡ Halts how y → (all.ending ≡ how) × (all.position ≡ y)
  first_halts e = (ap (λ (t : Ticks). t.ending) (by_act e), ap (λ (t : Ticks). t.position) (by_act e))

  first_goes : {q : ℕ} {e : Effect} → (tick counts r steps x s).act ≡ Goes q e → Completes r x.place all.trace
  first_goes e = subst (λ (t : Ticks). Completes r x.place t.trace) (sym (by_act e)) (inl refl)

-- a timed step whose thing is there asks for it, with some left
asked :
    (x : Position) (s : State) {st : Option Kind} {n : ℕ} (timed : Timed st n) → 0 < count_at x n → has_thing s timed ≡ true →
    (t : Thing) × Asks x st t × (is_there s t ≡ true)
asked x s rest_for some h = clash h refl
asked x s (wait_for {e}) some h = (signal e, (AsksFor.wait_for, some), h)
asked x s (join_for {r}) some h = (end r, (AsksFor.join_for, some), h)

-- what is missing was missing before
was_missing :
    (s u : State) → StillThere s u → {st : Option Kind} {n : ℕ} (timed : Timed st n) → has_thing u timed ≡ false → has_thing s timed ≡ false
was_missing s u keeps rest_for m = refl
was_missing s u keeps (wait_for {e}) m = not_true_false _ (λ h. clash (keeps (signal e) h) m)
was_missing s u keeps (join_for {r}) m = not_true_false _ (λ h. clash (keeps (end r) h) m)

module _
    (book : List ℕ) (a : Accepted book) (g : Game) (f : Fits book g) (r : ℕ) (inside : Among r (listed_in g))
    (unsuspended : (routine_at (at_start g).game r).suspended ≡ false)
  where
    abbrev steps : List ℕ
    steps = routine_steps book r

    abbrev x : Position
    x = stands_first g r

    module _ {st : Option Kind} {n : ℕ} (timed : Timed st n) (here : step_at (counts_of book) steps x.place ≡ st) where
      abbrev k : ℕ
      k = count_at x n

      -- a turn that begins at the step
      module _ (s : State) (due : Due g r s) where
        act_here : (tick (counts_of book) r steps x s).act ≡ (tick_at r steps x s st).act
        unfolding tick
        act_here = ap (λ w. (tick_at r steps x s w).act) here

        from_here : ticks_of book r s ≡ ticks (most_ticks steps) (counts_of book) r steps x s
        from_here = ap (λ y. ticks (most_ticks steps) (counts_of book) r steps y s) due.1

        goes_here : (k ≡ 0) ⊎ (has_thing s timed ≡ true) → Completes r x.place (turn book r s).trace
        goes_here h =
            subst (λ (p : PlayedTurns). Completes r x.place p.trace) (sym (turn_taken book r s due.0 ∙ ap (taken r) from_here))
            (first_goes (counts_of book) r steps (steps_in steps) x s (act_here ∙ (timed_tick r steps x s timed).goes_on h))

        halts_here :
            {how : Ending} {y : Position} → (tick_at r steps x s st).act ≡ Halts how y →
            let v = routine_at (turn book r s).state.game r in
            (is_going (turn book r s).state r ≡ not (is_done (Some how))) × (v.stage ≡ stage_after how) × (position_of v ≡ y)
        halts_here act =
            let t = ticks_of book r s in
            let standing = (turn_untouched book r s).standings r in
            let (ending, position) = first_halts (counts_of book) r steps (steps_in steps) x s (act_here ∙ act) in
            let how = ap (λ (t : Ticks). t.ending) from_here ∙ ending in
            rw (turn_taken book r s due.0) (
              after_going r s t standing due.0 ∙ ap (λ h. not (is_done (Some h))) how,
              ap (λ (v : Routine). v.stage) (routine_after r s t standing due.0) ∙ ap stage_after how,
              position_after_lem r s t standing due.0 ∙ ap (λ (t : Ticks). t.position) from_here ∙ position,
            )

      -- the routine rests on the step, with one less left
      abbrev OneLess : State → Type 0
      OneLess s = let v = routine_at s.game r in (v.stage ≡ rested) × (position_of v ≡ begun_at x.place (k - 1))

      module _ (some : 0 < k) where
        stays_here : (s : State) → Due g r s → has_thing s timed ≡ false → let u = (turn book r s).state in Due g r u ⊎ OneLess u
        stays_here s due none =
            let tried = timed_tick r steps x s timed in
            by_flag (is_pausing s timed)
            (λ now.
            let (how, act, stage) = tried.pauses some none now in
            let (going, after, position) = halts_here s due act in
            inr (after ∙ stage, position))
            (λ unclosed.
            let (going, after, position) = halts_here s due (tried.stays some none unclosed) in
            inl (going, position))

        abbrev Claim : State → List Event → State → Type 0
        Claim s events u =
            has_thing u timed ≡ false → (has_thing s timed ≡ false) × (Due g r s ⊎ OneLess s → Due g r u ⊎ OneLess u)

        own : (s : State) → r < routines_of book → Sound book s → Claim s (turn book r s).trace (turn book r s).state
        own s below ok m =
            let none = was_missing s (turn book r s).state (turn_turned book a r s below ok).keeps timed m in (
              none,
              ⊎_elim (λ due. stays_here s due none)
                  (λ h.
                  let over = turn_over book r s (rw (h.0, or-true)) in
                  inr (subst (λ (p : PlayedTurns). OneLess p.state) (sym over) h)),
            )

        counted_down : has_thing (state_after book g) timed ≡ false → OneLess (state_after book g)
        counted_down none =
            let all =
            round_of_one book a g f r Claim
            (λ s u v b c first second m.
            let (between, two) = second m in
            let (start, one) = first between in
            (start, λ h. two (one h)))
            (λ s u events standing keeps m. (
              was_missing s u keeps timed m,
              ⊎_elim (λ due. inl (due_standing g r s u standing due)) (λ h. inr (standing.stage ∙ h.0, standing.position ∙ h.1)),
            ))
            own in
            ⊎_elim (λ due. absurd (due_last book a g f r inside unsuspended due)) (λ h. h)
            ((all none).1 (inl (due_first book a g f r inside unsuspended)))

      gone_past : (k ≡ 0) ⊎ (has_thing (state_after book g) timed ≡ true) → Completes r x.place (trace_of book g)
      gone_past h = elim (ℕ_discrete k 0) [
        | yes zero ↦ events_then book a g f r inside unsuspended _ (λ s due. goes_here s due (inl zero))
        | no some ↦
            elim h [
              | inl zero ↦ absurd (some zero)
              | inr found ↦
                  let (t, asks, there) = asked x (state_after book g) timed (omega arith) found in
                  thing_past book a g f r inside unsuspended t (subst (λ w. Asks x w t) (sym here) asks) there
            ]
      ]

      timed_round : TimedRound book g r x timed
      timed_round = record { goes_past = gone_past; counts_down = counted_down }

pub counts_down_lem : (book : List ℕ) → Accepted book → (g : Game) → Fits book g → CountsDown book g
counts_down_lem book a g f r inside unsuspended n timed = timed_round book a g f r inside unsuspended timed refl
