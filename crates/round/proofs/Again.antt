-- A turn at a step that asks for a thing: its first step settles it. With the thing missing the turn leaves everything as it was, so a try
-- again with nothing come since does what the try before did; with the thing there the routine goes past.
use Prim.Native.Nat.{ℕ, ◌+◌, ◌<◌}
use mathlib.Core.Path.{◌≡◌, refl, sym, ap, ◌∙◌, subst}
use mathlib.Core.Bool.{Bool, true, false, not}
use mathlib.Core.List.{List, [], ◌∷◌}
use native.Mathlib.Numerals.{add-one}
use native.Mathlib.Omega.{arith}
use lib.Seq.{set-get_or}
use Rattle.std.specs.Prelude.{if◌then◌else◌, Some}
use Rattle.numbers.proofs.Tests.{by_test, by_flag}
use Rattle.kinds.specs.declared.Counts.{Counts}
use Rattle.kinds.specs.Steps.{steps_in}
use Rattle.layout.specs.Layout.{routines_of, counts_of}
use Rattle.directory.specs.Directory.{routine_steps}
use Rattle.book.specs.Accepted.{Accepted}
use Rattle.game.specs.declared.Routine.{Routine}
use Rattle.game.specs.Game.{blank, routine_at, with_routines, with_routine}
use Rattle.round.specs.declared.Ending.{Ending}
use Rattle.round.specs.declared.Ending.TheVariants.{Missed, Continued}
use Rattle.round.specs.declared.Position.{Position}
use Rattle.round.specs.declared.Act.TheVariants.{Halts}
use Rattle.round.specs.State.{State, with_game, Thing, Event, missing, past, completed, is_there}
use Rattle.round.specs.Actions.{position_of}
use Rattle.round.specs.Ticks.{Tick, tick, fresh}
use Rattle.round.specs.Rounds.{Ticks, follow, ticks, after_turn, PlayedTurns, taken, is_done, ticks_of, turn}
use Rattle.round.specs.claims.Demand.{IsPast}
use Rattle.round.specs.claims.Again.{TriesAgain}
use Rattle.round.proofs.TurnLaws.{is_going, Waits, waits_too}
use Rattle.round.proofs.Asking.{asked_there, asked_missing}
use Rattle.round.proofs.AfterTurn.{going_parts, turn_over, turn_taken, behind_same}
use Rattle.round.proofs.Outcomes.{turn_out, turn_continues}

-- the first step of a turn settles it, or the others follow
pub first_tick :
    (counts : Counts) (r : ℕ) (steps : List ℕ) (n : ℕ) (x : Position) (s : State) {t : Tick} → tick counts r steps x s ≡ t →
    ticks (n + 1) counts r steps x s ≡ follow r x.place t.act t.events s (λ p u. ticks n counts r steps (fresh p) u)
unfolding ticks
first_tick counts r steps n x s e = rw (add-one, e)

-- a step that is completed as its thing is found
past_at : {r p q : ℕ} {t : Thing} (rest : List Event) → q ≡ p → IsPast r p t (completed r q ∷ past r q t ∷ rest)
past_at {r} {q = q} {t = t} rest e = subst (λ p. IsPast r p t (completed r q ∷ past r q t ∷ rest)) e IsPast.here

module _ (book : List ℕ) where
  -- routine r takes a turn, and stands at place p at a step that asks for t
  module _ (r p : ℕ) (t : Thing) (s : State) (going : is_going s r ≡ true) (waits : Waits book s r p t) where
    abbrev steps : List ℕ
    steps = routine_steps book r

    abbrev here : Position
    here = position_of (routine_at s.game r)

    -- the steps of a turn that ends at once, since t is missing
    abbrev halted : Ending → Position → Ticks
    halted how y = record { ending = how; position = y; state = s; trace = missing r here.place t ∷ [] }

    halts :
        (closing : Bool) (y : Position) (rest : ℕ → State → Ticks) →
        follow r here.place (if closing then Halts Missed y else Halts Continued here) (missing r here.place t ∷ []) s rest ≡
        (if closing then halted Missed y else halted Continued here)
    halts true y rest = refl
    halts false y rest = refl

    missed_ticks :
        is_there s t ≡ false → (y : Position) × (ticks_of book r s ≡ (if s.eoi then halted Missed y else halted Continued here))
    unfolding tick
    missed_ticks m =
        let (y, asked) = asked_missing r steps here s waits.asks m in
        (y, first_tick (counts_of book) r steps (steps_in steps) here s asked ∙ halts s.eoi y _)

    pub misses_again_lem : is_there s t ≡ false → (turn book r s).trace ≡ missing r p t ∷ []
    misses_again_lem m =
        let (y, all) = missed_ticks m in
        let events = ap (λ q. missing r q t ∷ []) waits.place in
        ap (λ (k : PlayedTurns). k.trace) (turn_taken book r s going ∙ ap (taken r) all)
        ∙ by_test (λ (k : Ticks). k.trace ≡ missing r p t ∷ []) s.eoi (λ h. events) (λ h. events)

    -- to be continued where it stands, the routine is as it was, and so is all else
    same_state : after_turn r (halted Continued here) ≡ s
    same_state =
        let x = routine_at s.game r in
        ap (λ (y : Routine). with_game s (with_routine s.game r y)) (behind_same x (going_parts x.suspended x.stage going).1)
        ∙ ap (λ (l : List Routine). with_game s (with_routines s.game l)) (set-get_or s.game.routines r blank)

    pub turn_unchanged :
        is_there s t ≡ false → s.eoi ≡ false →
        turn book r s ≡ record { state = s; trace = missing r p t ∷ []; turns = Some Continued ∷ [] }
    turn_unchanged m unclosed =
        let (y, all) = missed_ticks m in
        let whole = subst (λ c. ticks_of book r s ≡ (if c then halted Missed y else halted Continued here)) unclosed all in
        turn_taken book r s going ∙ ap (taken r) whole ∙ rw (same_state, waits.place)

    pub goes_past_lem : is_there s t ≡ true → IsPast r p t (turn book r s).trace
    unfolding tick
    goes_past_lem m =
        let (e, asked) = asked_there r steps here s waits.asks m in
        let all = first_tick (counts_of book) r steps (steps_in steps) here s asked in
        subst (λ (k : PlayedTurns). IsPast r p t k.trace) (sym (turn_taken book r s going ∙ ap (taken r) all)) (past_at _ waits.place)

  module _ (a : Accepted book) where
    -- a try again with nothing come since leaves everything as it was and continues
    pub tries_again : (r : ℕ) (s : State) → r < routines_of book → (turn book r s).turns ≡ Some Continued ∷ [] → TriesAgain book r s
    tries_again r s l turns =
        let (how, out, after) = turn_out book a r s l going in
        let e : how ≡ Continued = cc in
        let on : is_going (turn book r s).state r ≡ true = after ∙ ap (λ h. not (is_done (Some h))) e in
        let c = (turn_continues book a r s l going on).1 in
        let w = c.halt in
        record {
          place = w.place;
          thing = w.thing;
          stands = w.waits.place;
          before = c.before;
          missed = c.trace;
          try_again =
              λ u stage suspended position missed unclosed.
              let waits = waits_too book r w.place w.thing (turn book r s).state u position w.waits in
              turn_unchanged r w.place w.thing u (rw (stage, suspended) on) waits missed unclosed;
        }
      where
        -- it was not passed over
        going : is_going s r ≡ true
        going =
            by_flag (is_going s r) (λ h. h) (λ h.
            let over = turn_over book r s h in
            let z : ◌≡◌ {A = ℕ} 0 1 = cc in
            absurd (omega arith))
