-- `turns::turn` meets its contract: passed over, it leaves everything as it is; taken, its steps are those of the definition, for which
-- there is room, and the stores behind them leave the routine as rule 34 says.
use Prim.Native.Nat.{ℕ, ◌<◌}
use mathlib.Core.Path.{◌≡◌, sym, ap, ◌∙◌}
use mathlib.Core.Bool.{Bool, false, ◌||◌, not}
use mathlib.Core.List.{List}
use lib.Dec.{eqb}
use lib.IntN.{ℤ}
use lib.ListN.{get_or}
use Rattle.layout.specs.Layout.{most_routines}
use Rattle.game.specs.declared.Game.{Game}
use Rattle.game.specs.Game.{continuing}
use Rattle.tables.specs.declared.Tally.{Tally}
use Rattle.tables.specs.Tables.{stages_row, suspended_row, row_at, state_of}
use Rattle.tables.proofs.Rows.{put_length}
use Rattle.passing.specs.Turns.{is_passed_over, Run}
use Rattle.passing.proofs.Held.{still_whole}
use Rattle.passing.proofs.Left.{left_held}
use Rattle.passing.proofs.Turning.{over_held, run_held, room_held, left_by, turn_over, turn_taken}
use Rattle.passing.proofs.turns.turn.Goals as goal

-- whether the turn is taken
over_is :
    (g : Game) (counters : List ℤ) (flags : List Bool) (fields : List ℕ) (given : List ℤ) (t : Tally) (eoi : Bool) (r : ℕ) {a b : Bool} →
    r < most_routines →
    a ≡ (get_or (row_at suspended_row flags) r false || not (eqb (get_or (row_at stages_row fields) r 0) continuing)) → a ≡ b →
    is_passed_over (state_of g counters flags fields given t eoi) r ≡ b
over_is g counters flags fields given t eoi r h tested is = over_held g counters flags fields given t eoi r h ∙ sym tested ∙ is

pub returns-then-is_passed_over-clause-turn_after : goal.returns-then-is_passed_over-clause-turn_after
returns-then-is_passed_over-clause-turn_after c =
    λ g. turn_over _ _ _ _ (over_is g _ _ _ _ _ _ _ c.requires.ready.below c.is_passed_over.ensures c.if-is_passed_over.true)

pub run-ending-requires-clause-roomy : goal.run-ending-requires-clause-roomy
run-ending-requires-clause-roomy c =
    let p = c.requires in
    let g = p.turn_asks.0 in
    let fits = p.turn_asks.1 (over_is g _ _ _ _ _ _ _ p.ready.below c.is_passed_over.ensures c.if-is_passed_over.false) in
    (g, room_held g _ _ _ _ _ _ _ _ _ _ c.steps_of-steps.ensures p.ready _ fits.roomy)

-- its steps leave the routine where those of the definition do
pub put_field-requires : goal.put_field-requires
put_field-requires c =
    let p = c.requires in
    let g = p.turn_asks.0 in
    let fits = p.turn_asks.1 (over_is g _ _ _ _ _ _ _ p.ready.below c.is_passed_over.ensures c.if-is_passed_over.false) in
    let taking = c.run-ending.ensures.marks_after g ∙ run_held g _ _ _ _ _ _ _ _ _ _ c.steps_of-steps.ensures p.ready in
    rw (ap (λ (t : Run). t.position) taking) fits.position.place_fits

pub put_field-requires-2 : goal.put_field-requires-2
put_field-requires-2 c =
    let p = c.requires in
    let g = p.turn_asks.0 in
    let fits = p.turn_asks.1 (over_is g _ _ _ _ _ _ _ p.ready.below c.is_passed_over.ensures c.if-is_passed_over.false) in
    let taking = c.run-ending.ensures.marks_after g ∙ run_held g _ _ _ _ _ _ _ _ _ _ c.steps_of-steps.ensures p.ready in
    rw (ap (λ (t : Run). t.position) taking) fits.position.left_fits

-- the stores behind its steps
pub returns-clause-turn_after : goal.returns-clause-turn_after
returns-clause-turn_after c =
    let ready = c.requires.ready in
    let ran = c.run-ending.ensures in
    let end = c.end_with.ensures in
    let left = rw (c.put_field-3.ensures, c.put_field-2.ensures, c.put_field.ensures, c.stage_after.ensures.0) at c.put_flag.ensures in
    λ g.
    let taking = ran.marks_after g ∙ run_held g _ _ _ _ _ _ _ _ _ _ c.steps_of-steps.ensures ready in
    let taken = over_is g _ _ _ _ _ _ _ ready.below c.is_passed_over.ensures c.if-is_passed_over.false in
    rw (
      end.eoi_after g _ _,
      end.marks_unchanged,
      left,
      left_held _ _ _ _ _ ran.whole_2.flags_long ran.whole_2.fields_long ready.below g _ _ _ _,
    )
    (ap (left_by c.args.routine) taking ∙ turn_taken _ _ _ _ taken)

pub returns-clause-whole_2 : goal.returns-clause-whole_2
returns-clause-whole_2 c =
    let whole = c.run-ending.ensures.whole_2 in
    let left = rw (c.put_field-3.ensures, c.put_field-2.ensures, c.put_field.ensures) at c.put_flag.ensures in
    c.end_with.ensures.whole _
    (rw left
    (still_whole whole (put_length _ _ _ _) (put_length _ _ _ _ ∙ put_length _ _ _ _ ∙ put_length _ _ _ _) whole.starting_fits
    whole.given_fits))
