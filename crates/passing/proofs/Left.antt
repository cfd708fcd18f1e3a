-- A routine that a turn leaves: the state that the tables hold behind the stores of its position and stage, and behind its end signal. Each
-- store changes one row, and there its routine alone.
use Prim.Native.Nat.{ℕ, ◌*◌, ◌<◌}
use mathlib.Core.Path.{◌≡◌, refl}
use mathlib.Core.Logic.{inl, inr}
use mathlib.Core.Bool.{Bool, true, false, ◌&&◌}
use mathlib.Core.List.{List}
use native.Mathlib.Omega.{arith}
use borrow.Author.Tests.{eq-eqb, ne_eqb}
use lib.Dec.{lit≤, eqb}
use lib.IntN.{ℤ}
use lib.ListN.{length, get_or, set}
use Rattle.std.specs.Prelude.{if◌then◌else◌}
use Rattle.layout.specs.Layout.{most_routines}
use Rattle.game.specs.declared.Game.{Game}
use Rattle.game.specs.Game.{blank, with_routine, routine_at}
use Rattle.round.specs.State.{with_game}
use Rattle.round.specs.declared.Position.{Position}
use Rattle.round.specs.declared.Ending.{Ending}
use Rattle.round.specs.declared.Ending.TheVariants.{Ended}
use Rattle.round.specs.Rounds.{stage_after, behind_turn, with_end}
use Rattle.tables.specs.declared.Tally.{Tally}
use Rattle.tables.specs.Tables.{present_row, ends_row, stops_row, suspends_row, resumes_row, suspended_row, begun_row, flag_count}
use Rattle.tables.specs.Tables.{stages_row, places_row, lefts_row, starting_row, field_count, row_at, last_row, put_in}
use Rattle.tables.specs.Tables.{state_of}
use Rattle.tables.proofs.Rows.{row_put, row_other, last_other, read_put, put_length}
use Rattle.numbers.proofs.Lists.{values_same}
use Rattle.passing.proofs.Held.{routines_in, changed, moving}

-- a routine is left by a turn that ends so, at a position
module _ (flags : List Bool) (fields : List ℕ) (r : ℕ) (how : Ending) (y : Position) where
  abbrev pub flags_left : List Bool
  flags_left = put_in begun_row r y.begun flags

  abbrev places_left : List ℕ
  places_left = put_in places_row r y.place fields

  abbrev lefts_left : List ℕ
  lefts_left = put_in lefts_row r y.left places_left

  abbrev pub fields_left : List ℕ
  fields_left = put_in stages_row r (stage_after how) lefts_left

  starting_left : last_row starting_row fields_left ≡ last_row starting_row fields
  starting_left =
      rw (
        last_other stages_row r (stage_after how) lefts_left starting_row (lit≤ tt),
        last_other lefts_row r y.left places_left starting_row (lit≤ tt),
        last_other places_row r y.place fields starting_row (lit≤ tt),
      )

  module _ (long : length flags ≡ flag_count) (wide : length fields ≡ field_count) (h : r < most_routines) where
    -- what row a of the fields holds for routine i
    field_left :
        (a i : ℕ) →
        get_or (row_at (most_routines * a) fields_left) i 0
        ≡ (if eqb i r && eqb (most_routines * a) stages_row then stage_after how
        else if eqb i r && eqb (most_routines * a) lefts_row then y.left
        else if eqb i r && eqb (most_routines * a) places_row then y.place
        else get_or (row_at (most_routines * a) fields) i 0)
    field_left a i =
        let places = put_length places_row r y.place fields in
        let lefts = put_length lefts_row r y.left places_left in
        rw (
          read_put 0 r (stage_after how) 0 lefts_left h (omega arith) a i,
          read_put 2 r y.left 0 places_left h (omega arith) a i,
          read_put 1 r y.place 0 fields h (omega arith) a i,
        )

    left_routines :
        routines_in flags_left fields_left
        ≡ set (routines_in flags fields) r (behind_turn (get_or (routines_in flags fields) r blank) how y)
    left_routines =
        let f = field_left in
        let o = read_put 5 r y.begun false flags h (omega arith) in
        changed _ _ (λ x. behind_turn x how y) r h
        (λ i d. rw (f 0 i, f 1 i, f 2 i, o 1 i, o 2 i, o 3 i, o 4 i, o 5 i, ne_eqb i r d))
        (rw (f 0 r, f 1 r, f 2 r, o 1 r, o 2 r, o 3 r, o 4 r, o 5 r, eq-eqb r r refl))

    pub left_held :
        (g : Game) (counters given : List ℤ) (t : Tally) (eoi : Bool) →
        state_of g counters flags_left fields_left given t eoi
        ≡ (let s = state_of g counters flags fields given t eoi in
        with_game s (with_routine s.game r (behind_turn (routine_at s.game r) how y)))
    unfolding state_of
    left_held g counters given t eoi =
        rw (
          left_routines,
          starting_left,
          last_other begun_row r y.begun flags present_row (lit≤ tt),
          row_other begun_row r y.begun flags ends_row (inl (lit≤ tt)),
        )

-- an end signal is of no routine
end_routines :
    (flags : List Bool) (fields : List ℕ) (r : ℕ) (v : Bool) → routines_in (put_in ends_row r v flags) fields ≡ routines_in flags fields
end_routines flags fields r v =
    let o = row_other ends_row r v flags in
    values_same most_routines _ _
    (λ i.
    rw (
      o stops_row (inr (lit≤ tt)),
      o suspends_row (inr (lit≤ tt)),
      o resumes_row (inr (lit≤ tt)),
      o suspended_row (inr (lit≤ tt)),
      o begun_row (inr (lit≤ tt)),
    ))

-- the end signal of a routine, and the move
pub ended_held :
    (g : Game) (counters : List ℤ) (flags : List Bool) (fields : List ℕ) (given : List ℤ) (t : Tally) (eoi : Bool) (r : ℕ) →
    state_of g counters (put_in ends_row r true flags) fields given (moving t t.given) eoi
    ≡ with_end Ended r (state_of g counters flags fields given t eoi)
unfolding state_of
ended_held g counters flags fields given t eoi r =
    rw (row_put, end_routines flags fields r true, last_other ends_row r true flags present_row (lit≤ tt))
