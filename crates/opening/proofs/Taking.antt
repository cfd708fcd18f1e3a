-- Routines taken apart, one by one: a take changes the rows of its own routine alone, so once the first n are taken the tables have each of
-- them without its orders, and the others blank.
use Prim.Native.Nat.{ℕ, zero, suc, ◌+◌, ◌≤◌, ◌<◌}
use mathlib.Core.Path.{◌≡◌, refl, ap, ◌∙◌}
use mathlib.Core.Logic.{◌≢◌, inl, inr}
use mathlib.Core.Bool.{Bool, false}
use mathlib.Core.List.{List}
use native.Mathlib.Omega.{arith}
use native.Mathlib.Decide.{ℕ_discrete}
use lib.Dec.{lit≤}
use lib.ListN.{length, get_or, set, replicate}
use lib.Seq.{get_or-set_same, get_or-set_other}
use Rattle.layout.specs.Layout.{most_routines}
use Rattle.lines.specs.Lines.{most_entries}
use Rattle.game.specs.declared.Routine.{Routine}
use Rattle.game.specs.Game.{blank}
use Rattle.round.specs.Actions.{without_orders}
use Rattle.tables.specs.Tables.{flag_count, field_count, ends_row, stops_row, suspends_row, resumes_row, suspended_row, begun_row}
use Rattle.tables.specs.Tables.{stages_row, places_row, lefts_row, starting_row, row_at, last_row, put_in, routine_in}
use Rattle.tables.proofs.Rows.{row_length, row_put, row_other, last_other, put_length}
use Rattle.opening.specs.Actions.{taken_flags, taken_fields}

-- three stores for a routine, in three rows that lie one behind another
module _ {A : Type 0} (a b c r : ℕ) (x y z : A) (l : List A) (before : a + most_routines ≤ b) (behind : b + most_routines ≤ c) where
  abbrev first : List A
  first = put_in a r x l

  abbrev second : List A
  second = put_in b r y first

  abbrev third : List A
  third = put_in c r z second

  third_length : length third ≡ length l
  third_length = put_length c r z second ∙ put_length b r y first ∙ put_length a r x l

  own_rows : (row_at a third ≡ set (row_at a l) r x) × (row_at b third ≡ set (row_at b l) r y) × (row_at c third ≡ set (row_at c l) r z)
  own_rows = (
    rw (row_other c r z second a (inl (omega arith)), row_other b r y first a (inl before), row_put),
    rw (row_other c r z second b (inl behind), row_put, row_other a r x l b (inr before)),
    rw (row_put, row_other b r y first c (inr behind), row_other a r x l c (inr (omega arith))),
  )

  -- a row between the first and the second
  row_between : (k : ℕ) → a + most_routines ≤ k → k + most_routines ≤ b → row_at k third ≡ row_at k l
  row_between k h m =
      rw (row_other c r z second k (inl (omega arith)), row_other b r y first k (inl m), row_other a r x l k (inr h))

  last_behind : (k : ℕ) → c + most_routines ≤ k → last_row k third ≡ last_row k l
  last_behind k h = rw (last_other c r z second k h, last_other b r y first k (omega arith), last_other a r x l k (omega arith))

module _ (x : Routine) (r : ℕ) (flags : List Bool) (fields : List ℕ) where
  abbrev suspended : Bool
  suspended = (without_orders x).suspended

  abbrev flags_then : List Bool
  flags_then = taken_flags x r flags

  abbrev fields_then : List ℕ
  fields_then = taken_fields x r fields

  flag_rows :
      (row_at ends_row flags_then ≡ set (row_at ends_row flags) r x.stopping)
      × (row_at suspended_row flags_then ≡ set (row_at suspended_row flags) r suspended)
      × (row_at begun_row flags_then ≡ set (row_at begun_row flags) r x.begun)
  flag_rows = own_rows ends_row suspended_row begun_row r x.stopping suspended x.begun flags (lit≤ tt) (lit≤ tt)

  field_rows :
      (row_at stages_row fields_then ≡ set (row_at stages_row fields) r x.stage)
      × (row_at places_row fields_then ≡ set (row_at places_row fields) r x.place)
      × (row_at lefts_row fields_then ≡ set (row_at lefts_row fields) r x.left)
  field_rows = own_rows stages_row places_row lefts_row r x.stage x.place x.left fields (lit≤ tt) (lit≤ tt)

  -- the sets to stop, suspend and resume, of which a take puts nothing
  set_row : (k : ℕ) → ends_row + most_routines ≤ k → k + most_routines ≤ suspended_row → row_at k flags_then ≡ row_at k flags
  set_row k h m = row_between ends_row suspended_row begun_row r x.stopping suspended x.begun flags (lit≤ tt) (lit≤ tt) k h m

  starting_row_lem : last_row starting_row fields_then ≡ last_row starting_row fields
  starting_row_lem = last_behind stages_row places_row lefts_row r x.stage x.place x.left fields (lit≤ tt) (lit≤ tt) starting_row (lit≤ tt)

  lengths : (length flags_then ≡ length flags) × (length fields_then ≡ length fields)
  lengths = (
    third_length ends_row suspended_row begun_row r x.stopping suspended x.begun flags (lit≤ tt) (lit≤ tt),
    third_length stages_row places_row lefts_row r x.stage x.place x.left fields (lit≤ tt) (lit≤ tt),
  )

  -- routine i once the stores are done
  abbrev stored : ℕ → Routine
  stored i =
      record {
        stage = get_or (set (row_at stages_row fields) r x.stage) i 0;
        place = get_or (set (row_at places_row fields) r x.place) i 0;
        left = get_or (set (row_at lefts_row fields) r x.left) i 0;
        suspended = get_or (set (row_at suspended_row flags) r suspended) i false;
        begun = get_or (set (row_at begun_row flags) r x.begun) i false;
        stopping = get_or (row_at stops_row flags) i false;
        suspending = get_or (row_at suspends_row flags) i false;
        resuming = get_or (row_at resumes_row flags) i false;
      }

  is_stored : (i : ℕ) → routine_in flags_then fields_then i ≡ stored i
  is_stored i =
      rw (
        field_rows.0,
        field_rows.1,
        field_rows.2,
        flag_rows.1,
        flag_rows.2,
        set_row stops_row (lit≤ tt) (lit≤ tt),
        set_row suspends_row (lit≤ tt) (lit≤ tt),
        set_row resumes_row (lit≤ tt) (lit≤ tt),
      )

  -- another routine is as it was
  module _ (i : ℕ) (other : i ≢ r) where
    other_routine : routine_in flags_then fields_then i ≡ routine_in flags fields i
    other_routine =
        is_stored i ∙
        (rw (
          get_or-set_other (row_at stages_row fields) r i x.stage 0 other,
          get_or-set_other (row_at places_row fields) r i x.place 0 other,
          get_or-set_other (row_at lefts_row fields) r i x.left 0 other,
          get_or-set_other (row_at suspended_row flags) r i suspended false other,
          get_or-set_other (row_at begun_row flags) r i x.begun false other,
        ))

    other_end : get_or (row_at ends_row flags_then) i false ≡ get_or (row_at ends_row flags) i false
    other_end = rw (flag_rows.0, get_or-set_other _ _ _ _ _ other)

  -- the routine itself, which was blank, is in no set
  module _ (long : length flags ≡ flag_count) (wide : length fields ≡ field_count) (near : r < most_routines) where
    inside : {A : Type 0} (k : ℕ) (l : List A) → k + most_routines ≤ length l → r < length (row_at k l)
    inside k l h = omega (arith, near, row_length k l h)

    this_end : get_or (row_at ends_row flags_then) r false ≡ x.stopping
    this_end = rw (flag_rows.0, get_or-set_same _ _ _ _ (inside ends_row flags (omega arith)))

    this_routine : routine_in flags fields r ≡ blank → routine_in flags_then fields_then r ≡ without_orders x
    this_routine was =
        let stops : get_or (row_at stops_row flags) r false ≡ false = ap (λ (y : Routine). y.stopping) was in
        let suspends : get_or (row_at suspends_row flags) r false ≡ false = ap (λ (y : Routine). y.suspending) was in
        let resumes : get_or (row_at resumes_row flags) r false ≡ false = ap (λ (y : Routine). y.resuming) was in
        is_stored r ∙
        (rw (
          stops,
          suspends,
          resumes,
          get_or-set_same (row_at stages_row fields) r x.stage 0 (inside stages_row fields (omega arith)),
          get_or-set_same (row_at places_row fields) r x.place 0 (inside places_row fields (omega arith)),
          get_or-set_same (row_at lefts_row fields) r x.left 0 (inside lefts_row fields (omega arith)),
          get_or-set_same (row_at suspended_row flags) r suspended false (inside suspended_row flags (omega arith)),
          get_or-set_same (row_at begun_row flags) r x.begun false (inside begun_row flags (omega arith)),
        ))

-- the first n of these routines are taken apart, and the tables are blank for the others; none is to start
pub record Taken (routines : List Routine) (n : ℕ) (flags : List Bool) (fields : List ℕ) : Type 0 where
  pub flags_long : length flags ≡ flag_count
  pub fields_long : length fields ≡ field_count
  pub routine : (i : ℕ) → i < n → routine_in flags fields i ≡ without_orders (get_or routines i blank)
  pub ends : (i : ℕ) → i < n → get_or (row_at ends_row flags) i false ≡ (get_or routines i blank).stopping
  pub later : (i : ℕ) → n ≤ i → routine_in flags fields i ≡ blank
  pub later_ends : (i : ℕ) → n ≤ i → get_or (row_at ends_row flags) i false ≡ false
  pub starting : last_row starting_row fields ≡ replicate most_entries 0

-- tables in which all is 0
zeros : {A : Type 0} (n i : ℕ) (a : A) → get_or (replicate n a) i a ≡ a
zeros zero i a = refl
zeros (suc n) zero a = refl
zeros (suc n) (suc i) a = zeros n i a

module _ (routines : List Routine) where
  pub taken_none : Taken routines 0 (replicate flag_count false) (replicate {A = ℕ} field_count 0)
  unfolding row_at last_row
  taken_none =
      record {
        flags_long = refl;
        fields_long = refl;
        routine = λ i h. absurd (omega arith);
        ends = λ i h. absurd (omega arith);
        later = λ i h. rw (zeros most_routines i false, zeros {A = ℕ} most_routines i 0);
        later_ends = λ i h. zeros most_routines i false;
        starting = refl;
      }

  -- one more routine is taken apart
  pub take_on :
      (n : ℕ) (flags : List Bool) (fields : List ℕ) → n < most_routines → Taken routines n flags fields →
      let x = get_or routines n blank in Taken routines (n + 1) (taken_flags x n flags) (taken_fields x n fields)
  take_on n flags fields near t =
      let x = get_or routines n blank in
      record {
        flags_long = (lengths x n flags fields).0 ∙ t.flags_long;
        fields_long = (lengths x n flags fields).1 ∙ t.fields_long;
        routine =
            λ i h.
            elim (ℕ_discrete i n) [
              | yes e ↦ rw e (this_routine x n flags fields t.flags_long t.fields_long near (t.later n (omega arith)))
              | no d ↦ other_routine x n flags fields i d ∙ t.routine i (omega (arith, d))
            ];
        ends =
            λ i h.
            elim (ℕ_discrete i n) [
              | yes e ↦ rw e (this_end x n flags fields t.flags_long t.fields_long near)
              | no d ↦ other_end x n flags fields i d ∙ t.ends i (omega (arith, d))
            ];
        later = λ i h. let d : i ≢ n = λ e. omega arith in other_routine x n flags fields i d ∙ t.later i (omega arith);
        later_ends = λ i h. let d : i ≢ n = λ e. omega arith in other_end x n flags fields i d ∙ t.later_ends i (omega arith);
        starting = starting_row_lem x n flags fields ∙ t.starting;
      }
