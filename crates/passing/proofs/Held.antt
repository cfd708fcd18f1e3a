-- The state that the tables hold behind the store that an effect makes: what the effect does to the state. The rows that a store does not
-- touch stay, and of the routines one changes, or none.
use Prim.Native.Nat.{ℕ, ◌+◌, ◌*◌, ◌/◌, ◌≤◌, ◌<◌}
use mathlib.Core.Path.{◌≡◌, refl, ◌∙◌}
use mathlib.Core.Logic.{◌≢◌, inl}
use mathlib.Core.Bool.{Bool, true, false}
use mathlib.Core.List.{List}
use native.Mathlib.Omega.{arith}
use native.Mathlib.Decide.{dec_lt}
use native.Mathlib.Numerals.{add-one}
use borrow.Author.Tests.{lt-ltb, le-ltb, eq-eqb, ne_eqb, ltb-true}
use Rattle.numbers.proofs.Tests.{by_test}
use lib.Dec.{lit≤, ltb, eqb}
use lib.IntN.{ℤ}
use lib.ListN.{length, get_or, set, length-set}
use lib.Seq.{take-suc-set}
use Rattle.std.specs.Prelude.{if◌then◌else◌}
use Rattle.numbers.specs.declared.Sum.{Sum}
use Rattle.layout.specs.Layout.{most_routines}
use Rattle.lines.specs.Lines.{most_entries, pushed}
use Rattle.game.specs.declared.Routine.{Routine}
use Rattle.game.specs.declared.Game.{Game}
use Rattle.game.specs.Game.{blank, with_start, with_starting, with_routine, routine_at}
use Rattle.round.specs.declared.Effect.TheVariants.{Mark, Put, Add, Give, GiveNumber, Start, Stop, Suspend, Resume}
use Rattle.round.specs.State.{with_game}
use Rattle.round.specs.Ticks.{effect_on}
use Rattle.tables.specs.declared.Tally.{Tally}
use Rattle.tables.specs.Tables.{present_row, ends_row, stops_row, suspends_row, resumes_row, suspended_row, begun_row, flag_count}
use Rattle.tables.specs.Tables.{stages_row, places_row, lefts_row, starting_row, put_in}
use Rattle.numbers.specs.Counting.{list_below}
use Rattle.tables.specs.Tables.{routine_in, start_line, pairs_of, pair_put, state_of, Whole}
use Rattle.tables.proofs.Rows.{row_other, row_last, last_put, last_other, put_length, read_put}
use Rattle.numbers.proofs.Lists.{below_read, values_same, below_set}
use Rattle.tables.proofs.Pairs.{pairs_length, pairs_set}
use Rattle.passing.specs.Effects.{adds, is_starting, started_in, start_count}

-- the routines as the tables have them
abbrev pub routines_in : List Bool → List ℕ → List Routine
routines_in flags fields = list_below most_routines (routine_in flags fields)

-- routine r changes, and no other
pub changed :
    (f g : ℕ → Routine) (change : Routine → Routine) (r : ℕ) →
    r < most_routines → ((i : ℕ) → i ≢ r → g i ≡ f i) → g r ≡ change (f r) →
    list_below most_routines g ≡ set (list_below most_routines f) r (change (get_or (list_below most_routines f) r blank))
changed f g change r h others here = rw (below_read most_routines f r blank h, ← here) (below_set most_routines f g r others)

-- a routine with this flag in a row
abbrev flagged : ℕ → Bool → Routine → Routine
flagged row v x =
    record {
      stage = x.stage;
      place = x.place;
      left = x.left;
      suspended = if eqb suspended_row row then v else x.suspended;
      begun = if eqb begun_row row then v else x.begun;
      stopping = if eqb stops_row row then v else x.stopping;
      suspending = if eqb suspends_row row then v else x.suspending;
      resuming = if eqb resumes_row row then v else x.resuming;
    }

-- a store of a flag changes its routine alone; the rows are counted from that of the end signals on
flag_routines :
    (flags : List Bool) (fields : List ℕ) (b r : ℕ) (v : Bool) → r < most_routines → most_routines * b + most_routines ≤ length flags →
    routines_in (put_in (most_routines * b) r v flags) fields
    ≡ set (routines_in flags fields) r (flagged (most_routines * b) v (get_or (routines_in flags fields) r blank))
flag_routines flags fields b r v h long =
    let o = read_put b r v false flags h long in
    changed _ _ (flagged (most_routines * b) v) r h (λ i d. rw (o 1 i, o 2 i, o 3 i, o 4 i, o 5 i, ne_eqb i r d))
    (rw (o 1 r, o 2 r, o 3 r, o 4 r, o 5 r, eq-eqb r r refl))

-- a signal that is present, or an entry of those to start, is of no routine
module _ (flags : List Bool) (fields : List ℕ) where
  present_routines : (e : ℕ) (v : Bool) → routines_in (set flags (present_row + e) v) fields ≡ routines_in flags fields
  present_routines e v =
      let o = row_last present_row flags e v in
      values_same most_routines _ _
      (λ i. rw (o stops_row (lit≤ tt), o suspends_row (lit≤ tt), o resumes_row (lit≤ tt), o suspended_row (lit≤ tt), o begun_row (lit≤ tt)))

  starting_routines : (i v : ℕ) → routines_in flags (set fields (starting_row + i) v) ≡ routines_in flags fields
  starting_routines i v =
      let o = row_last starting_row fields i v in
      values_same most_routines _ _ (λ r. rw (o stages_row (lit≤ tt), o places_row (lit≤ tt), o lefts_row (lit≤ tt)))

-- the tables stay as long as their types say, with what is counted in its room
pub still_whole :
    {room : ℕ} {flags flags' : List Bool} {fields fields' : List ℕ} {t t' : Tally} → Whole room flags fields t →
    length flags' ≡ length flags → length fields' ≡ length fields → t'.starting ≤ most_entries → t'.given ≤ room →
    Whole room flags' fields' t'
still_whole w a b starting given =
    record { flags_long = a ∙ w.flags_long; fields_long = b ∙ w.fields_long; starting_fits = starting; given_fits = given }

-- so they do behind a store of a flag
pub flag_whole :
    {room : ℕ} {flags : List Bool} {fields : List ℕ} {t : Tally} (k r : ℕ) (v : Bool) → Whole room flags fields t →
    Whole room (put_in k r v flags) fields t
flag_whole k r v w = still_whole w (put_length k r v _) refl w.starting_fits w.given_fits

-- what is counted, with other marks, with a move and so many numbers, with so many to start, with so much more cut off
abbrev pub marking : Tally → ℕ → Tally
marking t n = record { starting = t.starting; given = t.given; marks = n; lost = t.lost; moved = t.moved }

abbrev pub moving : Tally → ℕ → Tally
moving t given = record { starting = t.starting; given = given; marks = t.marks; lost = t.lost; moved = true }

abbrev pub adding : Tally → ℕ → Tally
adding t n = record { starting = n; given = t.given; marks = t.marks; lost = t.lost; moved = t.moved }

abbrev pub losing : Tally → ℕ → Tally
losing t k = record { starting = t.starting; given = t.given; marks = t.marks; lost = t.lost + k; moved = t.moved }

module _ (g : Game) (counters : List ℤ) (flags : List Bool) (fields : List ℕ) (given : List ℤ) (t : Tally) (eoi : Bool) where
  pub mark_held :
      (n : ℕ) (k : ℤ) →
      state_of g counters flags fields given (marking t n) eoi ≡ effect_on (Mark k) (state_of g counters flags fields given t eoi)
  unfolding state_of effect_on
  mark_held n k = refl

  pub put_held :
      (c : ℕ) (v : ℤ) →
      state_of g (set counters c v) flags fields given t eoi ≡ effect_on (Put c v) (state_of g counters flags fields given t eoi)
  unfolding state_of effect_on
  put_held c v = refl

  pub add_held :
      (c : ℕ) (v : Sum) →
      state_of g (set counters c v.sum) flags fields given (losing t v.lost) eoi
      ≡ effect_on (Add c v) (state_of g counters flags fields given t eoi)
  unfolding state_of effect_on
  add_held c v = refl

  pub give_held :
      (e : ℕ) →
      state_of g counters (set flags (present_row + e) true) fields given (moving t t.given) eoi
      ≡ effect_on (Give e) (state_of g counters flags fields given t eoi)
  unfolding state_of effect_on
  give_held e = rw (last_put present_row, present_routines flags fields e true, row_last present_row flags e true ends_row (lit≤ tt))

  pub give_number_held :
      (e : ℕ) (v : ℤ) → t.given < length given / 2 →
      state_of g counters (set flags (present_row + e) true) fields (pair_put t.given e v given) (moving t (t.given + 1)) eoi
      ≡ effect_on (GiveNumber e v) (state_of g counters flags fields given t eoi)
  unfolding state_of effect_on pair_put
  give_number_held e v h =
      let inside : t.given < length (pairs_of given) = rw pairs_length h in
      rw (
        last_put present_row,
        present_routines flags fields e true,
        row_last present_row flags e true ends_row (lit≤ tt),
        lt-ltb _ _ h,
        pairs_set given t.given e v h,
        add-one,
        take-suc-set (pairs_of given) t.given _ inside,
      )

  -- a flag for a routine, in a row behind that of the end signals
  flag_held :
      (b r : ℕ) (v : Bool) → 1 ≤ b → b < 6 → r < most_routines → length flags ≡ flag_count →
      state_of g counters (put_in (most_routines * b) r v flags) fields given t eoi
      ≡ (let s = state_of g counters flags fields given t eoi in
      with_game s (with_routine s.game r (flagged (most_routines * b) v (routine_at s.game r))))
  unfolding state_of
  flag_held b r v first last h long =
      rw (
        flag_routines flags fields b r v h (omega arith),
        last_other (most_routines * b) r v flags present_row (omega arith),
        row_other (most_routines * b) r v flags ends_row (inl (omega arith)),
      )

  pub stop_held :
      (r : ℕ) → r < most_routines → length flags ≡ flag_count →
      state_of g counters (put_in stops_row r true flags) fields given t eoi ≡ effect_on (Stop r) (state_of g counters flags fields given t eoi)
  unfolding effect_on
  stop_held r = flag_held 1 r true (lit≤ tt) (lit≤ tt)

  pub suspend_held :
      (r : ℕ) → r < most_routines → length flags ≡ flag_count →
      state_of g counters (put_in suspends_row r true flags) fields given t eoi
      ≡ effect_on (Suspend r) (state_of g counters flags fields given t eoi)
  unfolding effect_on
  suspend_held r = flag_held 2 r true (lit≤ tt) (lit≤ tt)

  pub resume_held :
      (r : ℕ) → r < most_routines → length flags ≡ flag_count →
      state_of g counters (put_in resumes_row r true flags) fields given t eoi
      ≡ effect_on (Resume r) (state_of g counters flags fields given t eoi)
  unfolding effect_on
  resume_held r = flag_held 3 r true (lit≤ tt) (lit≤ tt)

  -- a start that adds, or not
  start_case :
      (r : ℕ) (b : Bool) →
      let n = t.starting in
      let line = start_line fields n in
      state_of g counters flags (if b then (if ltb n most_entries then set fields (starting_row + n) r else fields) else fields) given
      (adding t (if b then (if ltb n most_entries then n + 1 else n) else n)) eoi
      ≡ (let s = state_of g counters flags fields given t eoi in with_game s (with_starting s.game (if b then pushed line r else line)))
  unfolding state_of
  start_case r false = refl
  start_case r true =
      elim (dec_lt t.starting most_entries) [
        | yes h ↦ rw (lt-ltb _ _ h, starting_routines flags fields t.starting r, last_put starting_row)
        | no h ↦ rw (le-ltb t.starting most_entries (omega arith))
      ]

  pub start_held :
      (r : ℕ) → r < most_routines →
      state_of g counters flags (started_in t.starting r fields) given (adding t (start_count t.starting r fields)) eoi
      ≡ effect_on (Start r) (state_of g counters flags fields given t eoi)
  unfolding effect_on started_in start_count with_start is_starting state_of
  start_held r h = rw (below_read most_routines (routine_in flags fields) r blank h) (start_case r (adds fields t.starting r))

-- a start keeps the fields as long as they are, and those to start in their room
pub started_length : (n r : ℕ) (fields : List ℕ) → length (started_in n r fields) ≡ length fields
unfolding started_in
started_length n r fields =
    by_test (λ (l : List ℕ). length l ≡ length fields) (adds fields n r)
    (λ a.
    by_test (λ (l : List ℕ). length l ≡ length fields) (ltb n most_entries) (λ b. length-set fields (starting_row + n) r) (λ b. refl))
    (λ a. refl)

pub start_fits_lem : (n r : ℕ) (fields : List ℕ) → n ≤ most_entries → start_count n r fields ≤ most_entries
unfolding start_count
start_fits_lem n r fields h =
    by_test (λ (k : ℕ). k ≤ most_entries) (adds fields n r)
    (λ a. by_test (λ (k : ℕ). k ≤ most_entries) (ltb n most_entries) (λ b. omega (arith, ltb-true n most_entries b)) (λ b. h))
    (λ a. h)

-- what each effect does
pub ruleset held = (
  put_held,
  give_held,
  give_number_held,
  start_held,
  stop_held,
  suspend_held,
  resume_held,
  still_whole,
  flag_whole,
  started_length,
  start_fits_lem,
  length-set,
  put_length,
)
