-- What each check of a book decides, and what it tells where it refuses: the layout, the directory, the steps, nesting and pauses.
-- A check of a row of places goes by the test at each; those on blocks go by the walk over the routine.
use Prim.Native.Nat.{ℕ, ◌+◌, ◌<◌, ◌≤◌}
use mathlib.Core.Path.{◌≡◌, refl, ◌∙◌, ap}
use mathlib.Core.List.{List}
use native.Mathlib.Decide.{dec_lt}
use native.Mathlib.Omega.{arith}
use lib.ListN.{length}
use borrow.Author.Tests.{le-leb, lt-leb, lt-ltb, le-ltb}
use Rattle.std.specs.Prelude.{Option, Some, None, Ok, Err}
use Rattle.numbers.proofs.Tests.{not_true_false}
use Rattle.verdicts.specs.declared.Verdict.{Verdict}
use Rattle.kinds.specs.declared.Kind.{Kind}
use Rattle.blocks.specs.declared.Fault.TheVariants.{Unreadable, Misnested}
use Rattle.verdicts.specs.Verdicts.{accepted, refused}
use Rattle.layout.specs.Layout.{header_bytes, counts_fit, layout_fits, layout_verdict, counts_of}
use Rattle.layout.specs.Layout.{routines_of, steps_of}
use Rattle.directory.specs.Directory.{first_step, step_count, directory_verdict, routine_part}
use Rattle.kinds.specs.Steps.{step_at}
use Rattle.blocks.specs.Blocks.{Walk, past, beyond, unreadable, seen}
use Rattle.book.specs.Book.{steps_part, view_of, routine_walk, step_verdict, nesting_of, nesting_at, pausing_at}
use Rattle.blocks.specs.Parse.{WhilesPause, block_pauses, Misplaced}
use Rattle.book.specs.Accepted.{CountsInRange, OffsetsRight, LaidOut, DirectoryRight, ReadableStep, AllReadable, Nests, AllNest}
use Rattle.verdicts.proofs.First.{Decides}
use Rattle.book.proofs.Laid.{counts_in_range, counts_fit_lem, offsets_in_place}
use Rattle.directory.proofs.Directory.{routine_within}
use Rattle.directory.proofs.Directory as directory
use Rattle.kinds.proofs.Readable.{readable_step, step_readable}
use Rattle.book.proofs.Parts.{step_of_book, step_routine}
use Rattle.blocks.proofs.Views.{view_beyond, view_seen, view_inside}
use Rattle.blocks.proofs.Parses.{routine_complete, lowest}
use Rattle.blocks.proofs.Sound.{routine_sound, misnested, unreadable_at}
use Rattle.blocks.proofs.Misplaced.{misplaced_fault}
use Rattle.blocks.proofs.Whiles.{LowestAt, lowest_none, pausing_lowest, lowest_at, lowest_within, lowest_is}

module _ (s : List ℕ) where
  -- checks 1 to 3
  pub short_told : length s < header_bytes → layout_verdict s ≡ refused 1 0
  unfolding layout_verdict
  short_told h = rw (lt-leb _ _ h)

  pub counts_told : header_bytes ≤ length s → (CountsInRange s → ⊥) → layout_verdict s ≡ refused 2 0
  unfolding layout_verdict
  counts_told h n = rw (le-leb _ _ h, not_true_false (counts_fit s) (λ e. n (counts_in_range s e)))

  pub offsets_told : header_bytes ≤ length s → CountsInRange s → (OffsetsRight s → ⊥) → layout_verdict s ≡ refused 3 0
  unfolding layout_verdict
  offsets_told h c n = rw (le-leb _ _ h, counts_fit_lem s c, not_true_false (layout_fits s) (λ e. n (offsets_in_place s e)))

  -- check 4
  pub directed : (directory_verdict s).number ≡ 0 → DirectoryRight s
  directed e = let right = directory.directed s e in record { entries = right.0; total = right.1 }

  pub directory_clear : DirectoryRight s → directory_verdict s ≡ accepted
  directory_clear d = directory.directory_clear s d.entries d.total

-- a step's answer, by its kind
kind_of_lem : (x : Option Kind) (i : ℕ) → (step_verdict x i).number ≡ 0 → (k : Kind) × (x ≡ Some k)
kind_of_lem (Some k) i e = (k, refl)
kind_of_lem None i e = absurd (omega (arith, e))

no_kind : (x : Option Kind) (i : ℕ) → ((k : Kind) → x ≡ Some k → ⊥) → step_verdict x i ≡ refused 5 i
no_kind (Some k) i h = absurd (h k refl)
no_kind None i h = refl

pub kind_seen : {x : Option Kind} {k : Kind} → x ≡ Some k → seen x ≡ unreadable → ⊥
kind_seen e u = let z : ◌≡◌ {A = ℕ} 0 1 = cc in omega arith

-- check 5
module _ (s : List ℕ) where
  abbrev pub step_verdict_of : ℕ → Verdict
  step_verdict_of i = step_verdict (step_at (counts_of s) (steps_part s) i) i

  pub steps_decided : LaidOut s → Decides step_verdict_of (steps_of s) (ReadableStep s)
  steps_decided laid =
      record {
        clear = λ i l r. rw (readable_step (counts_of s) (steps_part s) i (step_of_book s laid.offsets.size i l) r);
        good = λ i l e. step_readable (counts_of s) (steps_part s) i (kind_of_lem _ i e).1;
      }

  pub step_wrong : (i : ℕ) → (ReadableStep s i → ⊥) → step_verdict_of i ≡ refused 5 i
  step_wrong i n = no_kind _ i (λ k e. n (step_readable (counts_of s) (steps_part s) i e))

-- checks 6 and 7, a routine at a time: its walk is settled by a parse, by a misplaced step or by a place that is unreadable
module _ (s : List ℕ) (r : ℕ) where
  out : (p : ℕ) → step_count s r ≤ p → view_of s r p ≡ beyond
  out = view_beyond (counts_of s) (routine_part s r) (step_count s r)

  inside : (p : ℕ) → p < step_count s r → view_of s r p ≡ beyond → ⊥
  inside = view_inside (counts_of s) (routine_part s r) (step_count s r)

  abbrev lowest_while : Nests s r → ℕ
  lowest_while b = lowest (view_of s r) (step_count s r) b

  walk_past : (b : Nests s r) → routine_walk s r ≡ past (step_count s r) (block_pauses (view_of s r) b) (lowest_while b)
  unfolding routine_walk
  walk_past b = routine_complete (view_of s r) (step_count s r) out b

  pub misplaced_told : {p : ℕ} → Misplaced (view_of s r) p → nesting_at s r ≡ refused 6 (first_step s r + p)
  unfolding routine_walk
  misplaced_told v = rw (misplaced_fault (view_of s r) (step_count s r) out inside v)

  pub nests_clear : Nests s r → (nesting_at s r).number ≡ 0
  nests_clear b = rw (walk_past b)

  nests_by : (w : Walk) → routine_walk s r ≡ w → (nesting_of (first_step s r) w).number ≡ 0 → Nests s r
  unfolding routine_walk
  nests_by (Ok w) h e = (routine_sound (view_of s r) (step_count s r) out w.behind w.pauses w.lowest h).1.0
  nests_by (Err (Unreadable p)) h e = absurd (omega (arith, e))
  nests_by (Err (Misnested p)) h e = absurd (omega (arith, e))

  pub clear_nests : (nesting_at s r).number ≡ 0 → Nests s r
  clear_nests e = nests_by (routine_walk s r) refl e

  -- no place of the routine is unreadable: so a fault is a misplaced step
  module _ (read : (p : ℕ) → p < step_count s r → view_of s r p ≡ unreadable → ⊥) where
    misplaced_by :
        (w : Walk) → routine_walk s r ≡ w → ((nesting_of (first_step s r) w).number ≡ 0 → ⊥) → (p : ℕ) × Misplaced (view_of s r) p
    unfolding routine_walk
    misplaced_by (Ok w) h n = absurd (n refl)
    misplaced_by (Err (Unreadable p)) h n =
        let wrong = unreadable_at (view_of s r) (step_count s r) out inside p h in absurd (read p wrong.1 wrong.0)
    misplaced_by (Err (Misnested p)) h n = (p, (misnested (view_of s r) (step_count s r) out inside p h).0)

    pub some_misplaced : ((nesting_at s r).number ≡ 0 → ⊥) → (p : ℕ) × Misplaced (view_of s r) p
    some_misplaced n = misplaced_by (routine_walk s r) refl n

  module _ (b : Nests s r) where
    lowest_told : lowest_while b < step_count s r → pausing_at s r ≡ refused 7 (first_step s r + lowest_while b)
    lowest_told l = rw (walk_past b, lt-ltb _ _ l)

    none_told : step_count s r ≤ lowest_while b → (pausing_at s r).number ≡ 0
    none_told l = rw (walk_past b, le-ltb _ _ l)

    pub endless_told : (p : ℕ) → LowestAt (view_of s r) b p → pausing_at s r ≡ refused 7 (first_step s r + p)
    endless_told p v =
        let here = lowest_is (view_of s r) (step_count s r) b p v in
        rw here at (lowest_told (omega (arith, lowest_within (view_of s r) (step_count s r) b p v)))

    pub some_endless : ((pausing_at s r).number ≡ 0 → ⊥) → (p : ℕ) × LowestAt (view_of s r) b p
    some_endless n = elim (dec_lt (lowest_while b) (step_count s r)) [
      | yes l ↦ (lowest_while b, lowest_at (view_of s r) (step_count s r) b l)
      | no l ↦ absurd (n (none_told (omega arith)))
    ]

    pub pauses_clear : WhilesPause (view_of s r) b → (pausing_at s r).number ≡ 0
    pauses_clear w = none_told (pausing_lowest (view_of s r) (step_count s r) b w)

    pub clear_pauses : (pausing_at s r).number ≡ 0 → WhilesPause (view_of s r) b
    clear_pauses e = elim (dec_lt (lowest_while b) (step_count s r)) [
      | yes l ↦ absurd (omega (arith, ap (λ v. v.number) (lowest_told l), e))
      | no l ↦ lowest_none (view_of s r) (step_count s r) b (omega arith)
    ]

-- checks 6 and 7, over all routines
module _ (s : List ℕ) where
  pub nesting_decided : Decides (nesting_at s) (routines_of s) (Nests s)
  nesting_decided = record { clear = λ r l. nests_clear s r; good = λ r l. clear_nests s r }

  pub pausing_decided :
      (nests : AllNest s (routines_of s)) →
      Decides (pausing_at s) (routines_of s) (λ r. (h : r < routines_of s) → WhilesPause (view_of s r) (nests r h))
  pausing_decided nests =
      record { clear = λ r l w. pauses_clear s r (nests r l) (w l); good = λ r l e h. clear_pauses s r (nests r h) e }

  -- where each step of the book is readable, so is each place of a routine
  pub readable_places :
      LaidOut s → DirectoryRight s → AllReadable s (steps_of s) → (r : ℕ) → r < routines_of s →
      (p : ℕ) → p < step_count s r → view_of s r p ≡ unreadable → ⊥
  readable_places laid directed all r h p l e =
      let i = first_step s r + p in
      let in_book : i < steps_of s = omega (arith, routine_within s directed.entries directed.total r h) in
      let there = step_of_book s laid.offsets.size i in_book in
      let kind = step_routine s r (counts_of s) p ∙ readable_step (counts_of s) (steps_part s) i there (all i in_book) in
      kind_seen kind (rw view_seen at e)
