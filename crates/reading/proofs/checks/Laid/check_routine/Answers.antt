-- `reading::checks::Laid::check_routine` meets its contract. What reading the routine finds is its walk in the book, so that the verdict
-- computes by its cases; a place that a walk tells lies below the routine's count, so that the sum with its first step fits.
use Prim.Native.Nat.{ℕ, ◌+◌, ◌-◌, ◌*◌, ◌<◌, ◌≤◌}
use mathlib.Core.Path.{◌≡◌, refl, sym, ap, ◌∙◌}
use Rattle.std.specs.Prelude.{Err}
use mathlib.Core.List.{List}
use native.Mathlib.Omega.{arith}
use lib.ListN.{length, take, drop}
use lib.IntN.{ℤ}
use borrow.Author.Tests.{lt-ltb, le-ltb}
use Rattle.numbers.specs.Numbers.{half_limit}
use Rattle.kinds.specs.Steps.{step_bytes}
use Rattle.kinds.specs.Limits.{limits_of}
use Rattle.kinds.specs.declared.Counts.{Counts}
use Rattle.blocks.specs.declared.Fault.{Fault}
use Rattle.blocks.specs.declared.Fault.TheVariants.{Unreadable, Misnested}
use Rattle.verdicts.specs.Verdicts.{accepted}
use borrow.Author.Rules.{rules}
use Rattle.layout.specs.Layout.{most_routines, header_bytes, entry_bytes, routines_of, steps_from, layout_verdict, counts_of}
use Rattle.directory.specs.Directory.{routine_part, first_step, step_count, directory_verdict, routine_from}
use Rattle.blocks.specs.Blocks.{Walk, view_at, routine_of}
use Rattle.book.specs.Book.{routine_walk, nesting_of, pausing_of, nesting_at, pausing_at}
use Rattle.book.proofs.Decided.{directed}
use Rattle.directory.proofs.Directory.{routine_end}
use Rattle.reading.specs.Found.{view_by}
use Rattle.book.proofs.Parts.{routine_length}
use Rattle.reading.proofs.Places.{places_by}
use Rattle.blocks.proofs.Sound.{misnested, unreadable_at}
use Rattle.book.proofs.Laid.{laid_out}
use Rattle.numbers.proofs.Parts.{rest_from}
use Rattle.blocks.proofs.Views.{view_beyond, view_inside}
use Rattle.reading.proofs.checks.Laid.check_routine.Goals as goal

abbrev place_of : Fault → ℕ
place_of (Unreadable p) = p
place_of (Misnested p) = p

-- the place of a fault in a walk over n steps is below n
fault_below :
    (counts : Counts) (part : List ℕ) (n : ℕ) (f : Fault) → routine_of (view_at counts part n) n ≡ Err f → place_of f < n
fault_below counts part n (Unreadable p) e = (unreadable_at _ n (view_beyond counts part n) (view_inside counts part n) p e).1
fault_below counts part n (Misnested p) e = (misnested _ n (view_beyond counts part n) (view_inside counts part n) p e).1

-- the bytes from one on, as a slice that begins there has them
abbrev behind : List ℕ → ℕ → List ℕ
behind s from = take (length s - from) (drop from s)

-- a routine of a book of which the layout and the directory are right
module _ (s : List ℕ) (r : ℕ) (l : layout_verdict s ≡ accepted) (d : directory_verdict s ≡ accepted) (h : r < routines_of s) where
  -- its number is a small one
  few : r < most_routines
  few = let laid = laid_out s (ap (λ v. v.number) l) in omega (arith, laid.counts.few_routines, h)

  -- its entry lies in the book
  entry_there : header_bytes + 2 + entry_bytes * r + 1 < length s
  entry_there = let laid = laid_out s (ap (λ v. v.number) l) in omega (arith, laid.offsets.size, h)

  -- its last step ends in the book
  ends : steps_from s + step_bytes * (first_step s r + step_count s r) ≤ length s
  ends =
      let laid = laid_out s (ap (λ v. v.number) l) in
      let dir = directed s (ap (λ v. v.number) d) in
      routine_end s dir.entries dir.total laid.offsets.size r h

  -- from what the header and the directory say: where the steps begin, its first step and its count
  module _ {steps first count : ℕ} (o : steps ≡ steps_from s) (f : first ≡ first_step s r) (n : count ≡ step_count s r) where
    -- what the routine's first byte is in the book
    from_is : steps + step_bytes * first ≡ routine_from s r
    from_is = rw (o, f)

    from_there : steps + step_bytes * first ≤ length s
    from_there = omega (arith, from_is, ends)

    -- its steps lie in the part of the book that begins there
    steps_there :
        step_bytes * count ≤ length (behind s (steps + step_bytes * first))
    unfolding routine_part
    steps_there = rw (rest_from s from_is, n) (routine_length s r ends)

    -- what reading it finds is the routine's walk in the book
    module _
        {limits : List (List (List ℤ))} {w : Walk} (c : limits ≡ limits_of (counts_of s))
        (e : w ≡ routine_of (view_by limits (take (step_bytes * count) (behind s (steps + step_bytes * first)))) count)
      where
        in_book : w ≡ routine_walk s r
        unfolding routine_part routine_walk
        in_book =
            rw (c, rest_from s from_is, n) at e
            ∙ ap (λ at. routine_of at (step_count s r))
            (places_by (counts_of s) (routine_part s r) (step_count s r) (routine_length s r ends))

        -- so what is told of the routine is told of what is found
        nesting : nesting_of first w ≡ nesting_at s r
        nesting = rw (in_book, f)

        pausing : pausing_of first count w ≡ pausing_at s r
        pausing = rw (in_book, f, n)

        -- and a place that it tells, numbered from the book's first step, fits
        fault_fits : {g : Fault} → w ≡ Err g → first < half_limit → count < half_limit → first + place_of g < half_limit + half_limit
        unfolding routine_walk
        fault_fits {g} k a b =
            let below = fault_below _ _ _ g (sym in_book ∙ k) in
            omega (arith, below, n, a, b)

pub overflow_mul-routine : goal.overflow_mul-routine
overflow_mul-routine c = let small = few _ _ c.args.self.now.layout c.args.self.now.directory c.requires.routine_bound in search rules

pub overflow_add-routine : goal.overflow_add-routine
overflow_add-routine c = let small = few _ _ c.args.self.now.layout c.args.self.now.directory c.requires.routine_bound in search rules

pub overflow_mul-routine-2 : goal.overflow_mul-routine-2
overflow_mul-routine-2 c = let small = few _ _ c.args.self.now.layout c.args.self.now.directory c.requires.routine_bound in search rules

pub overflow_add-routine-2 : goal.overflow_add-routine-2
overflow_add-routine-2 c = let small = few _ _ c.args.self.now.layout c.args.self.now.directory c.requires.routine_bound in search rules

pub entry-first-requires : goal.entry-first-requires
entry-first-requires c =
    let there = entry_there _ _ c.args.self.now.layout c.args.self.now.directory c.requires.routine_bound in
    omega (arith, there)

pub entry-count-requires : goal.entry-count-requires
entry-count-requires c = entry_there _ _ c.args.self.now.layout c.args.self.now.directory c.requires.routine_bound

-- asked of the length behind the routine's first byte, and of that byte
pub slice_bounds-read_routine-count : goal.slice_bounds-read_routine-count
slice_bounds-read_routine-count c =
    from_there _ _ c.args.self.now.layout c.args.self.now.directory c.requires.routine_bound
    c.steps_from.ensures.0 c.entry-first.ensures.0 c.entry-count.ensures.0

pub slice_bounds-read_routine-start : goal.slice_bounds-read_routine-start
slice_bounds-read_routine-start c = slice_bounds-read_routine-count c

pub read_routine-requires : goal.read_routine-requires
read_routine-requires c =
    steps_there _ _ c.args.self.now.layout c.args.self.now.directory c.requires.routine_bound
    c.steps_from.ensures.0 c.entry-first.ensures.0 c.entry-count.ensures.0

pub numbered-requires : goal.numbered-requires
numbered-requires c =
    let laid = c.args.self.now in
    let first = c.entry-first.ensures in
    let count = c.entry-count.ensures in
    let found = rw c.in-Err-Unreadable.field-0-is at c.in-Err-Unreadable.ensures in
    fault_fits _ _ laid.layout laid.directory c.requires.routine_bound
    c.steps_from.ensures.0 first.0 count.0 c.requires.limits_value found refl first.1 count.1

pub returns-in-Err-Unreadable-clause-nesting : goal.returns-in-Err-Unreadable-clause-nesting
returns-in-Err-Unreadable-clause-nesting c =
    let laid = c.args.self.now in
    let found = rw c.in-Err-Unreadable.field-0-is at c.in-Err-Unreadable.ensures in
    rw c.numbered.ensures
    (nesting _ _ laid.layout laid.directory c.requires.routine_bound
    c.steps_from.ensures.0 c.entry-first.ensures.0 c.entry-count.ensures.0 c.requires.limits_value found)

pub numbered-requires-in-Err-Misnested : goal.numbered-requires-in-Err-Misnested
numbered-requires-in-Err-Misnested c =
    let laid = c.args.self.now in
    let first = c.entry-first.ensures in
    let count = c.entry-count.ensures in
    let found = rw c.in-Err-Misnested.field-0-is at c.in-Err-Misnested.ensures in
    fault_fits _ _ laid.layout laid.directory c.requires.routine_bound
    c.steps_from.ensures.0 first.0 count.0 c.requires.limits_value found refl first.1 count.1

pub returns-in-Err-Misnested-clause-nesting : goal.returns-in-Err-Misnested-clause-nesting
returns-in-Err-Misnested-clause-nesting c =
    let laid = c.args.self.now in
    let found = rw c.in-Err-Misnested.field-0-is at c.in-Err-Misnested.ensures in
    rw c.numbered-in-Err-Misnested.ensures
    (nesting _ _ laid.layout laid.directory c.requires.routine_bound
    c.steps_from.ensures.0 c.entry-first.ensures.0 c.entry-count.ensures.0 c.requires.limits_value found)

pub returns-in-Ok : goal.returns-in-Ok
returns-in-Ok c =
    let laid = c.args.self.now in
    let first = c.entry-first.ensures.0 in
    let count = c.entry-count.ensures.0 in
    let lowest =
    pausing _ _ laid.layout laid.directory c.requires.routine_bound
    c.steps_from.ensures.0 first count c.requires.limits_value c.in-Ok.ensures in
    record {
      nesting =
          nesting _ _ laid.layout laid.directory c.requires.routine_bound
          c.steps_from.ensures.0 first count c.requires.limits_value c.in-Ok.ensures;
      pausing = rw c.numbered-in-Ok.ensures (rw (lt-ltb _ _ c.if-walked-count.true) at lowest);
    }

pub returns-in-Ok-2 : goal.returns-in-Ok-2
returns-in-Ok-2 c =
    let laid = c.args.self.now in
    let first = c.entry-first.ensures.0 in
    let count = c.entry-count.ensures.0 in
    let lowest =
    pausing _ _ laid.layout laid.directory c.requires.routine_bound
    c.steps_from.ensures.0 first count c.requires.limits_value c.in-Ok.ensures in
    record {
      nesting =
          nesting _ _ laid.layout laid.directory c.requires.routine_bound
          c.steps_from.ensures.0 first count c.requires.limits_value c.in-Ok.ensures;
      pausing = (rw (le-ltb _ _ c.if-walked-count.false) at lowest);
    }
