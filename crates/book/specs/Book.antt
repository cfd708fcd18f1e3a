-- Reading a book and showing a routine: document 01, "Turned down because of the input".
use Rattle.std.specs.Prelude.{ℕ, ◌+◌, Bool, ◌&&◌, List, [], eqb, ltb, drop, if◌then◌else◌, Option, Some, None, Ok, Err}
use Rattle.verdicts.specs.declared.Verdict.{Verdict}
use Rattle.blocks.specs.declared.Fault.TheVariants.{Unreadable, Misnested}
use Rattle.verdicts.specs.Verdicts.{accepted, refused, ◌or_else◌, first_refusal}
use Rattle.layout.specs.Layout.{routines_of, steps_of, steps_from, layout_verdict, counts_of}
use Rattle.directory.specs.Directory.{first_step, step_count, directory_verdict, routine_from, routine_part, routine_steps}
use Rattle.kinds.specs.declared.Kind.{Kind}
use Rattle.kinds.specs.Steps.{step_at}
use Rattle.blocks.specs.Blocks.{Walk, View, view_at, routine_of}

-- 5. "A step has an unknown op, a field out of range or a stray field: place is the first such step of the book."
abbrev pub step_verdict : Option Kind → ℕ → Verdict
step_verdict (Some k) i = accepted
step_verdict None i = refused 5 i

abbrev pub steps_part : List ℕ → List ℕ
steps_part s = drop (steps_from s) s

unfoldable pub steps_verdict : List ℕ → Verdict
steps_verdict s = first_refusal (λ i. step_verdict (step_at (counts_of s) (steps_part s) i) i) (steps_of s) 0

-- what stands at a place of routine r
abbrev pub view_of : List ℕ → ℕ → ℕ → View
view_of s r = view_at (counts_of s) (routine_part s r) (step_count s r)

unfoldable pub routine_walk : List ℕ → ℕ → Walk
routine_walk s r = routine_of (view_of s r) (step_count s r)

-- 6. "Wrong nesting .. Place is the step reached in reading order, routine by routine, numbered from the book's first step as in 5 and 7"
-- (The 5 stands for a reader's own refusal of a step; once check 5 has passed it is never told here.)
abbrev pub nesting_of : ℕ → Walk → Verdict
nesting_of first (Ok w) = accepted
nesting_of first (Err (Unreadable p)) = refused 5 (first + p)
nesting_of first (Err (Misnested p)) = refused 6 (first + p)

-- 7. "A while's body doesn't pause: the lowest such while."
abbrev pub pausing_of : ℕ → ℕ → Walk → Verdict
pausing_of first n (Ok w) = if ltb w.lowest n then refused 7 (first + w.lowest) else accepted
pausing_of first n (Err f) = accepted

abbrev pub nesting_at : List ℕ → ℕ → Verdict
nesting_at s r = nesting_of (first_step s r) (routine_walk s r)

abbrev pub pausing_at : List ℕ → ℕ → Verdict
pausing_at s r = pausing_of (first_step s r) (step_count s r) (routine_walk s r)

unfoldable pub nesting_verdict : List ℕ → Verdict
nesting_verdict s = first_refusal (nesting_at s) (routines_of s) 0

unfoldable pub pausing_verdict : List ℕ → Verdict
pausing_verdict s = first_refusal (pausing_at s) (routines_of s) 0

-- "Reading a book and set-up check 1 to 7", each over the whole book before the next
unfoldable pub book_verdict : List ℕ → Verdict
book_verdict s = layout_verdict s or_else directory_verdict s or_else steps_verdict s or_else nesting_verdict s or_else pausing_verdict s

-- "Showing a routine gives its steps back as that part of the lent book.
-- For a refused book, or a number not below R, it gives the empty part at the book's start."
abbrev pub is_shown : List ℕ → ℕ → Bool
is_shown s r = eqb (book_verdict s).number 0 && ltb r (routines_of s)

unfoldable pub shown : List ℕ → ℕ → List ℕ
shown s r = if is_shown s r then routine_steps s r else []

-- the byte of the book where that part begins
unfoldable pub shown_from : List ℕ → ℕ → ℕ
shown_from s r = if is_shown s r then routine_from s r else 0
