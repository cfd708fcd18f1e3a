-- The routines that nobody starts: document 02, Paper 1. From routine 0 on, the starts of each routine that is found are noted, a routine's
-- steps once.
use Rattle.std.specs.Prelude.{ℕ, zero, suc, ◌+◌, Bool, true, false, ◌||◌, not, List, [], ◌∷◌, eqb, leb, ltb, length, get_or, set, replicate, if◌then◌else◌}
use Rattle.numbers.specs.Numbers.{byte_limit}
use Rattle.numbers.specs.Buffers.{with_front}
use Rattle.kinds.specs.Ops.{op_start}
use Rattle.kinds.specs.Steps.{op_at, field_a, steps_in}
use Rattle.verdicts.specs.declared.Verdict.{Verdict}
use Rattle.verdicts.specs.Verdicts.{refused, ◌or_else◌, unless}
use Rattle.layout.specs.Layout.{most_routines, routines_of}
use Rattle.directory.specs.Directory.{routine_steps}
use Rattle.book.specs.Book.{book_verdict}

-- what a search has found so far: a flag for each number that a byte can hold, and those found, in the order in which they were found, so
-- many
pub record Search : Type 0 where
  pub flags : List Bool
  pub order : List ℕ
  pub count : ℕ

abbrev pub search_of : List Bool → List ℕ → ℕ → Search
search_of flags order count = record { flags = flags; order = order; count = count }

-- none of them yet
abbrev pub none_found : List Bool → Search
none_found flags = search_of flags (replicate most_routines 0) 0

abbrev pub is_found : List Bool → ℕ → Bool
is_found flags r = get_or flags r false

-- routine r is found; a full list takes no more
abbrev pub with_found : ℕ → Search → Search
with_found r f =
    if is_found f.flags r || not (ltb f.count most_routines)
    then f
    else search_of (set f.flags r true) (set f.order f.count r) (f.count + 1)

-- what the step at place p starts is found
abbrev pub with_step : List ℕ → ℕ → Search → Search
with_step steps p f = if eqb (op_at steps p) op_start then with_found (field_a steps p) f else f

-- what n steps start, from place p on
unfoldable pub with_steps : ℕ → List ℕ → ℕ → Search → Search
with_steps zero steps p f = f
with_steps (suc n) steps p f = with_steps n steps (p + 1) (with_step steps p f)

-- what the steps of routine r start
abbrev pub with_starts : List ℕ → ℕ → Search → Search
with_starts book r f = let steps = routine_steps book r in with_steps (steps_in steps) steps 0 f

-- what the routines found start, from the k-th on, and what those start that are found on the way, at most n of them
unfoldable pub found_from : ℕ → List ℕ → ℕ → Search → Search
found_from zero book k f = f
found_from (suc n) book k f =
    if ltb k f.count then found_from n book (k + 1) (with_starts book (get_or f.order k 0) f) else f

-- from routine 0 on, where these flags are set before
unfoldable pub found_in : List ℕ → List Bool → Search
found_in book flags = found_from most_routines book 0 (with_found 0 (none_found flags))

-- "in rising number": those of n routines, from routine r on, that are not found
unfoldable pub not_found : List Bool → ℕ → ℕ → List ℕ
not_found flags zero r = []
not_found flags (suc n) r = let others = not_found flags n (r + 1) in if is_found flags r then others else r ∷ others

-- no flag is set
abbrev pub no_flags : List Bool
no_flags = replicate byte_limit false

-- "a list, in rising number, of the routines that no chain of start steps leads to from routine 0"
abbrev pub names_of : List ℕ → List ℕ
names_of book = not_found (found_in book no_flags).flags (routines_of book) 0

-- 12. "where the buffer is shorter than R"
abbrev pub short_names : ℕ
short_names = 12

-- "Turned away: 12, after 1 to 7"
unfoldable pub names_verdict : List ℕ → List ℕ → Verdict
names_verdict book buffer = book_verdict book or_else unless (leb (routines_of book) (length buffer)) (refused short_names 0)

-- what is answered, with the buffer as it is left
pub record NamesAnswer : Type 0 where
  pub verdict : Verdict
  pub count : ℕ
  pub buffer : List ℕ

abbrev pub names_for : Verdict → ℕ → List ℕ → NamesAnswer
names_for v n buffer = record { verdict = v; count = n; buffer = buffer }

-- "The names go into a lent buffer .., one byte each, and the answer is how many, 0 after a refusal; the rest of the buffer, or all of it
-- after a refusal, is untouched."
unfoldable pub names : List ℕ → List ℕ → NamesAnswer
names book buffer =
    let v = names_verdict book buffer in
    let named = names_of book in
    if eqb v.number 0 then names_for v (length named) (with_front named buffer) else names_for v 0 buffer
