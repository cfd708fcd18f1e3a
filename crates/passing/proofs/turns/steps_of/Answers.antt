-- `turns::steps_of` meets its contract: the numbers of header and entry say where the routine's steps begin and end.
use Prim.Native.Nat.{ℕ, ◌+◌, ◌-◌, ◌*◌}
use mathlib.Core.Path.{◌≡◌}
use mathlib.Core.List.{List}
use native.Mathlib.Omega.{arith}
use lib.ListN.{get_or, take, drop}
use Rattle.numbers.specs.Numbers.{half_of}
use Rattle.kinds.specs.Steps.{step_bytes}
use Rattle.directory.specs.Directory.{step_count, routine_from, routine_part, routine_steps}
use Rattle.passing.proofs.turns.steps_of.Goals as goal

-- the part of the book from a routine's first byte on, as long as its steps, is its steps
steps_there :
    (s : List ℕ) (r : ℕ) {from size : ℕ} → from ≡ routine_from s r → size ≡ step_bytes * step_count s r →
    take (from + size - from) (drop from s) ≡ routine_steps s r
unfolding routine_part
steps_there s r {from} {size} begins bytes = let same : from + size - from ≡ size = omega arith in rw (same, begins, bytes)

-- where the entry says that the steps begin, and how many bytes they have
starts :
    (book : List ℕ) (r : ℕ) {a b : ℕ} → a ≡ half_of (get_or book 0 0) (get_or book 1 0) →
    b ≡ half_of (get_or book (12 + 4 * r) 0) (get_or book (12 + 4 * r + 1) 0) → 12 + 4 * a + 8 * b ≡ routine_from book r
starts book r first second = rw (first, second)

sized :
    (book : List ℕ) (r : ℕ) {a : ℕ} → a ≡ half_of (get_or book (12 + 4 * r + 2) 0) (get_or book (12 + 4 * r + 3) 0) →
    8 * a ≡ step_bytes * step_count book r
sized book r is =
    let low : 12 + 4 * r + 2 ≡ 14 + 4 * r = omega arith in
    let high : 12 + 4 * r + 3 ≡ 14 + 4 * r + 1 = omega arith in
    rw (is, low, high)

pub returns : goal.returns
returns c =
    let a = c.args in
    steps_there a.book.now a.routine (starts a.book.now a.routine c.half.ensures.0 c.half-2.ensures.0)
    (sized a.book.now a.routine c.half-3.ensures.0)
