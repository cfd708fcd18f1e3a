-- A step's eight bytes, taken apart into one of the 21 kinds, or turned down: document 01's table.
use Rattle.std.specs.Prelude.{ℕ, ◌+◌, ◌*◌, ◌/◌, ◌<◌, ◌&&◌, List, [], ◌∷◌, ltb, get_or, length, ℤ, pos, ◌≤ℤ◌, if◌then◌else◌, Option, Some, None}
use Rattle.numbers.specs.Numbers.{half_of, number_of, lowest, highest, is_within, count_of}
use Rattle.kinds.specs.declared.Kind.{Kind}
use Rattle.kinds.specs.declared.Kind.TheVariants.{Mark, Set, Add, Take, Signal, SignalNumber, Rest, RestFor, Wait, WaitFor}
use Rattle.kinds.specs.declared.Kind.TheVariants.{Join, JoinFor, Read, Start, Stop, Suspend, Resume, If, Else, While, End}
use Rattle.kinds.specs.declared.Fields.{Fields}
use Rattle.kinds.specs.declared.Counts.{Counts}

-- a row of the table: how many values a and b have, from 0 on, by the book's counts; the lowest and the highest n; the kind, by the fields
pub record Row : Type 0 where
  pub a_count : Counts → ℕ
  pub b_count : Counts → ℕ
  pub lowest_n : ℤ
  pub highest_n : ℤ
  pub kind : ℕ → ℕ → ℤ → Kind

abbrev pub row : (Counts → ℕ) → (Counts → ℕ) → ℤ → ℤ → (ℕ → ℕ → ℤ → Kind) → Row
row a b low high kind = record { a_count = a; b_count = b; lowest_n = low; highest_n = high; kind = kind }

-- "read .. n = k, 1 to 64", "b relation (0 equal, 1 less, 2 greater)"
abbrev pub most_read : ℤ
most_read = pos 64

abbrev pub relations : Counts → ℕ
relations counts = 3

-- The table, a row an op. "Fields not named are 0": such a field has one value, and such an n lies from 0 to 0.
abbrev pub table : List Row
table =
    let R : Counts → ℕ = λ counts. counts.routines in
    let E : Counts → ℕ = λ counts. counts.signals in
    let C : Counts → ℕ = λ counts. counts.counters in
    let one : Counts → ℕ = λ counts. 1 in
    let zero = pos 0 in
    -- 0 mark
    row one one lowest highest (λ a b n. Mark n)
    -- 1 set
    ∷ row C one lowest highest (λ a b n. Set a n)
    -- 2 add
    ∷ row C one lowest highest (λ a b n. Add a n)
    -- 3 take
    ∷ row C C zero zero (λ a b n. Take a b)
    -- 4 signal
    ∷ row E one zero zero (λ a b n. Signal a)
    -- 5 signal with number
    ∷ row E C zero zero (λ a b n. SignalNumber a b)
    -- 6 rest
    ∷ row one one zero zero (λ a b n. Rest)
    -- 7 rest n
    ∷ row one one lowest highest (λ a b n. RestFor (count_of n))
    -- 8 wait
    ∷ row E one zero zero (λ a b n. Wait a)
    -- 9 wait n
    ∷ row E one lowest highest (λ a b n. WaitFor a (count_of n))
    -- 10 join
    ∷ row R one zero zero (λ a b n. Join a)
    -- 11 join n
    ∷ row R one lowest highest (λ a b n. JoinFor a (count_of n))
    -- 12 read
    ∷ row E C (pos 1) most_read (λ a b n. Read a b (count_of n))
    -- 13 start
    ∷ row R one zero zero (λ a b n. Start a)
    -- 14 stop
    ∷ row R one zero zero (λ a b n. Stop a)
    -- 15 suspend
    ∷ row R one zero zero (λ a b n. Suspend a)
    -- 16 resume
    ∷ row R one zero zero (λ a b n. Resume a)
    -- 17 if
    ∷ row C relations lowest highest (λ a b n. If a b n)
    -- 18 else
    ∷ row one one zero zero (λ a b n. Else)
    -- 19 while
    ∷ row C relations lowest highest (λ a b n. While a b n)
    -- 20 end
    ∷ row one one zero zero (λ a b n. End)
    ∷ []

-- an unknown op has no row: its a has no value at all
abbrev pub unknown : Row
unknown = row (λ counts. 0) (λ counts. 0) (pos 0) (pos 0) (λ a b n. End)

unfoldable pub row_of : ℕ → Row
row_of op = get_or table op unknown

-- the kind of a step whose fields are op, a, b and n
abbrev pub kind_of : ℕ → ℕ → ℕ → ℤ → Kind
kind_of op a b n = (row_of op).kind a b n

-- a step's fields are within its op's limits
pub record Readable (counts : Counts) (op a b : ℕ) (n : ℤ) : Type 0 where
  pub a_fits : a < (row_of op).a_count counts
  pub b_fits : b < (row_of op).b_count counts
  pub above : (row_of op).lowest_n ≤ℤ n
  pub below : n ≤ℤ (row_of op).highest_n

-- "taken apart into one of the 21 kinds, or the step is turned down"
unfoldable pub decoded : Counts → ℕ → ℕ → ℕ → ℤ → Option Kind
decoded counts op a b n =
    let r = row_of op in
    if ltb a (r.a_count counts) && ltb b (r.b_count counts) && is_within n r.lowest_n r.highest_n
    then Some (kind_of op a b n)
    else None

-- "Then S steps of 8 bytes"
abbrev pub step_bytes : ℕ
step_bytes = 8

-- how many steps these bytes are
abbrev pub steps_in : List ℕ → ℕ
steps_in steps = length steps / step_bytes

-- "steps of 8 bytes: op (8 bits), a (8 bits), b (16 bits), n (32 bits, two's complement)"
abbrev pub op_at : List ℕ → ℕ → ℕ
op_at s i = get_or s (i * step_bytes) 0

abbrev pub field_a : List ℕ → ℕ → ℕ
field_a s i = get_or s (i * step_bytes + 1) 0

abbrev pub field_b : List ℕ → ℕ → ℕ
field_b s i = half_of (get_or s (i * step_bytes + 2) 0) (get_or s (i * step_bytes + 3) 0)

abbrev pub field_n : List ℕ → ℕ → ℤ
field_n s i =
    number_of (get_or s (i * step_bytes + 4) 0) (get_or s (i * step_bytes + 5) 0) (get_or s (i * step_bytes + 6) 0) (get_or s (i * step_bytes + 7) 0)

abbrev pub fields_at : List ℕ → ℕ → Fields
fields_at s i = record { op = op_at s i; a = field_a s i; b = field_b s i; n = field_n s i }

-- the kind of step i of a part of the book, whether or not the step is turned down
unfoldable pub kind_at : List ℕ → ℕ → Kind
kind_at s i = kind_of (op_at s i) (field_a s i) (field_b s i) (field_n s i)

-- step i of a part of the book; turned down where its bytes are not there
unfoldable pub step_at : Counts → List ℕ → ℕ → Option Kind
step_at counts s i =
    if ltb i (steps_in s) then decoded counts (op_at s i) (field_a s i) (field_b s i) (field_n s i) else None
