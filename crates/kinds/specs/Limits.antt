-- The limits of a book's fields as lists of numbers, and steps that are held against such lists: what the code decodes with.
-- With the limits of a book's counts the steps are those of the table (`step_within_lem`, crates/kinds/proofs/Limits.antt).
use Rattle.std.specs.Prelude.{ℕ, ◌&&◌, List, [], ◌∷◌, map, ltb, get_or, ℤ, pos, if◌then◌else◌, Option, Some, None}
use Rattle.std.specs.Int.Signed.{lt_z}
use Rattle.numbers.specs.Numbers.{is_within}
use Rattle.kinds.specs.declared.Kind.{Kind}
use Rattle.kinds.specs.declared.Counts.{Counts}
use Rattle.kinds.specs.Steps.{table, kind_of, steps_in, op_at, field_a, field_b, field_n}

-- how many rows the table has
abbrev pub ops : ℕ
ops = 21

-- of each row how many values a and b have
unfoldable pub field_limits : Counts → List (List ℤ)
field_limits counts = map (λ r. pos (r.a_count counts) ∷ pos (r.b_count counts) ∷ []) table

-- of each row the lowest and the highest n
unfoldable pub number_limits : List (List ℤ)
number_limits = map (λ r. r.lowest_n ∷ r.highest_n ∷ []) table

-- the limits of a book with these counts
abbrev pub limits_of : Counts → List (List (List ℤ))
limits_of counts = field_limits counts ∷ number_limits ∷ []

-- a step's fields held against limits
unfoldable pub decoded_within : List (List (List ℤ)) → ℕ → ℕ → ℕ → ℤ → Option Kind
decoded_within limits op a b n =
    let limit : ℕ → ℕ → ℤ = λ i j. get_or (get_or (get_or limits i []) op []) j (pos 0) in
    if ltb op ops && lt_z (pos a) (limit 0 0) && lt_z (pos b) (limit 0 1) && is_within n (limit 1 0) (limit 1 1)
    then Some (kind_of op a b n)
    else None

-- step i of a part of the book, held against limits; turned down where its bytes are not there
unfoldable pub step_within : List (List (List ℤ)) → List ℕ → ℕ → Option Kind
step_within limits s i =
    if ltb i (steps_in s) then decoded_within limits (op_at s i) (field_a s i) (field_b s i) (field_n s i) else None
