-- Steps held against the limits of a book's counts are the steps of the table: the limits lie as the table's rows do, and an op past the
-- table is turned down either way.
use Prim.Native.Nat.{ℕ, zero, suc, ◌<◌}
use mathlib.Core.Path.{◌≡◌, refl}
use mathlib.Core.List.{List, [], ◌∷◌, map}
use native.Mathlib.Decide.{dec_lt}
use native.Mathlib.Omega.{arith}
use borrow.Author.Tests.{lt-ltb, le-ltb}
use lib.ListN.{get_or, length}
use lib.IntN.{ℤ, pos}
use Rattle.kinds.specs.declared.Counts.{Counts}
use Rattle.kinds.specs.Steps.{Row, table, unknown, row_of, decoded, op_at, field_a, field_b, field_n, step_at}
use Rattle.kinds.specs.Limits.{ops, field_limits, number_limits, limits_of, decoded_within, step_within}
use Rattle.kinds.proofs.Rows.{past_table}

row_at : (f : Row → List ℤ) (rs : List Row) (i : ℕ) → i < length rs → get_or (map f rs) i [] ≡ f (get_or rs i unknown)
row_at f [] i h = absurd (omega arith)
row_at f (r ∷ rs) zero h = refl
row_at f (r ∷ rs) (suc i) h = row_at f rs i (omega arith)

field_limits_at :
    (counts : Counts) (op : ℕ) → op < ops →
    get_or (field_limits counts) op [] ≡ pos ((row_of op).a_count counts) ∷ pos ((row_of op).b_count counts) ∷ []
unfolding field_limits row_of
field_limits_at counts op h = row_at (λ r. pos (r.a_count counts) ∷ pos (r.b_count counts) ∷ []) table op h

number_limits_at : (op : ℕ) → op < ops → get_or number_limits op [] ≡ (row_of op).lowest_n ∷ (row_of op).highest_n ∷ []
unfolding number_limits row_of
number_limits_at op h = row_at (λ r. r.lowest_n ∷ r.highest_n ∷ []) table op h

decoded_within_lem : (counts : Counts) (op a b : ℕ) (n : ℤ) → decoded_within (limits_of counts) op a b n ≡ decoded counts op a b n
unfolding decoded_within decoded
decoded_within_lem counts op a b n =
    elim (dec_lt op ops) [
      | yes h ↦ rw (lt-ltb op ops h, field_limits_at counts op h, number_limits_at op h)
      | no m ↦ rw (le-ltb op ops (omega arith), past_table op (omega arith), le-ltb a 0 (omega arith))
    ]

pub step_within_lem : (counts : Counts) (s : List ℕ) (i : ℕ) → step_within (limits_of counts) s i ≡ step_at counts s i
unfolding step_within step_at
step_within_lem counts s i = rw (decoded_within_lem counts (op_at s i) (field_a s i) (field_b s i) (field_n s i))
