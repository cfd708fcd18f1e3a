-- A step of a part is the step at its place in the whole: in the part where a routine begins, and in the part that showing it gives.
-- A step is read from its eight bytes alone, so it is enough that the part has these bytes, and that it is long enough where the whole is.
use Prim.Native.Nat.{ℕ, ◌+◌, ◌*◌, ◌≤◌, ◌<◌}
use mathlib.Core.Path.{◌≡◌, ◌∙◌, sym}
use mathlib.Core.List.{List}
use native.Mathlib.Nat.{add-zero}
use native.Mathlib.Omega.{arith}
use native.Mathlib.Decide.{dec_lt}
use lib.ListN.{length, get_or, take, drop, length-take, length-drop}
use lib.Seq.{get_or-take, get_or-drop, drop-drop, length-take-le}
use Rattle.kinds.specs.declared.Counts.{Counts}
use Rattle.layout.specs.Layout.{steps_of, steps_from}
use Rattle.directory.specs.Directory.{first_step, step_count, routine_part, routine_steps}
use Rattle.kinds.specs.Steps.{step_bytes, steps_in, decoded, op_at, field_a, field_b, field_n, step_at}
use Rattle.book.specs.Book.{steps_part}
use Rattle.kinds.proofs.Readable.{step_there, step_missing}

-- step i of s has the bytes of step j of t, and is there if that one is
pub record SameStep (s : List ℕ) (i : ℕ) (t : List ℕ) (j : ℕ) : Type 0 where
  pub bytes : (b : ℕ) → b < step_bytes → get_or s (i * step_bytes + b) 0 ≡ get_or t (j * step_bytes + b) 0
  pub there : j < steps_in t → i < steps_in s
  pub missing : steps_in t ≤ j → steps_in s ≤ i

module _ {s : List ℕ} {i : ℕ} {t : List ℕ} {j : ℕ} (same : SameStep s i t j) where
  same_op : op_at s i ≡ op_at t j
  same_op = simp add-zero at (same.bytes 0 (omega arith))

  same_decoded :
      (counts : Counts) →
      decoded counts (op_at s i) (field_a s i) (field_b s i) (field_n s i) ≡ decoded counts (op_at t j) (field_a t j) (field_b t j) (field_n t j)
  same_decoded counts =
      rw (
        same_op,
        same.bytes 1 (omega arith),
        same.bytes 2 (omega arith),
        same.bytes 3 (omega arith),
        same.bytes 4 (omega arith),
        same.bytes 5 (omega arith),
        same.bytes 6 (omega arith),
        same.bytes 7 (omega arith),
      )

  pub same_step : (counts : Counts) → step_at counts s i ≡ step_at counts t j
  same_step counts =
      elim (dec_lt j (steps_in t)) [
        | yes h ↦ step_there counts s i (same.there h) ∙ same_decoded counts ∙ sym (step_there counts t j h)
        | no n ↦ step_missing counts s i (same.missing (omega arith)) ∙ sym (step_missing counts t j (omega arith))
      ]

-- behind the first k steps of a part, and in its first k steps
module _ (k : ℕ) (s : List ℕ) (i : ℕ) where
  pub same_dropped : SameStep (drop (step_bytes * k) s) i s (k + i)
  same_dropped =
      record {
        bytes = λ b h. let e : step_bytes * k + (i * step_bytes + b) ≡ (k + i) * step_bytes + b = omega arith in rw (get_or-drop, e);
        there = λ h. rw length-drop (omega arith);
        missing = λ h. rw length-drop (omega arith);
      }

  module _ (l : i < k) where
    pub same_taken : SameStep (take (step_bytes * k) s) i s i
    same_taken =
        record {
          bytes = λ b h. get_or-take (step_bytes * k) s (i * step_bytes + b) 0 (omega arith);
          there = λ h. rw length-take (omega arith);
          missing = λ h. rw length-take (omega arith);
        }

    pub step_taken : (counts : Counts) → step_at counts (take (step_bytes * k) s) i ≡ step_at counts s i
    step_taken = same_step same_taken

pub step_of_book :
    (s : List ℕ) → length s ≡ steps_from s + step_bytes * steps_of s →
    (i : ℕ) → i < steps_of s → i < steps_in (steps_part s)
step_of_book s size i h = rw length-drop (omega arith)

module _ (s : List ℕ) (r : ℕ) where
  routine_dropped : routine_part s r ≡ drop (step_bytes * first_step s r) (steps_part s)
  unfolding routine_part
  routine_dropped = rw drop-drop

  pub same_routine : (i : ℕ) → SameStep (routine_part s r) i (steps_part s) (first_step s r + i)
  same_routine i = rw routine_dropped (same_dropped (first_step s r) (steps_part s) i)

  pub step_routine : (counts : Counts) (i : ℕ) → step_at counts (routine_part s r) i ≡ step_at counts (steps_part s) (first_step s r + i)
  step_routine counts i = same_step (same_routine i) counts

  -- the routine's last step ends within the book
  module _ (within : steps_from s + step_bytes * (first_step s r + step_count s r) ≤ length s) where
    pub routine_length : step_bytes * step_count s r ≤ length (routine_part s r)
    unfolding routine_part
    routine_length = rw length-drop (omega arith)

    -- the part that showing the routine gives
    pub shown_length : length (routine_steps s r) ≡ step_bytes * step_count s r
    shown_length = length-take-le (step_bytes * step_count s r) (routine_part s r) routine_length
