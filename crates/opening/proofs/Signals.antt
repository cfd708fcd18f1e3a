-- Action 2 copies the signals into the last row of flags. It is then that row, and the rows before it are as they were.
use Prim.Native.Nat.{ℕ, suc, ◌+◌, ◌≤◌}
use mathlib.Core.Path.{◌≡◌, ◌∙◌, refl}
use mathlib.Core.Bool.{Bool}
use mathlib.Core.List.{List, [], ◌∷◌, append-nil}
use native.Mathlib.Omega.{arith}
use lib.ListN.{length, set, take, drop_of_length-le}
use lib.Seq.{sets, length-take-le, length-sets, sets-eq, drop_at}
use Rattle.layout.specs.Layout.{most_routines, most_signals}
use Rattle.tables.specs.Tables.{present_row, flag_count, row_at, last_row}
use Rattle.tables.proofs.Rows.{row_last}
use Rattle.opening.specs.Actions.{with_signals}

-- stores from place k on
module _ {A : Type 0} where
  last_sets : (vs l : List A) (k : ℕ) → length l ≡ k + length vs → last_row k (sets l k vs) ≡ vs
  unfolding last_row
  last_sets vs l k e =
      rw (sets-eq vs l k (omega arith), drop_of_length-le l {i = k + length vs} (omega arith), append-nil)
      (drop_at (take k l) vs k (length-take-le k l (omega arith)))

  row_sets : (vs l : List A) (k j : ℕ) → j + most_routines ≤ k → row_at j (sets l k vs) ≡ row_at j l
  row_sets [] l k j h = refl
  row_sets (v ∷ vs) l k j h =
      let here : k + 0 ≡ k = omega arith in
      row_sets vs (set l k v) (suc k) j (omega arith) ∙ (rw here at (row_last k l 0 v j h))

module _ (signals flags : List Bool) where
  pub signals_length : length (with_signals signals flags) ≡ length flags
  unfolding with_signals
  signals_length = length-sets flags present_row signals

  pub signals_last : length signals ≡ most_signals → length flags ≡ flag_count → last_row present_row (with_signals signals flags) ≡ signals
  unfolding with_signals
  signals_last h k = last_sets signals flags present_row (omega arith)

  pub signals_row : (j : ℕ) → j + most_routines ≤ present_row → row_at j (with_signals signals flags) ≡ row_at j flags
  unfolding with_signals
  signals_row j h = row_sets signals flags present_row j h
