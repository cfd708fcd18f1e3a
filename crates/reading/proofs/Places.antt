-- What the readers see of a routine, in the steps that begin its part of the book and with the book's limits, is what stands there by the
-- table: the steps are the same, one by one.
use Prim.Native.Nat.{ℕ, ◌*◌, ◌≤◌}
use mathlib.Core.Path.{◌≡◌, fun_ext}
use mathlib.Core.List.{List}
use native.Mathlib.Decide.{dec_lt}
use native.Mathlib.Omega.{arith}
use borrow.Author.Tests.{lt-ltb, le-ltb}
use lib.ListN.{length, take}
use Rattle.kinds.specs.declared.Counts.{Counts}
use Rattle.kinds.specs.Steps.{step_bytes}
use Rattle.kinds.specs.Limits.{limits_of}
use Rattle.kinds.proofs.Limits.{step_within_lem}
use Rattle.blocks.specs.Blocks.{view_at}
use Rattle.reading.specs.Found.{view_by}
use Rattle.book.proofs.Parts.{step_taken}
use Rattle.reading.proofs.Views.{steps_taken}

module _ (counts : Counts) (part : List ℕ) (n : ℕ) (h : step_bytes * n ≤ length part) where
  abbrev taken : List ℕ
  taken = take (step_bytes * n) part

  place_by : (p : ℕ) → view_by (limits_of counts) taken p ≡ view_at counts part n p
  unfolding view_by view_at
  place_by p =
      elim (dec_lt p n) [
        | yes l ↦ rw (steps_taken part n h, lt-ltb p n l, step_within_lem counts taken p, step_taken n part p l counts)
        | no m ↦ rw (steps_taken part n h, le-ltb p n (omega arith))
      ]

  pub places_by : view_by (limits_of counts) taken ≡ view_at counts part n
  places_by = fun_ext place_by
