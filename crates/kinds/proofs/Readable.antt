-- A step is taken apart into the kind of its op and fields if the fields are within its limits, and is turned down otherwise.
-- By the tests that the decoding makes, each read as the order that it tests; the table's rows are not looked at.
use Prim.Native.Nat.{ℕ, ◌<◌, ◌≤◌}
use mathlib.Core.Path.{◌≡◌, ◌∙◌, sym}
use mathlib.Core.List.{List}
use native.Mathlib.Omega.{arith}
use native.Mathlib.Decide.{dec_lt}
use Rattle.std.proofs.lemmas.Int.{ints}
use borrow.Author.Tests.{lt-ltb, le-ltb}
use lib.IntN.{ℤ}
use Rattle.std.specs.Prelude.{Some, None}
use Rattle.kinds.specs.declared.Kind.{Kind}
use Rattle.kinds.specs.declared.Counts.{Counts}
use Rattle.kinds.specs.Steps.{steps_in, kind_of, Readable, decoded, op_at, field_a, field_b, field_n, kind_at, step_at}

pub kind_not_refused : {k : Kind} → Some k ≡ None → ⊥
kind_not_refused h = cc

module _ (counts : Counts) (op a b : ℕ) (n : ℤ) where
  pub readable_kind : Readable counts op a b n → decoded counts op a b n ≡ Some (kind_of op a b n)
  unfolding decoded
  readable_kind h = grind (arith, ints)

  pub kind_readable : {k : Kind} → decoded counts op a b n ≡ Some k → Readable counts op a b n
  unfolding decoded
  kind_readable h =
      record {
        a_fits = grind (arith, ints);
        b_fits = grind (arith, ints);
        above = grind (arith, ints);
        below = grind (arith, ints);
      }

-- step i of a part of the book has fields within its op's limits
abbrev pub ReadableAt : Counts → List ℕ → ℕ → Type 0
ReadableAt counts s i = Readable counts (op_at s i) (field_a s i) (field_b s i) (field_n s i)

module _ (counts : Counts) (s : List ℕ) (i : ℕ) where
  pub step_there : i < steps_in s → step_at counts s i ≡ decoded counts (op_at s i) (field_a s i) (field_b s i) (field_n s i)
  unfolding step_at
  step_there h = rw (lt-ltb i (steps_in s) h)

  pub step_missing : steps_in s ≤ i → step_at counts s i ≡ None
  unfolding step_at
  step_missing h = rw (le-ltb i (steps_in s) h)

  -- a step that is not there is none of the kinds
  pub step_below : {k : Kind} → step_at counts s i ≡ Some k → i < steps_in s
  step_below e =
      elim (dec_lt i (steps_in s)) [
        | yes h ↦ h
        | no n ↦ absurd (kind_not_refused (sym e ∙ step_missing (omega arith)))
      ]

  pub readable_step : i < steps_in s → ReadableAt counts s i → step_at counts s i ≡ Some (kind_at s i)
  unfolding kind_at
  readable_step h r = step_there h ∙ readable_kind counts (op_at s i) (field_a s i) (field_b s i) (field_n s i) r

  -- a step that is one of the kinds is there, so this direction does not ask for its bytes
  pub step_readable : {k : Kind} → step_at counts s i ≡ Some k → ReadableAt counts s i
  step_readable e = kind_readable counts (op_at s i) (field_a s i) (field_b s i) (field_n s i) (sym (step_there (step_below e)) ∙ e)
