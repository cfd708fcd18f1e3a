-- A step of an accepted book starts routine a exactly if its op is 13, and then a is a routine of the book. A step that is read has the
-- kind of its op's row, and of the table's rows only that of op 13 makes a start.
use Prim.Native.Nat.{ℕ, ◌<◌}
use mathlib.Core.Path.{◌≡◌, refl, sym, ◌∙◌, ap}
use mathlib.Core.List.{List}
use lib.IntN.{ℤ}
use Rattle.std.specs.Prelude.{Some}
use Rattle.kinds.specs.Ops.{op_start}
use Rattle.kinds.specs.declared.Kind.{Kind}
use Rattle.kinds.specs.declared.Kind.TheVariants.{Start}
use Rattle.kinds.specs.declared.Counts.{Counts}
use Rattle.kinds.specs.Steps.{row_of, kind_of, op_at, field_a, field_b, field_n, step_at}
use Rattle.kinds.proofs.Readable.{step_readable}
use Rattle.kinds.proofs.Rows.{◌and◌, Kinds, kind_holds, row_kind}
use Rattle.layout.specs.Layout.{routines_of, counts_of}
use Rattle.directory.specs.Directory.{step_count, routine_steps, routine_step}
use Rattle.book.specs.Accepted.{Accepted}
use Rattle.book.proofs.Routines.{shown_routine, shown_kind}
use Rattle.unstarted.specs.Chains.{Chain, empty, then}

-- a kind that is a start is of op 13
abbrev StartsAlone : ℕ → ℕ → Kind → Type 0
StartsAlone r op k = k ≡ Start r → op ≡ op_start

table_starts : (r a b : ℕ) (n : ℤ) → Kinds (StartsAlone r) a b n
table_starts r a b n =
    (λ e. cc) and (λ e. cc) and (λ e. cc) and (λ e. cc) and (λ e. cc) and (λ e. cc) and (λ e. cc) and (λ e. cc) and (λ e. cc) and (λ e. cc)
    and (λ e. cc) and (λ e. cc) and (λ e. cc) and (λ e. refl) and (λ e. cc) and (λ e. cc) and (λ e. cc) and (λ e. cc) and (λ e. cc)
    and (λ e. cc) and (λ e. cc) and tt

-- the row of op 13
start_row : (op a b : ℕ) (n : ℤ) → op ≡ op_start → kind_of op a b n ≡ Start a
unfolding row_of
start_row op a b n e = rw e

start_count_lem : (op : ℕ) (counts : Counts) → op ≡ op_start → (row_of op).a_count counts ≡ counts.routines
unfolding row_of
start_count_lem op counts e = rw e

-- a step that starts routine r
module _ (counts : Counts) (steps : List ℕ) (p : ℕ) {r : ℕ} (starts : step_at counts steps p ≡ Some (Start r)) where
  pub start_op : op_at steps p ≡ op_start
  start_op = kind_holds (StartsAlone r) counts steps p (table_starts r (field_a steps p) (field_b steps p) (field_n steps p)) starts refl

  pub start_field : field_a steps p ≡ r
  start_field = cc (start_row (op_at steps p) (field_a steps p) (field_b steps p) (field_n steps p) start_op, row_kind counts steps p starts)

  pub start_below : r < counts.routines
  start_below = rw (start_count_lem (op_at steps p) counts start_op, start_field) at (step_readable counts steps p starts).a_fits

module _ (book : List ℕ) (accepted : Accepted book) where
  -- a step of op 13 starts the routine of its field
  pub starts_there :
      (q p : ℕ) → q < routines_of book → p < step_count book q → op_at (routine_steps book q) p ≡ op_start →
      routine_step book q p ≡ Some (Start (field_a (routine_steps book q) p))
  starts_there q p below l h =
      let steps = routine_steps book q in
      let (k, shown) = shown_kind book accepted q below p l in
      let e = rw (shown_routine book accepted q below) at shown in
      e ∙ ap Some (sym (row_kind (counts_of book) steps p e) ∙ start_row (op_at steps p) _ _ _ h)

  -- a chain leads to routines of the book alone
  pub chain_below : {r : ℕ} → Chain book r → r < routines_of book
  chain_below empty = accepted.laid.counts.some_routine
  chain_below (then {q} {r} c (p, l, e)) = start_below (counts_of book) (routine_steps book q) p e
