-- What holds of each row of the table of kinds holds of the op and the row of a step that is read, and so of its op and kind.
-- By the rows one after another: an op behind the last has a row that no step meets.
use Prim.Native.Nat.{ℕ, zero, suc, ◌+◌, ◌≤◌, ◌<◌}
use mathlib.Core.Path.{◌≡◌, subst}
use mathlib.Core.List.{List, [], ◌∷◌}
use native.Mathlib.Nat.{add-zero, add-suc, zero-add, suc-add}
use native.Mathlib.Omega.{arith}
use native.Mathlib.Decide.{ℕ_discrete}
use lib.ListN.{get_or, get_or-eq_default}
use lib.IntN.{ℤ}
use Rattle.std.specs.Prelude.{Some}
use Rattle.kinds.specs.declared.Kind.{Kind}
use Rattle.kinds.specs.declared.Kind.TheVariants.{End}
use Rattle.kinds.specs.declared.Counts.{Counts}
use Rattle.kinds.specs.Steps.{Row, table, unknown, row_of, kind_of, op_at, field_a, field_b, field_n, kind_at, step_at}
use Rattle.kinds.specs.Limits.{ops}
use Rattle.kinds.proofs.Readable.{step_below, readable_step, step_readable}

module _ (counts : Counts) (s : List ℕ) (i : ℕ) where
  -- a step that is read has the kind at its place, that of its op's row
  pub kind_at_lem : {k : Kind} → step_at counts s i ≡ Some k → kind_at s i ≡ k
  kind_at_lem e = cc (readable_step counts s i (step_below counts s i e) (step_readable counts s i e))

  pub row_kind : {k : Kind} → step_at counts s i ≡ Some k → kind_of (op_at s i) (field_a s i) (field_b s i) (field_n s i) ≡ k
  unfolding kind_at
  row_kind e = kind_at_lem e

-- an op past the table has no row
pub past_table : (op : ℕ) → ops ≤ op → row_of op ≡ unknown
unfolding row_of
past_table op h = get_or-eq_default table unknown h

-- the op of the table's last row, and one past the table
pub last_kind : (op a b : ℕ) (n : ℤ) → 20 ≤ op → End ≡ kind_of op a b n
unfolding row_of
last_kind op a b n h = elim (ℕ_discrete op 20) [ yes e ↦ rw e | no d ↦ rw (past_table op (omega arith)) ]

-- what holds of a row, and what holds of the rows behind it
infixr 5 ◌and◌
pub ◌and◌ : {A B : Type 0} → A → B → A × B
x and y = (x, y)

module _ (P : ℕ → Row → Type 0) where
  -- in a list of rows whose first is that of op i, P holds of each row's op and of the row
  abbrev pub Rows : ℕ → List Row → Type 0
  Rows i [] = Unit {0}
  Rows i (r ∷ rs) = P i r × Rows (suc i) rs

  -- an op behind the list has the row of an unknown op, whose a has no value
  row_holds :
      (counts : Counts) (rs : List Row) (a i j : ℕ) →
      Rows i rs → a < (get_or rs j unknown).a_count counts → P (i + j) (get_or rs j unknown)
  row_holds counts [] a i j x h = absurd (omega arith)
  row_holds counts (r ∷ rs) a i zero x h = rw add-zero x.0
  row_holds counts (r ∷ rs) a i (suc j) x h = rw (add-suc i j, ← (suc-add i j)) (row_holds counts rs a (suc i) j x.1 h)

  -- what holds of the table's rows holds of the op and the row of a step that is read
  pub step_holds :
      (counts : Counts) (s : List ℕ) (i : ℕ) {k : Kind} → Rows 0 table → step_at counts s i ≡ Some k →
      P (op_at s i) (row_of (op_at s i))
  unfolding row_of
  step_holds counts s i x e =
      subst (λ (op : ℕ). P op (row_of (op_at s i))) (zero-add (op_at s i))
      (row_holds counts table (field_a s i) 0 (op_at s i) x (step_readable counts s i e).a_fits)

module _ (P : ℕ → Kind → Type 0) where
  -- P holds of each row's op and of the row's kind with the fields a, b and n
  abbrev pub Kinds : ℕ → ℕ → ℤ → Type 0
  Kinds a b n = Rows (λ op r. P op (r.kind a b n)) 0 table

  -- what holds of the table's kinds holds of the op and the kind of a step that is read
  pub kind_holds :
      (counts : Counts) (s : List ℕ) (i : ℕ) {k : Kind} → Kinds (field_a s i) (field_b s i) (field_n s i) → step_at counts s i ≡ Some k →
      P (op_at s i) k
  kind_holds counts s i x e =
      subst (P (op_at s i)) (row_kind counts s i e)
      (step_holds (λ op r. P op (r.kind (field_a s i) (field_b s i) (field_n s i))) counts s i x e)
