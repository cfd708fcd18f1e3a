-- The fields of a step that is read: each index is one of the book's, and each number that goes to a counter is in a counter's range.
-- A step is read only where its fields are within its row's limits, and the limits say this of the row's kind: the table, row by row.
use Prim.Native.Nat.{ℕ, ◌<◌}
use mathlib.Core.Path.{◌≡◌, subst}
use mathlib.Core.List.{List}
use lib.IntN.{ℤ}
use lib.Signed.{◌≤ℤ◌}
use Rattle.std.specs.Prelude.{Some}
use Rattle.numbers.specs.Numbers.{CounterInRange}
use Rattle.kinds.specs.declared.Kind.{Kind}
use Rattle.kinds.specs.declared.Kind.TheVariants.{Mark, Set, Add, Take, Signal, SignalNumber, Rest, RestFor, Wait, WaitFor}
use Rattle.kinds.specs.declared.Kind.TheVariants.{Join, JoinFor, Read, Start, Stop, Suspend, Resume, If, Else, While, End}
use Rattle.kinds.specs.declared.Counts.{Counts}
use Rattle.kinds.specs.Steps.{Row, table, field_a, field_b, field_n, step_at}
use Rattle.kinds.proofs.Readable.{step_readable}
use Rattle.kinds.proofs.Rows.{Rows, ◌and◌, step_holds, row_kind}

-- what the fields of a kind are
abbrev pub FieldsRight : Counts → Kind → Type 0
FieldsRight counts (Mark n) = Unit {0}
FieldsRight counts (Set c n) = (c < counts.counters) × CounterInRange n
FieldsRight counts (Add c n) = (c < counts.counters) × CounterInRange n
FieldsRight counts (Take c d) = (c < counts.counters) × (d < counts.counters)
FieldsRight counts (Signal e) = e < counts.signals
FieldsRight counts (SignalNumber e c) = (e < counts.signals) × (c < counts.counters)
FieldsRight counts Rest = Unit {0}
FieldsRight counts (RestFor n) = Unit {0}
FieldsRight counts (Wait e) = e < counts.signals
FieldsRight counts (WaitFor e n) = e < counts.signals
FieldsRight counts (Join t) = t < counts.routines
FieldsRight counts (JoinFor t n) = t < counts.routines
FieldsRight counts (Read e c k) = (e < counts.signals) × (c < counts.counters)
FieldsRight counts (Start t) = t < counts.routines
FieldsRight counts (Stop t) = t < counts.routines
FieldsRight counts (Suspend t) = t < counts.routines
FieldsRight counts (Resume t) = t < counts.routines
FieldsRight counts (If c relation n) = c < counts.counters
FieldsRight counts Else = Unit {0}
FieldsRight counts (While c relation n) = c < counts.counters
FieldsRight counts End = Unit {0}

module _ (counts : Counts) (a b : ℕ) (n : ℤ) where
  -- the fields a, b and n within a row's limits are right for the row's kind
  abbrev RightIn : ℕ → Row → Type 0
  RightIn op r = a < r.a_count counts → b < r.b_count counts → r.lowest_n ≤ℤ n → n ≤ℤ r.highest_n → FieldsRight counts (r.kind a b n)

  table_right : Rows RightIn 0 table
  table_right =
      (λ ha hb low high. tt)
      and (λ ha hb low high. (ha, (low, high)))
      and (λ ha hb low high. (ha, (low, high)))
      and (λ ha hb low high. (ha, hb))
      and (λ ha hb low high. ha)
      and (λ ha hb low high. (ha, hb))
      and (λ ha hb low high. tt)
      and (λ ha hb low high. tt)
      and (λ ha hb low high. ha)
      and (λ ha hb low high. ha)
      and (λ ha hb low high. ha)
      and (λ ha hb low high. ha)
      and (λ ha hb low high. (ha, hb))
      and (λ ha hb low high. ha)
      and (λ ha hb low high. ha)
      and (λ ha hb low high. ha)
      and (λ ha hb low high. ha)
      and (λ ha hb low high. ha)
      and (λ ha hb low high. tt)
      and (λ ha hb low high. ha)
      and (λ ha hb low high. tt)
      and tt

pub fields_right : (counts : Counts) (steps : List ℕ) (p : ℕ) (k : Kind) → step_at counts steps p ≡ Some k → FieldsRight counts k
fields_right counts steps p k e =
    let a = field_a steps p in
    let b = field_b steps p in
    let n = field_n steps p in
    let read = step_readable counts steps p e in
    subst (FieldsRight counts) (row_kind counts steps p e)
    (step_holds (RightIn counts a b n) counts steps p (table_right counts a b n) e read.a_fits read.b_fits read.above read.below)
