-- What the form that stands at a place of a routine says of the step there, and that a step's op is its kind's. A step that stands is one
-- of the kinds, and a kind is told by its form; the table has the ops, row by row.
use Prim.Native.Nat.{ℕ}
use mathlib.Core.Path.{◌≡◌, refl}
use mathlib.Core.Bool.{Bool, true, false}
use mathlib.Core.List.{List}
use mathlib.Core.Logic.{◌⊎◌, inl, inr}
use lib.Dec.{eqb}
use lib.IntN.{ℤ}
use Rattle.std.specs.Prelude.{if◌then◌else◌, Option, Some}
use Rattle.kinds.specs.declared.Kind.{Kind}
use Rattle.kinds.specs.declared.Kind.TheVariants.{Mark, Set, Add, Take, Signal, SignalNumber, Rest, RestFor, Wait, WaitFor}
use Rattle.kinds.specs.declared.Kind.TheVariants.{Join, JoinFor, Read, Start, Stop, Suspend, Resume, If, Else, While, End}
use Rattle.kinds.specs.declared.Counts.{Counts}
use Rattle.forms.specs.declared.Form.{Form}
use Rattle.forms.specs.declared.Form.TheVariants.{Plain, Pausing, IfOpening, ElseMarker, WhileOpening, EndMarker}
use Rattle.kinds.specs.Steps.{op_at, field_a, field_b, field_n, step_at, steps_in}
use Rattle.forms.specs.Forms.{form_of}
use Rattle.blocks.specs.Blocks.{View, stands}
use Rattle.kinds.proofs.Rows.{◌and◌, Kinds, kind_holds}
use Rattle.partners.proofs.Scan.{kind_there}
use Rattle.round.proofs.Leads.{form_at}

-- what a step of a form is
abbrev pub Formed : Form → Option Kind → Type 0
Formed Plain st = (k : Kind) × (st ≡ Some k) × (form_of k ≡ Plain)
Formed Pausing st = (k : Kind) × (st ≡ Some k) × (form_of k ≡ Pausing)
Formed IfOpening st = (c : ℕ) × (relation : ℕ) × (n : ℤ) × (st ≡ Some (If c relation n))
Formed ElseMarker st = st ≡ Some Else
Formed WhileOpening st = (c : ℕ) × (relation : ℕ) × (n : ℤ) × (st ≡ Some (While c relation n))
Formed EndMarker st = st ≡ Some End

rest_formed : (t : Bool) (k : Kind) → form_of k ≡ (if t then Plain else Pausing) → Formed (if t then Plain else Pausing) (Some k)
rest_formed true k h = (k, refl, h)
rest_formed false k h = (k, refl, h)

formed : (k : Kind) → Formed (form_of k) (Some k)
formed (Mark n) = (Mark n, refl, refl)
formed (Set c n) = (Set c n, refl, refl)
formed (Add c n) = (Add c n, refl, refl)
formed (Take c d) = (Take c d, refl, refl)
formed (Signal e) = (Signal e, refl, refl)
formed (SignalNumber e c) = (SignalNumber e c, refl, refl)
formed Rest = (Rest, refl, refl)
formed (RestFor n) = rest_formed (eqb n 0) (RestFor n) refl
formed (Wait e) = (Wait e, refl, refl)
formed (WaitFor e n) = (WaitFor e n, refl, refl)
formed (Join t) = (Join t, refl, refl)
formed (JoinFor t n) = (JoinFor t n, refl, refl)
formed (Read e c n) = (Read e c n, refl, refl)
formed (Start t) = (Start t, refl, refl)
formed (Stop t) = (Stop t, refl, refl)
formed (Suspend t) = (Suspend t, refl, refl)
formed (Resume t) = (Resume t, refl, refl)
formed (If c relation n) = (c, relation, n, refl)
formed Else = refl
formed (While c relation n) = (c, relation, n, refl)
formed End = refl

-- the op of each kind
abbrev pub op_of : Kind → ℕ
op_of (Mark n) = 0
op_of (Set c n) = 1
op_of (Add c n) = 2
op_of (Take c d) = 3
op_of (Signal e) = 4
op_of (SignalNumber e c) = 5
op_of Rest = 6
op_of (RestFor n) = 7
op_of (Wait e) = 8
op_of (WaitFor e n) = 9
op_of (Join t) = 10
op_of (JoinFor t n) = 11
op_of (Read e c n) = 12
op_of (Start t) = 13
op_of (Stop t) = 14
op_of (Suspend t) = 15
op_of (Resume t) = 16
op_of (If c relation n) = 17
op_of Else = 18
op_of (While c relation n) = 19
op_of End = 20

-- each row of the table has a kind of its own op
abbrev OwnKind : ℕ → Kind → Type 0
OwnKind op k = op ≡ op_of k

own_kinds : (a b : ℕ) (n : ℤ) → Kinds OwnKind a b n
own_kinds a b n =
    refl and refl and refl and refl and refl and refl and refl and refl and refl and refl and refl and refl and refl and refl and refl
    and refl and refl and refl and refl and refl and refl and tt

module _ (counts : Counts) (steps : List ℕ) where
  abbrev at : ℕ → View
  at = form_at counts steps

  pub form_there : (p : ℕ) {f : Form} → at p ≡ stands f → Formed f (step_at counts steps p)
  form_there p h = let (k, e, g) = kind_there counts steps (steps_in steps) p h in rw e (rw g at (formed k))

  -- a step that holds no block and is no marker
  pub leaf_there :
      (p : ℕ) → (at p ≡ stands Plain) ⊎ (at p ≡ stands Pausing) →
      (k : Kind) × (step_at counts steps p ≡ Some k) × ((form_of k ≡ Plain) ⊎ (form_of k ≡ Pausing))
  leaf_there p (inl h) = let (k, e, g) = form_there p h in (k, e, inl g)
  leaf_there p (inr h) = let (k, e, g) = form_there p h in (k, e, inr g)

  -- a step's op is its kind's
  pub step_op : (p : ℕ) {k : Kind} → step_at counts steps p ≡ Some k → op_at steps p ≡ op_of k
  step_op p e = kind_holds OwnKind counts steps p (own_kinds (field_a steps p) (field_b steps p) (field_n steps p)) e
