-- The jumps of a routine that nests lead where its parse says: past the partner of an opening or an else, and from an end back to its
-- while or past its if. The search for an end's opening goes by the ops, and the parse by the forms: they are compared row by row
-- of the table. From there on the search passes over a block's steps with the blocks in them, and is before them as deep as behind them.
use Prim.Native.Nat.{ℕ, suc, ◌+◌, ◌-◌}
use mathlib.Core.Path.{◌≡◌, refl, ◌∙◌, subst}
use mathlib.Core.Bool.{Bool, true, false}
use mathlib.Core.List.{List}
use mathlib.Core.Logic.{◌⊎◌}
use native.Mathlib.Nat.{add-sub_cancel}
use native.Mathlib.Numerals.{add-one}
use native.Mathlib.Omega.{arith}
use lib.Dec.{eqb}
use lib.IntN.{ℤ}
use borrow.Author.Tests.{ne_eqb}
use Rattle.kinds.specs.Ops.{op_while}
use Rattle.std.specs.Prelude.{if◌then◌else◌}
use Rattle.numbers.specs.Numbers.{count_of}
use Rattle.kinds.specs.declared.Kind.{Kind}
use Rattle.kinds.specs.declared.Counts.{Counts}
use Rattle.forms.specs.declared.Form.{Form}
use Rattle.forms.specs.declared.Form.TheVariants.{Plain, Pausing, IfOpening, ElseMarker, WhileOpening, EndMarker}
use Rattle.kinds.specs.Steps.{op_at, field_a, field_b, field_n, steps_in}
use Rattle.forms.specs.Forms.{form_of}
use Rattle.blocks.specs.Blocks.{View, stands}
use Rattle.blocks.specs.Parse.{ParsedBlock, empty, more, ParsedStep, plain, pausing, if_only, if_else, loop}
use Rattle.kinds.proofs.Rows.{◌and◌, Kinds, kind_holds}
use Rattle.partners.proofs.Scan.{kind_there, finds_partner}
use Rattle.round.specs.Jumps.{past_partner, opening_by, opening_before, from_end}
use Rattle.round.proofs.Leads.{form_at}

-- openingBy's look at place p, by the form of the step there instead of its op
abbrev look_at : Form → (ℕ → ℕ) → ℕ → ℕ → ℕ
look_at Plain on d p = on d
look_at Pausing on d p = on d
look_at IfOpening on d p = if eqb d 0 then p else on (d - 1)
look_at ElseMarker on d p = on d
look_at WhileOpening on d p = if eqb d 0 then p else on (d - 1)
look_at EndMarker on d p = on (d + 1)

abbrev is_while : Form → Bool
is_while Plain = false
is_while Pausing = false
is_while IfOpening = false
is_while ElseMarker = false
is_while WhileOpening = true
is_while EndMarker = false

module _ (on : ℕ → ℕ) (d p : ℕ) where
  -- what the search reads of an op is what it reads of a form
  abbrev SameLook : ℕ → Form → Type 0
  SameLook op f = (opening_by on op d p ≡ look_at f on d p) × (eqb op op_while ≡ is_while f)

  abbrev KindLook : ℕ → Kind → Type 0
  KindLook op k = SameLook op (form_of k)

  -- a step that the search passes by
  passed : (on d ≡ on d) × (false ≡ false)
  passed = (refl, refl)

  -- op 7, which pauses or not
  rest_look : (t : Bool) → (on d ≡ look_at (if t then Plain else Pausing) on d p) × (false ≡ is_while (if t then Plain else Pausing))
  rest_look true = (refl, refl)
  rest_look false = (refl, refl)

  table_looks : (a b : ℕ) (n : ℤ) → Kinds KindLook a b n
  table_looks a b n =
      passed and passed and passed and passed and passed and passed and passed and rest_look (eqb (count_of n) 0) and passed and passed
      and passed and passed and passed and passed and passed and passed and passed and (refl, refl) and passed and (refl, refl)
      and (refl, refl) and tt

-- a routine's part of the book
module _ (counts : Counts) (steps : List ℕ) where
  abbrev at : ℕ → View
  at = form_at counts steps

  place_look : (d p : ℕ) {f : Form} → at p ≡ stands f → SameLook (λ e. opening_before steps e p) d p (op_at steps p) f
  place_look d p h =
      let on : ℕ → ℕ = λ e. opening_before steps e p in
      let (k, e, g) = kind_there counts steps (steps_in steps) p h in
      let kinds = table_looks on d p (field_a steps p) (field_b steps p) (field_n steps p) in
      subst (SameLook on d p (op_at steps p)) g (kind_holds (KindLook on d p) counts steps p kinds e)

  back : (d p : ℕ) {f : Form} → at p ≡ stands f → opening_before steps d (suc p) ≡ look_at f (λ e. opening_before steps e p) d p
  unfolding opening_before
  back d p h = (place_look d p h).0

  -- within an inner pair an opening closes the pair
  closes : (d p : ℕ) → (if eqb (d + 1) 0 then p else opening_before steps (d + 1 - 1) p) ≡ opening_before steps d p
  closes d p = rw (ne_eqb (d + 1) 0 (λ e. omega arith), add-sub_cancel d 1)

  -- the search passes over whole blocks, and over a step with its blocks
  mutual
    over_block : {m p e : ℕ} → ParsedBlock at m p e → (d : ℕ) → opening_before steps d e ≡ opening_before steps d p
    over_block empty d = refl
    over_block (more x b) d = over_block b d ∙ over_step x d

    over_step : {m p e : ℕ} → ParsedStep at m p e → (d : ℕ) → opening_before steps d e ≡ opening_before steps d p
    over_step (plain h) d = back d _ h
    over_step (pausing h) d = back d _ h
    over_step (if_only h b k) d = back d _ k ∙ over_block b (d + 1) ∙ back (d + 1) _ h ∙ closes d _
    over_step (if_else h b k c j) d =
        back d _ j ∙ over_block c (d + 1) ∙ back (d + 1) _ k ∙ over_block b (d + 1) ∙ back (d + 1) _ h ∙ closes d _
    over_step (loop h b k) d = back d _ k ∙ over_block b (d + 1) ∙ back (d + 1) _ h ∙ closes d _

  -- an end leads by the form of the opening that the search finds
  from_opening : (p e : ℕ) {f : Form} → at p ≡ stands f → opening_before steps 0 e ≡ p → from_end steps e ≡ (if is_while f then p else suc e)
  unfolding from_end
  from_opening p e h o = rw (o, (place_look 0 p h).1, add-one e)

  pub past_partner_lem :
      {d p q : ℕ} → ParsedBlock at d (suc p) q → (at q ≡ stands ElseMarker) ⊎ (at q ≡ stands EndMarker) → past_partner steps p ≡ suc q
  unfolding past_partner
  past_partner_lem b k = rw (finds_partner counts steps (steps_in steps) b k, add-one)

  pub from_if : {d p q : ℕ} → at p ≡ stands IfOpening → ParsedBlock at d (suc p) q → from_end steps q ≡ suc q
  from_if {p = p} {q = q} h b = from_opening p q h (over_block b 0 ∙ back 0 p h)

  pub from_else :
      {d p q e : ℕ} →
      at p ≡ stands IfOpening → ParsedBlock at d (suc p) q → at q ≡ stands ElseMarker → ParsedBlock at d (suc q) e →
      from_end steps e ≡ suc e
  from_else {p = p} {q = q} {e = e} h b k c = from_opening p e h (over_block c 0 ∙ back 0 q k ∙ over_block b 0 ∙ back 0 p h)

  pub from_while : {d p q : ℕ} → at p ≡ stands WhileOpening → ParsedBlock at d (suc p) q → from_end steps q ≡ p
  from_while {p = p} {q = q} h b = from_opening p q h (over_block b 0 ∙ back 0 p h)
