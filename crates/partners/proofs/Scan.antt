-- The search for an opening's partner finds the marker at which, by the parse, the block behind the opening stops.
-- The search goes by the ops, and the parse by the forms: they are compared row by row of the table, in which a step's op has its kind.
-- From there on the search passes over a block's steps with the blocks in them, and is behind them as deep as before them.
use Prim.Native.Nat.{ℕ, suc, ◌+◌, ◌-◌}
use mathlib.Core.Path.{◌≡◌, refl, sym, ap, ◌∙◌}
use mathlib.Core.Bool.{Bool, true, false}
use mathlib.Core.List.{List}
use mathlib.Core.Logic.{◌⊎◌, inl, inr}
use native.Mathlib.Nat.{add-sub_cancel}
use native.Mathlib.Numerals.{add-one}
use native.Mathlib.Omega.{arith}
use lib.Dec.{eqb}
use lib.IntN.{ℤ}
use borrow.Author.Tests.{ne_eqb}
use Rattle.std.specs.Prelude.{if◌then◌else◌, Option, Some, None}
use Rattle.numbers.specs.Numbers.{count_of}
use Rattle.numbers.proofs.Left.{more_left}
use Rattle.kinds.specs.declared.Kind.{Kind}
use Rattle.kinds.specs.declared.Kind.TheVariants.{Else}
use Rattle.kinds.specs.declared.Counts.{Counts}
use Rattle.forms.specs.declared.Form.{Form}
use Rattle.forms.specs.declared.Form.TheVariants.{Plain, Pausing, IfOpening, ElseMarker, WhileOpening, EndMarker}
use Rattle.kinds.specs.Steps.{op_at, field_a, field_b, field_n, step_at}
use Rattle.forms.specs.Forms.{form_of}
use Rattle.kinds.proofs.Rows.{◌and◌, Kinds, kind_holds}
use Rattle.blocks.specs.Blocks.{View, stands, seen, view_at}
use Rattle.partners.specs.Partners.{partner_by, partner_of}
use Rattle.blocks.specs.Parse.{ParsedBlock, empty, more, ParsedStep, plain, pausing, if_only, if_else, loop}
use Rattle.blocks.proofs.Views.{view_seen, standing_below}

-- `partner_by`'s look at place p, by the form of the step there instead of its op
abbrev pub look_at : Form → (ℕ → ℕ) → ℕ → ℕ → ℕ
look_at Plain on d p = on d
look_at Pausing on d p = on d
look_at IfOpening on d p = on (d + 1)
look_at ElseMarker on d p = if eqb d 0 then p else on d
look_at WhileOpening on d p = on (d + 1)
look_at EndMarker on d p = if eqb d 0 then p else on (d - 1)

-- the kind of a step that stands
kind_seen : (x : Option Kind) {f : Form} → seen x ≡ stands f → (k : Kind) × (x ≡ Some k) × (form_of k ≡ f)
kind_seen (Some k) h = (k, refl, cc)
kind_seen None h = (Else, cc, cc)

module _ (on : ℕ → ℕ) (d p : ℕ) where
  -- the look at an op is the look at the form of its kind
  abbrev SameLook : ℕ → Kind → Type 0
  SameLook op k = partner_by on op d p ≡ look_at (form_of k) on d p

  -- op 7, which pauses or not
  rest_look : (t : Bool) → on d ≡ look_at (if t then Plain else Pausing) on d p
  rest_look true = refl
  rest_look false = refl

  table_looks : (a b : ℕ) (n : ℤ) → Kinds SameLook a b n
  table_looks a b n =
      refl and refl and refl and refl and refl and refl and refl and rest_look (eqb (count_of n) 0) and refl and refl and refl
      and refl and refl and refl and refl and refl and refl and refl and refl and refl and refl and tt

  -- the op decides whether a step opens, is a marker, or neither
  pub step_look :
      (counts : Counts) (s : List ℕ) (i : ℕ) {f : Form} →
      seen (step_at counts s i) ≡ stands f → partner_by on (op_at s i) d p ≡ look_at f on d p
  step_look counts s i h =
      let (k, e, g) = kind_seen (step_at counts s i) h in
      kind_holds SameLook counts s i (table_looks (field_a s i) (field_b s i) (field_n s i)) e ∙ ap (λ (f : Form). look_at f on d p) g

-- a part of the book, whose first n steps are a routine's
module _ (counts : Counts) (s : List ℕ) (n : ℕ) where
  abbrev at : ℕ → View
  at = view_at counts s n

  seen_there : (p : ℕ) {f : Form} → at p ≡ stands f → seen (step_at counts s p) ≡ stands f
  seen_there p h = sym (view_seen counts s n p (standing_below counts s n p h)) ∙ h

  -- a step that stands at a place is one of the kinds
  pub kind_there : (p : ℕ) {f : Form} → at p ≡ stands f → (k : Kind) × (step_at counts s p ≡ Some k) × (form_of k ≡ f)
  kind_there p h = kind_seen (step_at counts s p) (seen_there p h)

  -- what the search from place p on comes to, with d inner pairs open
  abbrev found : ℕ → ℕ → ℕ
  found d p = partner_of s (n - p) d p

  found_look : (d p : ℕ) {f : Form} → at p ≡ stands f → found d p ≡ look_at f (λ c. found c (suc p)) d p
  unfolding partner_of
  found_look d p h =
      rw (more_left (standing_below counts s n p h), add-one p) (step_look (λ c. found c (suc p)) d p counts s p (seen_there p h))

  -- within an inner pair an else is passed over, and an end closes the pair
  past_else : (d p : ℕ) → at p ≡ stands ElseMarker → found (d + 1) p ≡ found (d + 1) (suc p)
  past_else d p h = found_look (d + 1) p h ∙ rw (ne_eqb (d + 1) 0 (λ e. omega arith))

  past_end : (d p : ℕ) → at p ≡ stands EndMarker → found (d + 1) p ≡ found d (suc p)
  past_end d p h = found_look (d + 1) p h ∙ rw (ne_eqb (d + 1) 0 (λ e. omega arith), add-sub_cancel d 1)

  -- the search passes over whole blocks, and over a step with its blocks
  mutual
    pub past_block : {m p e : ℕ} → ParsedBlock at m p e → (d : ℕ) → partner_of s (n - p) d p ≡ partner_of s (n - e) d e
    past_block empty d = refl
    past_block (more x b) d = past_step x d ∙ past_block b d

    pub past_step : {m p e : ℕ} → ParsedStep at m p e → (d : ℕ) → partner_of s (n - p) d p ≡ partner_of s (n - e) d e
    past_step (plain h) d = found_look d _ h
    past_step (pausing h) d = found_look d _ h
    past_step (if_only h b k) d = found_look d _ h ∙ past_block b (d + 1) ∙ past_end d _ k
    past_step (if_else h b k c j) d = found_look d _ h ∙ past_block b (d + 1) ∙ past_else d _ k ∙ past_block c (d + 1) ∙ past_end d _ j
    past_step (loop h b k) d = found_look d _ h ∙ past_block b (d + 1) ∙ past_end d _ k

  -- the search from where a block begins finds the marker that stops the block
  pub finds_marker :
      {m p q : ℕ} →
      ParsedBlock at m p q → (at q ≡ stands ElseMarker) ⊎ (at q ≡ stands EndMarker) → partner_of s (n - p) 0 p ≡ q
  finds_marker b (inl k) = past_block b 0 ∙ found_look 0 _ k
  finds_marker b (inr k) = past_block b 0 ∙ found_look 0 _ k

  -- the block behind the opening, or the else, at p
  pub finds_partner :
      {m p q : ℕ} →
      ParsedBlock at m (suc p) q → (at q ≡ stands ElseMarker) ⊎ (at q ≡ stands EndMarker) → partner_of s (n - (p + 1)) 0 (p + 1) ≡ q
  finds_partner {p = p} b k = rw (add-one p) (finds_marker b k)
