-- The misplaced step of a routine is the one that the reader of Blocks answers with, there is at most one, and a parse leaves none.
-- A scan over the places keeps the openings or the first fault: what is reached, misplaced or parsed each settles where it comes to.
use Prim.Native.Nat.{ℕ, zero, suc, ◌≤◌, ◌<◌}
use mathlib.Core.Path.{◌≡◌, refl, sym, ◌∙◌}
use mathlib.Core.List.{List, [], ◌∷◌}
use native.Mathlib.Decide.{dec_le, dec_lt}
use native.Mathlib.Omega.{arith}
use lib.Dec.{ltb}
use lib.ListN.{length}
use borrow.Author.Tests.{lt-ltb, le-ltb}
use Rattle.std.specs.Prelude.{Ok, Err, if◌then◌else◌}
use Rattle.forms.specs.declared.Form.{Form}
use Rattle.forms.specs.declared.Form.TheVariants.{Plain, Pausing, IfOpening, ElseMarker, WhileOpening, EndMarker}
use Rattle.blocks.specs.declared.Fault.{Fault}
use Rattle.blocks.specs.declared.Fault.TheVariants.{Unreadable, Misnested}
use Rattle.blocks.specs.Blocks.{Walk, View, beyond, unreadable, stands, deepest, routine_of}
use Rattle.blocks.specs.Parse.{ParsedBlock, Open, open_if, open_else, open_while, opening_of, Reached, Misplaced}
use Rattle.blocks.proofs.Views.{within, stands_not_beyond, unreadable_not_beyond}
use Rattle.blocks.proofs.Parses.{block_reached}
use Rattle.blocks.proofs.Sound.{reached_within, routine_sound, misnested, unreadable_reached}

-- the openings at a place, or the first fault before it
data Scan : Type 0 where
  opens : List Open → Scan
  wrong : Fault → Scan

abbrev opening : Open → ℕ → List Open → Scan
opening o p os = if ltb (length os) deepest then opens (o ∷ os) else wrong (Misnested p)

abbrev at_else : ℕ → List Open → Scan
at_else p [] = wrong (Misnested p)
at_else p (open_if q ∷ os) = opens (open_else q ∷ os)
at_else p (open_else q ∷ os) = wrong (Misnested p)
at_else p (open_while q ∷ os) = wrong (Misnested p)

abbrev at_end : ℕ → List Open → Scan
at_end p [] = wrong (Misnested p)
at_end p (o ∷ os) = opens os

abbrev at_form : Form → ℕ → List Open → Scan
at_form Plain p os = opens os
at_form Pausing p os = opens os
at_form IfOpening p os = opening (open_if p) p os
at_form ElseMarker p os = at_else p os
at_form WhileOpening p os = opening (open_while p) p os
at_form EndMarker p os = at_end p os

abbrev at_place : View → ℕ → List Open → Scan
at_place beyond p os = opens os
at_place unreadable p os = wrong (Unreadable p)
at_place (stands f) p os = at_form f p os

abbrev onward : Scan → View → ℕ → Scan
onward (opens os) x p = at_place x p os
onward (wrong f) x p = wrong f

-- an opening that is still open at the end is a fault as well
abbrev at_last : Scan → Scan
at_last (opens []) = opens []
at_last (opens (o ∷ os)) = wrong (Misnested (opening_of o))
at_last (wrong f) = wrong f

unreadable_wrong : (x : Scan) (p : ℕ) → (f : Fault) × (onward x unreadable p ≡ wrong f)
unreadable_wrong (opens os) p = (Unreadable p, refl)
unreadable_wrong (wrong f) p = (f, refl)

module _ (at : ℕ → View) where
  scan : ℕ → Scan
  scan zero = opens []
  scan (suc p) = onward (scan p) (at p) p

  scan_next : {os : List Open} {x : View} {s : Scan} (p : ℕ) → scan p ≡ opens os → at p ≡ x → at_place x p os ≡ s → scan (suc p) ≡ s
  unfolding scan
  scan_next p e h k = rw (e, h) k

  scan_wrong : {f : Fault} (p m : ℕ) → scan p ≡ wrong f → p ≤ m → scan m ≡ wrong f
  unfolding scan
  scan_wrong p zero e h = let k : p ≡ 0 = omega arith in rw k at e
  scan_wrong p (suc m) e h = elim (dec_le p m) [
    | yes l ↦ rw (scan_wrong p m e l)
    | no l ↦ let k : p ≡ suc m = omega arith in rw k at e
  ]

  reached_scan : {os : List Open} {p : ℕ} → Reached at os p → scan p ≡ opens os
  unfolding scan
  reached_scan Reached.start = refl
  reached_scan (Reached.plain {p = p} r h) = scan_next p (reached_scan r) h refl
  reached_scan (Reached.pausing {p = p} r h) = scan_next p (reached_scan r) h refl
  reached_scan (Reached.if {os = os} {p = p} r h l) = scan_next p (reached_scan r) h (rw (lt-ltb (length os) deepest l))
  reached_scan (Reached.else {p = p} r h) = scan_next p (reached_scan r) h refl
  reached_scan (Reached.while {os = os} {p = p} r h l) = scan_next p (reached_scan r) h (rw (lt-ltb (length os) deepest l))
  reached_scan (Reached.end {p = p} r h) = scan_next p (reached_scan r) h refl

  -- no step before a place that is reached is unreadable
  pub reached_readable : {os : List Open} (p q : ℕ) → Reached at os p → q < p → at q ≡ unreadable → ⊥
  unfolding scan
  reached_readable p q r l h =
      let w = unreadable_wrong (scan q) q in
      let z : ◌≡◌ {A = ℕ} 0 1 = cc (reached_scan r, scan_wrong {f = w.0} (suc q) p (rw h w.1) l) in
      omega arith

  module _ (n : ℕ) (out : (p : ℕ) → n ≤ p → at p ≡ beyond) (inside : (p : ℕ) → p < n → at p ≡ beyond → ⊥) where
    -- a fault at a place of the routine is the last word
    wrong_last :
        {os : List Open} {x : View} {f : Fault} (p : ℕ) → Reached at os p → at p ≡ x → (x ≡ beyond → ⊥) → at_place x p os ≡ wrong f →
        at_last (scan n) ≡ wrong f
    wrong_last p r h i k =
        let w = scan_next p (reached_scan r) h k in
        rw (scan_wrong (suc p) n w (within at n out p (λ e. i (sym h ∙ e))))

    misplaced_last : {p : ℕ} → Misplaced at p → at_last (scan n) ≡ wrong (Misnested p)
    misplaced_last (Misplaced.else_alone {p = p} r h) = wrong_last p r h (stands_not_beyond refl) refl
    misplaced_last (Misplaced.end_alone {p = p} r h) = wrong_last p r h (stands_not_beyond refl) refl
    misplaced_last (Misplaced.second_else {p = p} r h) = wrong_last p r h (stands_not_beyond refl) refl
    misplaced_last (Misplaced.else_in_while {p = p} r h) = wrong_last p r h (stands_not_beyond refl) refl
    misplaced_last (Misplaced.too_deep_if {os = os} {p = p} r h l) =
        wrong_last p r h (stands_not_beyond refl) (rw (le-ltb (length os) deepest (omega arith)))
    misplaced_last (Misplaced.too_deep_while {os = os} {p = p} r h l) =
        wrong_last p r h (stands_not_beyond refl) (rw (le-ltb (length os) deepest (omega arith)))
    misplaced_last (Misplaced.unclosed {p = p} r h) =
        elim (dec_lt p n) [
          | yes l ↦ absurd (inside p l h)
          | no l ↦ let k : n ≡ p = omega (arith, reached_within at n out r) in rw (k, reached_scan r)
        ]

    parsed_last : ParsedBlock at deepest 0 n → at_last (scan n) ≡ opens []
    parsed_last b = rw (reached_scan (block_reached at n b Reached.start (omega arith)))

    pub misplaced_one : {p q : ℕ} → Misplaced at p → Misplaced at q → p ≡ q
    misplaced_one v w = cc (misplaced_last v, misplaced_last w)

    pub parsed_not_misplaced : {p : ℕ} → ParsedBlock at deepest 0 n → Misplaced at p → ⊥
    parsed_not_misplaced b v = let z : ◌≡◌ {A = ℕ} 0 1 = cc (parsed_last b, misplaced_last v) in omega arith

    misplaced_walk : {p : ℕ} → Misplaced at p → (w : Walk) → routine_of at n ≡ w → w ≡ Err (Misnested p)
    misplaced_walk v (Ok w) e = absurd (parsed_not_misplaced (routine_sound at n out w.behind w.pauses w.lowest e).1.0 v)
    misplaced_walk v (Err (Misnested q)) e = rw (misplaced_one v (misnested at n out inside q e).0)
    misplaced_walk v (Err (Unreadable q)) e =
        let u = (unreadable_reached at n out inside q e).0 in
        cc (misplaced_last v, wrong_last {f = Unreadable q} q u.1 u.2 (unreadable_not_beyond refl) refl)

    pub misplaced_fault : {p : ℕ} → Misplaced at p → routine_of at n ≡ Err (Misnested p)
    misplaced_fault v = misplaced_walk v (routine_of at n) refl
