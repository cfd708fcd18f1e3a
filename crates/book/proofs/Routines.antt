-- What the layers above lean on in an accepted book: each routine is read through the part of the book that showing it gives.
-- That part is the routine's own steps, so its steps and places are those of the book.
-- As functions the places are equal, so what the book's clauses say of the one holds of the other.
use Prim.Native.Nat.{ℕ, suc, ◌+◌, ◌-◌, ◌≤◌, ◌<◌}
use mathlib.Core.Path.{◌≡◌, refl, ap, ◌∙◌, fun_ext, subst⁻¹}
use mathlib.Core.Bool.{true, false}
use mathlib.Core.List.{List, []}
use mathlib.Core.Logic.{◌⊎◌}
use native.Mathlib.Decide.{dec_lt}
use native.Mathlib.Nat.{mul-div_right}
use native.Mathlib.Omega.{arith}
use borrow.Author.Tests.{lt-ltb, le-ltb}
use lib.ListN.{length}
use Rattle.std.specs.Prelude.{Some}
use Rattle.kinds.specs.declared.Kind.{Kind}
use Rattle.forms.specs.declared.Form.TheVariants.{ElseMarker, EndMarker}
use Rattle.layout.specs.Layout.{routines_of, steps_of, counts_of}
use Rattle.directory.specs.Directory.{first_step, step_count, routine_from, routine_part, routine_steps}
use Rattle.kinds.specs.Steps.{steps_in, kind_at, step_at}
use Rattle.blocks.specs.Blocks.{View, stands, view_at, deepest}
use Rattle.partners.specs.Partners.{partner_of}
use Rattle.book.specs.Book.{steps_part, view_of, is_shown, shown, shown_from}
use Rattle.blocks.specs.Parse.{ParsedBlock, WhilesPause}
use Rattle.book.specs.Accepted.{Accepted}
use Rattle.book.specs.Reasons.{nothing}
use Rattle.directory.proofs.Directory as directory
use Rattle.kinds.proofs.Readable.{readable_step}
use Rattle.book.proofs.Parts.{step_of_book, step_taken, step_routine, shown_length}
use Rattle.partners.proofs.Scan.{finds_partner}
use Rattle.book.proofs.Reasons.{book_reason_only}

-- what stands at a place of what is shown of routine r
abbrev pub shown_at : List ℕ → ℕ → ℕ → View
shown_at s r = view_at (counts_of s) (shown s r) (step_count s r)

-- a parse whose whiles pause
abbrev pub PausingParse : (ℕ → View) → ℕ → Type 0
PausingParse at e = (b : ParsedBlock at deepest 0 e) × WhilesPause at b

module _ (s : List ℕ) (r : ℕ) where
  own_place : (p : ℕ) → view_at (counts_of s) (routine_steps s r) (step_count s r) p ≡ view_of s r p
  unfolding view_at
  own_place p =
      elim (dec_lt p (step_count s r)) [
        | yes l ↦ rw (lt-ltb p (step_count s r) l, step_taken (step_count s r) (routine_part s r) p l (counts_of s))
        | no n ↦ rw (le-ltb p (step_count s r) (omega arith))
      ]

  -- what the book's clauses say of a routine's places and their number holds of those of its own steps
  pub own_places :
      {steps : List ℕ} {n : ℕ} → steps ≡ routine_steps s r → n ≡ step_count s r → (P : (ℕ → View) → ℕ → Type 0) →
      P (view_of s r) (step_count s r) → P (view_at (counts_of s) steps n) n
  own_places e k P h = rw (e, k) (subst⁻¹ (λ at. P at (step_count s r)) (fun_ext own_place) h)

-- where nothing is shown, that is the empty part at the book's start
pub none_shown : (s : List ℕ) (r : ℕ) → is_shown s r ≡ false → (shown s r ≡ []) × (shown_from s r ≡ 0)
unfolding shown shown_from
none_shown s r e = (rw e, rw e)

module _ (s : List ℕ) (a : Accepted s) where
  -- each step is one of the kinds
  pub step_kind : (i : ℕ) → i < steps_of s → (k : Kind) × (step_at (counts_of s) (steps_part s) i ≡ Some k)
  step_kind i h =
      let there = step_of_book s a.laid.offsets.size i h in
      (kind_at (steps_part s) i, readable_step (counts_of s) (steps_part s) i there (a.readable i h))

  -- a routine lies within the book's steps
  pub routine_within : (r : ℕ) → r < routines_of s → first_step s r + step_count s r ≤ steps_of s
  routine_within = directory.routine_within s a.directed.entries a.directed.total

  -- r is one of its routines
  module _ (r : ℕ) (h : r < routines_of s) where
    is_shown_lem : is_shown s r ≡ true
    is_shown_lem = rw (book_reason_only s (nothing a), lt-ltb r (routines_of s) h)

    pub shown_routine : shown s r ≡ routine_steps s r
    unfolding shown
    shown_routine = rw is_shown_lem

    pub shown_from_lem : shown_from s r ≡ routine_from s r
    unfolding shown_from
    shown_from_lem = rw is_shown_lem

    -- its bytes are those of so many steps as the directory says
    pub routine_steps_lem : steps_in (routine_steps s r) ≡ step_count s r
    routine_steps_lem =
        let end = directory.routine_end s a.directed.entries a.directed.total a.laid.offsets.size r h in
        rw (shown_length s r end) (mul-div_right (step_count s r) (omega arith))

    -- its steps are those of its part of the book, and so those where the directory says
    pub shown_step : (i : ℕ) → i < step_count s r → step_at (counts_of s) (shown s r) i ≡ step_at (counts_of s) (steps_part s) (first_step s r + i)
    shown_step i l =
        rw shown_routine (step_taken (step_count s r) (routine_part s r) i l (counts_of s)) ∙ step_routine s r (counts_of s) i

    pub shown_kind : (i : ℕ) → i < step_count s r → (k : Kind) × (step_at (counts_of s) (shown s r) i ≡ Some k)
    shown_kind i l =
        let (k, e) = step_kind (first_step s r + i) (omega (arith, routine_within r h)) in
        (k, shown_step i l ∙ e)

    -- "Nesting goes to depth 16.", "The body of each while must pause."
    pub pausing_parse :
        {steps : List ℕ} {n : ℕ} → steps ≡ routine_steps s r → n ≡ step_count s r → PausingParse (view_at (counts_of s) steps n) n
    pausing_parse e k = own_places s r e k PausingParse (a.nesting r h, a.pausing r h)

    pub shown_parse : PausingParse (shown_at s r) (step_count s r)
    shown_parse = pausing_parse shown_routine refl

    -- the search behind an opening, or behind an else, finds the marker at which the block there stops
    pub shown_partner :
        {d p q : ℕ} →
        ParsedBlock (shown_at s r) d (suc p) q → (shown_at s r q ≡ stands ElseMarker) ⊎ (shown_at s r q ≡ stands EndMarker) →
        partner_of (shown s r) (steps_in (shown s r) - (p + 1)) 0 (p + 1) ≡ q
    shown_partner b k = rw (ap length shown_routine, routine_steps_lem) (finds_partner (counts_of s) (shown s r) (step_count s r) b k)
