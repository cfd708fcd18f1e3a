-- The places of a routine, where a block stops, and what is said of a reader's answer: ground that the other files share.
-- An answer is spoken of by a claim on what is past and a claim on the fault; the readers' parts carry such claims along.
use Prim.Native.Nat.{ℕ, ◌≤◌, ◌<◌}
use mathlib.Core.Path.{◌≡◌, refl}
use mathlib.Core.Bool.{Bool, true, ◌||◌}
use mathlib.Core.List.{List}
use native.Mathlib.Decide.{dec_lt}
use native.Mathlib.Omega.{arith}
use borrow.Author.Tests.{lt-ltb, le-ltb}
use Rattle.std.specs.Prelude.{Option, Some, None, Ok, Err}
use Rattle.numbers.proofs.Tests.{clash}
use Rattle.kinds.specs.declared.Kind.{Kind}
use Rattle.kinds.specs.declared.Counts.{Counts}
use Rattle.forms.specs.declared.Form.{Form}
use Rattle.forms.specs.declared.Form.TheVariants.{Plain, Pausing, IfOpening, ElseMarker, WhileOpening, EndMarker}
use Rattle.blocks.specs.declared.Fault.{Fault}
use Rattle.kinds.specs.Steps.{step_at}
use Rattle.forms.specs.Forms.{is_else, is_end}
use Rattle.blocks.specs.Blocks.{Walk, View, beyond, unreadable, stands, view_at, seen, and_then}

pub stands_not_beyond : {x : View} {f : Form} → x ≡ stands f → x ≡ beyond → ⊥
stands_not_beyond h k = let z : ◌≡◌ {A = ℕ} 0 1 = cc in omega arith

pub unreadable_not_beyond : {x : View} → x ≡ unreadable → x ≡ beyond → ⊥
unreadable_not_beyond h k = let z : ◌≡◌ {A = ℕ} 0 1 = cc in omega arith

pub seen_stands : (s : Option Kind) → seen s ≡ beyond → ⊥
seen_stands (Some k) e = stands_not_beyond refl e
seen_stands None e = unreadable_not_beyond refl e

-- a block stops behind the last step or at a marker
abbrev pub Stops : View → Type 0
Stops beyond = Unit {0}
Stops unreadable = ⊥
Stops (stands f) = (is_else f || is_end f) ≡ true

-- so a claim on where it stops is shown behind the last step, at an else and at an end
pub by_stop :
    (P : View → Type 0) (x : View) → Stops x →
    (x ≡ beyond → P beyond) → (x ≡ stands ElseMarker → P (stands ElseMarker)) → (x ≡ stands EndMarker → P (stands EndMarker)) → P x
by_stop P beyond t a b c = a refl
by_stop P unreadable t a b c = absurd t
by_stop P (stands Plain) t a b c = clash t refl
by_stop P (stands Pausing) t a b c = clash t refl
by_stop P (stands IfOpening) t a b c = clash t refl
by_stop P (stands ElseMarker) t a b c = b refl
by_stop P (stands WhileOpening) t a b c = clash t refl
by_stop P (stands EndMarker) t a b c = c refl

module _ (counts : Counts) (part : List ℕ) (n p : ℕ) where
  pub view_beyond : n ≤ p → view_at counts part n p ≡ beyond
  unfolding view_at
  view_beyond h = rw (le-ltb p n h)

  pub view_seen : p < n → view_at counts part n p ≡ seen (step_at counts part p)
  unfolding view_at
  view_seen h = rw (lt-ltb p n h)

  pub view_inside : p < n → view_at counts part n p ≡ beyond → ⊥
  view_inside h e = seen_stands (step_at counts part p) (rw (view_seen h) at e)

module _ (at : ℕ → View) (n : ℕ) (out : (p : ℕ) → n ≤ p → at p ≡ beyond) where
  pub within : (p : ℕ) → (at p ≡ beyond → ⊥) → p < n
  within p h = elim (dec_lt p n) [ yes l ↦ l | no m ↦ absurd (h (out p (omega arith))) ]

  pub stands_within : {f : Form} (p : ℕ) → at p ≡ stands f → p < n
  stands_within p h = within p (stands_not_beyond h)

-- a step that stands at a place of a routine is one of its steps
pub standing_below : (counts : Counts) (part : List ℕ) (n p : ℕ) {f : Form} → view_at counts part n p ≡ stands f → p < n
standing_below counts part n p h = stands_within (view_at counts part n) n (view_beyond counts part n) p h

-- what an answer says: P of what is past, F of a fault
abbrev pub Says : (ℕ → Bool → ℕ → Type 0) → (Fault → Type 0) → Walk → Type 0
Says P F (Ok w) = P w.behind w.pauses w.lowest
Says P F (Err f) = F f

module _ (P Q : ℕ → Bool → ℕ → Type 0) (F : Fault → Type 0) where
  pub says_more : (w : Walk) → Says P F w → ((q : ℕ) (u : Bool) (l : ℕ) → P q u l → Q q u l) → Says Q F w
  says_more (Ok w) h k = k w.behind w.pauses w.lowest h
  says_more (Err f) h k = h

  pub says_then :
      (w : Walk) (next : ℕ → Bool → ℕ → Walk) →
      Says P F w → ((q : ℕ) (u : Bool) (l : ℕ) → P q u l → Says Q F (next q u l)) → Says Q F (and_then w next)
  says_then (Ok w) next h k = k w.behind w.pauses w.lowest h
  says_then (Err f) next h k = h

pub says_fault :
    (P : ℕ → Bool → ℕ → Type 0) (F G : Fault → Type 0) (w : Walk) → Says P F w → ((f : Fault) → F f → G f) → Says P G w
says_fault P F G (Ok w) h k = h
says_fault P F G (Err f) h k = k f h
