-- What is left of a block from a place on, by what stands there: a step that is read drops out of it, and the rest goes on behind. By
-- unrolling the definition of a block once; the steps left behind a step are enough, since it ends behind its place.
use Prim.Native.Nat.{ℕ, zero, suc, ◌+◌, ◌-◌, ◌≤◌, ◌<◌, min}
use mathlib.Core.Path.{◌≡◌, refl, sym, ◌∙◌}
use mathlib.Core.Bool.{Bool, true, false, ◌||◌, or-false, or-true}
use mathlib.Core.List.{List}
use native.Mathlib.Numerals.{sub-one}
use native.Mathlib.Omega.{arith}
use lib.IntN.{ℤ}
use Rattle.std.specs.Prelude.{None, Err}
use Rattle.kinds.specs.Limits.{step_within}
use Rattle.kinds.specs.Steps.{steps_in}
use Rattle.forms.specs.declared.Form.{Form}
use Rattle.forms.specs.declared.Form.TheVariants.{Plain, Pausing}
use Rattle.forms.specs.Forms.{is_else, is_end}
use Rattle.blocks.specs.declared.Fault.{Fault}
use Rattle.blocks.specs.declared.Fault.TheVariants.{Unreadable}
use Rattle.blocks.specs.Blocks.{Walk, past, View, stands, block_step, block_by, step_of}
use Rattle.reading.specs.Found.{view_by, lowered}
use Rattle.reading.proofs.Views.{view_seen, view_beyond, stands_below}
use Rattle.reading.proofs.Lowered.{lowered_past, lowered_fault}
use Rattle.blocks.proofs.Ahead.{step_behind, enough}

-- steps that hold no blocks, at any depth
plain_step : (at : ℕ → View) (n d p : ℕ) → step_of at n d Plain p ≡ past (p + 1) false n
unfolding step_of
plain_step at n zero p = refl
plain_step at n (suc d) p = refl

pausing_step : (at : ℕ → View) (n d p : ℕ) → step_of at n d Pausing p ≡ past (p + 1) true n
unfolding step_of
pausing_step at n zero p = refl
pausing_step at n (suc d) p = refl

module _ (limits : List (List (List ℤ))) (steps : List ℕ) (d : ℕ) where
  abbrev n : ℕ
  n = steps_in steps

  abbrev view : ℕ → View
  view = view_by limits steps

  abbrev own : Form → ℕ → Walk
  own = step_of view n d

  -- what is left from place p on, with what is told of the steps before it
  abbrev pub left : ℕ → Bool → ℕ → Walk
  left p u l = block_by view n own (n - p) p u l

  unrolled :
      (k p : ℕ) (u : Bool) (l : ℕ) → 0 < k →
      block_by view n own k p u l ≡ block_step view n own (block_by view n own (k - 1)) (view p) p u l
  unfolding block_by
  unrolled zero p u l h = absurd (omega arith)
  unrolled (suc k) p u l h = rw (sub-one (suc k))

  module _ (p : ℕ) (u : Bool) (l : ℕ) where
    pub left_none : n ≤ p → left p u l ≡ past p u l
    unfolding block_by
    left_none h = let none : n - p ≡ 0 = omega arith in rw none

    pub left_unreadable : p < n → step_within limits steps p ≡ None → left p u l ≡ Err (Unreadable p)
    left_unreadable h e = rw (unrolled (n - p) p u l (omega arith), view_seen limits steps p h, e)

    module _ (f : Form) (h : view p ≡ stands f) where
      here : left p u l ≡ block_step view n own (block_by view n own (n - p - 1)) (stands f) p u l
      here = let i = stands_below limits steps p h in unrolled (n - p) p u l (omega arith) ∙ rw h

      pub left_marker : (is_else f || is_end f) ≡ true → left p u l ≡ past p u l
      left_marker t = here ∙ rw t

      -- what goes on behind a step that ends at q
      goes_on_lem : (is_else f || is_end f) ≡ false → {q m : ℕ} {v : Bool} → own f p ≡ past q v m → left q (u || v) (min l m) ≡ left p u l
      goes_on_lem t {q} {m} {v} e =
          let i = stands_below limits steps p h in
          let j : p < q = rw e at (step_behind view n d f p) in
          enough view n own (step_behind view n d) (view_beyond limits steps) (n - q) (n - p - 1) q (u || v) (min l m)
          (omega arith) (omega arith)
          ∙ sym (here ∙ rw (t, e))

    pub left_plain : view p ≡ stands Plain → l ≤ n → left (p + 1) u l ≡ left p u l
    left_plain h i =
        let same : min l n ≡ l = omega arith in
        rw (or-false u, same) at (goes_on_lem Plain h refl (plain_step view n d p))

    pub left_pausing : view p ≡ stands Pausing → l ≤ n → left (p + 1) true l ≡ left p u l
    left_pausing h i =
        let same : min l n ≡ l = omega arith in
        rw (or-true u, same) at (goes_on_lem Pausing h refl (pausing_step view n d p))

    -- a step that holds blocks, by what is found of the last of them
    module _ (f : Form) (h : view p ≡ stands f) (o : (is_else f || is_end f) ≡ false) where
      pub left_held : {q m : ℕ} {v : Bool} → past q v m ≡ lowered l (own f p) → left q (u || v) m ≡ left p u l
      left_held e = let b = lowered_past l (own f p) e in rw b.2 at (goes_on_lem f h o b.1)

      pub held_ahead : {q m : ℕ} {v : Bool} → past q v m ≡ lowered l (own f p) → (p < q) × (m ≤ l)
      held_ahead e =
          let b = lowered_past l (own f p) e in
          (rw b.1 at (step_behind view n d f p), omega (arith, b.2))

      pub left_fault : {g : Fault} → Err g ≡ lowered l (own f p) → Err g ≡ left p u l
      left_fault e = sym (here f h ∙ rw (o, lowered_fault l (own f p) e))
