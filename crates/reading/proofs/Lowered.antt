-- A walk that goes on from a lowest while: a block that is read with it from the start is the block lowered by it. By induction on the
-- steps left, since the lower of three does not depend on their order.
use Prim.Native.Nat.{ℕ, zero, suc, ◌≤◌, min}
use mathlib.Core.Path.{◌≡◌, refl, sym, ap, ◌∙◌}
use mathlib.Core.Bool.{Bool, true, false, ◌||◌}
use native.Mathlib.Omega.{arith}
use Rattle.std.specs.Prelude.{Ok, Err, if◌then◌else◌}
use Rattle.forms.specs.declared.Form.{Form}
use Rattle.forms.specs.Forms.{is_else, is_end}
use Rattle.blocks.specs.declared.Fault.{Fault}
use Rattle.blocks.specs.declared.Walked.{Walked}
use Rattle.blocks.specs.Blocks.{Walk, past, View, beyond, unreadable, stands, and_then, block_step, block_by}
use Rattle.reading.specs.Found.{lowered}

past_not_fault : {q l : ℕ} {u : Bool} {f : Fault} → past q u l ≡ Err f → ⊥
past_not_fault h = let z : ◌≡◌ {A = ℕ} 0 1 = cc in omega arith

-- what is lowered, from what came out
pub lowered_past :
    (low : ℕ) (w : Walk) {q l : ℕ} {u : Bool} →
    past q u l ≡ lowered low w → (m : ℕ) × (w ≡ past q u m) × (min low m ≡ l)
lowered_past low (Ok w) {q} {l} {u} e =
    let same : record { behind = q; pauses = u; lowest = l } ≡ record w { lowest = min low w.lowest } = cc in
    (w.lowest, rw (ap (λ (v : Walked). v.behind) same, ap (λ (v : Walked). v.pauses) same), sym (ap (λ (v : Walked). v.lowest) same))
lowered_past low (Err f) e = absurd (past_not_fault e)

pub lowered_below : (low : ℕ) (w : Walk) {q l : ℕ} {u : Bool} → past q u l ≡ lowered low w → l ≤ low
lowered_below low w e = let b = lowered_past low w e in omega (arith, b.2)

pub lowered_fault : (low : ℕ) (w : Walk) {f : Fault} → Err f ≡ lowered low w → w ≡ Err f
lowered_fault low (Ok w) e = absurd (past_not_fault (sym e))
lowered_fault low (Err f) e = sym e

either :
    (low : ℕ) (t : Bool) (x y : Walk) {v w : Walk} →
    v ≡ lowered low x → w ≡ lowered low y → (if t then v else w) ≡ lowered low (if t then x else y)
either low true x y e f = e
either low false x y e f = f

module _ (at : ℕ → View) (n : ℕ) (low : ℕ) (step : Form → ℕ → Walk) where
  abbrev Lowers : (ℕ → Bool → ℕ → Walk) → Type 0
  Lowers rest = (p : ℕ) (u : Bool) (l : ℕ) → rest p u (min low l) ≡ lowered low (rest p u l)

  then_lowers :
      (rest : ℕ → Bool → ℕ → Walk) → Lowers rest → (w : Walk) (u : Bool) (l : ℕ) →
      and_then w (λ q v m. rest q (u || v) (min (min low l) m)) ≡ lowered low (and_then w (λ q v m. rest q (u || v) (min l m)))
  then_lowers rest R (Ok w) u l =
      let same : min (min low l) w.lowest ≡ min low (min l w.lowest) = omega arith in
      ap (rest w.behind (u || w.pauses)) same ∙ R w.behind (u || w.pauses) (min l w.lowest)
  then_lowers rest R (Err f) u l = refl

  step_lowers :
      (rest : ℕ → Bool → ℕ → Walk) → Lowers rest → (x : View) (p : ℕ) (u : Bool) (l : ℕ) →
      block_step at n step rest x p u (min low l) ≡ lowered low (block_step at n step rest x p u l)
  step_lowers rest R beyond p u l = refl
  step_lowers rest R unreadable p u l = refl
  step_lowers rest R (stands f) p u l = either low (is_else f || is_end f) (past p u l) _ refl (then_lowers rest R (step f p) u l)

  block_lowers : (k : ℕ) → Lowers (block_by at n step k)
  unfolding block_by
  block_lowers zero p u l = refl
  block_lowers (suc k) p u l = step_lowers (block_by at n step k) (block_lowers k) (at p) p u l

  pub block_lowered : (k p : ℕ) (u : Bool) → low ≤ n → block_by at n step k p u low ≡ lowered low (block_by at n step k p u n)
  block_lowered k p u h =
      let own : low ≡ min low n = omega arith in
      ap (block_by at n step k p u) own ∙ block_lowers k p u n
