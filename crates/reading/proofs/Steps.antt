-- What the readers of an if and of a while find, from what is found of the blocks that they hold: the walk over an if or a while in the
-- definitions goes on behind each block with what stands there, which the block reader tells.
use Prim.Native.Nat.{ℕ, zero, suc, ◌+◌, ◌-◌, min}
use mathlib.Core.Path.{◌≡◌, refl, sym, ap, ◌∙◌}
use mathlib.Core.Bool.{Bool, true, false, ◌&&◌}
use native.Mathlib.Numerals.{sub-one}
use native.Mathlib.Omega.{arith}
use Rattle.std.specs.Prelude.{Err, if◌then◌else◌}
use Rattle.forms.specs.declared.Form.TheVariants.{IfOpening, ElseMarker, WhileOpening}
use Rattle.forms.specs.Forms.{is_end}
use Rattle.blocks.specs.declared.Fault.{Fault}
use Rattle.blocks.specs.declared.Fault.TheVariants.{Misnested}
use Rattle.blocks.specs.Blocks.{past, View, beyond, unreadable, stands, else_at, closed, block_of, step_of, if_of, while_of}
use Rattle.reading.specs.declared.readers.Stop.{Stop}
use Rattle.reading.specs.declared.readers.Stop.TheVariants.{Beyond, AtElse, AtEnd}
use Rattle.reading.specs.Found.{stop_view, lowered}
use Rattle.reading.proofs.Lowered.{lowered_past, lowered_fault}

-- a step that is closed has the lower of its lowest while and the one before it
lowered_end :
    (t : Bool) (low p q : ℕ) (u : Bool) (l : ℕ) →
    lowered low (if t then past (q + 1) u l else Err (Misnested q)) ≡ (if t then past (q + 1) u (min low l) else Err (Misnested q))
lowered_end true low p q u l = refl
lowered_end false low p q u l = refl

lowered_closed : (x : View) (low p q : ℕ) (u : Bool) (l : ℕ) → lowered low (closed x p q u l) ≡ closed x p q u (min low l)
lowered_closed beyond low p q u l = refl
lowered_closed unreadable low p q u l = refl
lowered_closed (stands f) low p q u l = lowered_end (is_end f) low p q u l

chosen : (low p m : ℕ) {k : ℕ} (u : Bool) → min low m ≡ k → (if u then k else min low p) ≡ min low (if u then m else p)
chosen low p m true e = sym e
chosen low p m false e = refl

pub no_else : (s : Stop) → (s ≡ AtElse → ⊥) → else_at (stop_view s) ≡ false
no_else Beyond h = refl
no_else AtElse h = absurd (h refl)
no_else AtEnd h = refl

module _ (at : ℕ → View) (n p : ℕ) where
  -- an opening with no depth left
  pub if_too_deep : {d : ℕ} → d ≡ 0 → step_of at n d IfOpening p ≡ Err (Misnested p)
  unfolding step_of
  if_too_deep e = rw e

  pub while_too_deep : {d : ℕ} → d ≡ 0 → step_of at n d WhileOpening p ≡ Err (Misnested p)
  unfolding step_of
  while_too_deep e = rw e

  -- and one with some
  pub step_if : (d : ℕ) → (d ≡ 0 → ⊥) → step_of at n d IfOpening p ≡ if_of at n (d - 1) p
  unfolding step_of
  step_if zero h = absurd (h refl)
  step_if (suc d) h = rw (sub-one (suc d))

  pub step_while : (d : ℕ) → (d ≡ 0 → ⊥) → step_of at n d WhileOpening p ≡ while_of at n (d - 1) p
  unfolding step_of
  step_while zero h = absurd (h refl)
  step_while (suc d) h = rw (sub-one (suc d))

  module _ (d low : ℕ) where
    -- a fault of the first block is that of the step
    module _ {f : Fault} (e : Err f ≡ lowered low (block_of at n d (p + 1))) where
      pub while_fault : Err f ≡ lowered low (while_of at n d p)
      while_fault = rw (lowered_fault low (block_of at n d (p + 1)) e)

      pub if_fault : Err f ≡ lowered low (if_of at n d p)
      if_fault = rw (lowered_fault low (block_of at n d (p + 1)) e)

    -- behind the first block
    module _ {q k : ℕ} {u : Bool} {x : View} (e : past q u k ≡ lowered low (block_of at n d (p + 1))) (h : at q ≡ x) where
      pub while_closed : closed x p q false (if u then k else min low p) ≡ lowered low (while_of at n d p)
      while_closed =
          let b = lowered_past low (block_of at n d (p + 1)) e in
          rw (b.1, h, chosen low p b.0 u b.2, lowered_closed x low p q false (if u then b.0 else p))

      alone :
          (m : ℕ) → block_of at n d (p + 1) ≡ past q u m → else_at x ≡ false →
          closed x p q false (min low m) ≡ lowered low (if_of at n d p)
      alone m b t = rw (b, h, t, lowered_closed x low p q false m)

      pub if_alone : else_at x ≡ false → closed x p q false k ≡ lowered low (if_of at n d p)
      if_alone t =
          let b = lowered_past low (block_of at n d (p + 1)) e in
          ap (closed x p q false) (sym b.2) ∙ alone b.0 b.1 t

    -- behind the else goes on the second block, from the lowest while of the first
    module _ {q k : ℕ} {u : Bool} (e : past q u k ≡ lowered low (block_of at n d (p + 1))) (h : at q ≡ stands ElseMarker) where
      pub second_fault : {f : Fault} → Err f ≡ lowered k (block_of at n d (q + 1)) → Err f ≡ lowered low (if_of at n d p)
      second_fault g =
          let b = lowered_past low (block_of at n d (p + 1)) e in
          rw (b.1, h, lowered_fault k (block_of at n d (q + 1)) g)

      both :
          (m o : ℕ) {z : ℕ} {v : Bool} {x : View} → block_of at n d (p + 1) ≡ past q u m → block_of at n d (q + 1) ≡ past z v o → at z ≡ x →
          closed x p z (u && v) (min low (min m o)) ≡ lowered low (if_of at n d p)
      both m o {z} {v} {x} b c g = rw (b, h, c, g, lowered_closed x low p z (u && v) (min m o))

      pub if_else :
          {z o : ℕ} {v : Bool} {x : View} → past z v o ≡ lowered k (block_of at n d (q + 1)) → at z ≡ x →
          closed x p z (u && v) o ≡ lowered low (if_of at n d p)
      if_else {z} {o} {v} {x} f g =
          let b = lowered_past low (block_of at n d (p + 1)) e in
          let c = lowered_past k (block_of at n d (q + 1)) f in
          let same : min low (min b.0 c.0) ≡ o = omega (arith, b.2, c.2) in
          ap (closed x p z (u && v)) (sym same) ∙ both b.0 c.0 b.1 c.1 g
