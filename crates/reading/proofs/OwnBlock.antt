-- A routine is read to its end, or it is wrong where its own block stops: what is found of that block, as the walk over the routine. The
-- block is read from its step count as the lowest while, which lowers nothing.
use Prim.Native.Nat.{ℕ, ◌≤◌}
use mathlib.Core.Path.{◌≡◌, refl, sym, ap, ◌∙◌}
use mathlib.Core.Bool.{false}
use mathlib.Core.List.{List}
use native.Mathlib.Decide.{dec_lt}
use native.Mathlib.Omega.{arith}
use borrow.Author.Tests.{lt-ltb, le-ltb}
use lib.IntN.{ℤ}
use Rattle.std.specs.Prelude.{Ok, Err}
use Rattle.kinds.specs.Limits.{step_within}
use Rattle.kinds.specs.Steps.{steps_in}
use Rattle.forms.specs.declared.Form.{Form}
use Rattle.forms.specs.declared.Form.TheVariants.{ElseMarker, EndMarker}
use Rattle.blocks.specs.declared.Fault.{Fault}
use Rattle.blocks.specs.declared.Fault.TheVariants.{Misnested}
use Rattle.blocks.specs.Blocks.{Walk, beyond, stands, deepest, step_of, block_of, routine_of}
use Rattle.blocks.proofs.Views.{seen_stands}
use Rattle.reading.specs.declared.readers.Block.{Block}
use Rattle.reading.specs.declared.readers.Stop.{Stop}
use Rattle.reading.specs.declared.readers.Stop.TheVariants.{Beyond, AtElse, AtEnd}
use Rattle.reading.specs.Found.{view_by, stop_view, walk_of, lowered}
use Rattle.reading.proofs.Views.{view_seen, stands_below}
use Rattle.reading.proofs.Lowered.{block_lowered}

-- what stops a block before the routine's end is a marker
stop_marker : (s : Stop) → (s ≡ Beyond → ⊥) → (f : Form) × (stop_view s ≡ stands f)
stop_marker Beyond k = absurd (k refl)
stop_marker AtElse k = (ElseMarker, refl)
stop_marker AtEnd k = (EndMarker, refl)

module _ (limits : List (List (List ℤ))) (steps : List ℕ) where
  abbrev n : ℕ
  n = steps_in steps

  -- nothing stands only behind the last step
  behind : (p : ℕ) → view_by limits steps p ≡ beyond → n ≤ p
  behind p e =
      elim (dec_lt p n) [
        | yes h ↦ absurd (seen_stands (step_within limits steps p) (rw (view_seen limits steps p h) at e))
        | no m ↦ omega arith
      ]

  -- the routine's own block, which its step count lowers by nothing
  module _ {m : ℕ} (count : n ≡ m) {w : Walk} (e : w ≡ lowered m (block_of (view_by limits steps) n deepest 0)) where
    own_block : block_of (view_by limits steps) n deepest 0 ≡ w
    own_block =
        block_lowered (view_by limits steps) n n (step_of (view_by limits steps) n deepest) _ 0 false (omega arith)
        ∙ sym (rw (← count) at e)

  module _ {m : ℕ} (count : n ≡ m) where
    pub routine_fault :
        {f : Fault} → Err f ≡ lowered m (block_of (view_by limits steps) n deepest 0) → Err f ≡ routine_of (view_by limits steps) m
    unfolding routine_of
    routine_fault e = rw (← count, own_block count e)

    module _ (b : Block) (e : walk_of (Ok b) ≡ lowered m (block_of (view_by limits steps) n deepest 0)) where
      ends : view_by limits steps b.at ≡ beyond → walk_of (Ok b) ≡ routine_of (view_by limits steps) m
      unfolding routine_of
      ends s = rw (← count, own_block count e, le-ltb b.at n (behind b.at s))

      stops : {f : Form} → view_by limits steps b.at ≡ stands f → Err (Misnested b.at) ≡ routine_of (view_by limits steps) m
      unfolding routine_of
      stops s = rw (← count, own_block count e, lt-ltb b.at n (stands_below limits steps b.at s))

      module _ (s : view_by limits steps b.at ≡ stop_view b.stop) where
        pub routine_past : b.stop ≡ Beyond → walk_of (Ok b) ≡ routine_of (view_by limits steps) m
        routine_past k = ends (s ∙ ap stop_view k)

        pub routine_stops : (b.stop ≡ Beyond → ⊥) → Err (Misnested b.at) ≡ routine_of (view_by limits steps) m
        routine_stops k = let marker = stop_marker b.stop k in stops (s ∙ marker.1)
