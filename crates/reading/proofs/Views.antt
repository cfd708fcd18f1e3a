-- What stands at a place of a routine whose steps are held against limits: nothing behind its last step, and before it what the step
-- there is decoded as.
use Prim.Native.Nat.{ℕ, ◌*◌, ◌≤◌, ◌<◌}
use mathlib.Core.Path.{◌≡◌}
use mathlib.Core.List.{List}
use native.Mathlib.Omega.{arith}
use borrow.Author.Tests.{lt-ltb, le-ltb}
use lib.ListN.{length, take}
use lib.Seq.{length-take-le}
use lib.IntN.{ℤ}
use Rattle.std.specs.Prelude.{Some}
use Rattle.kinds.specs.Steps.{step_bytes, steps_in}
use Rattle.kinds.specs.Limits.{step_within}
use Rattle.kinds.specs.declared.Kind.{Kind}
use Rattle.forms.specs.declared.Form.{Form}
use Rattle.forms.specs.Forms.{form_of}
use Rattle.blocks.specs.Blocks.{beyond, stands, seen}
use Rattle.blocks.proofs.Views.{stands_within}
use Rattle.reading.specs.Found.{view_by}

-- of the bytes of a part that begins with n steps, those of the n steps are n steps
pub steps_taken : (part : List ℕ) (n : ℕ) → step_bytes * n ≤ length part → steps_in (take (step_bytes * n) part) ≡ n
steps_taken part n h = omega (arith, length-take-le (step_bytes * n) part h)

module _ (limits : List (List (List ℤ))) (steps : List ℕ) (p : ℕ) where
  pub view_beyond : steps_in steps ≤ p → view_by limits steps p ≡ beyond
  unfolding view_by
  view_beyond h = rw (le-ltb p (steps_in steps) h)

  pub view_seen : p < steps_in steps → view_by limits steps p ≡ seen (step_within limits steps p)
  unfolding view_by
  view_seen h = rw (lt-ltb p (steps_in steps) h)

  pub stands_there :
      {k : Kind} → p < steps_in steps → step_within limits steps p ≡ Some k → view_by limits steps p ≡ stands (form_of k)
  stands_there h e = rw (view_seen h, e)

pub stands_below :
    (limits : List (List (List ℤ))) (steps : List ℕ) {f : Form} (p : ℕ) → view_by limits steps p ≡ stands f → p < steps_in steps
stands_below limits steps p h = stands_within (view_by limits steps) (steps_in steps) (view_beyond limits steps) p h
