-- `partners::partner` meets its contract. The loop's invariant: the search from where the code is, as deep as it is, finds what
-- the whole search finds. Each arm takes one step of it. The depth fits, since it is at most the number of steps passed.
use Prim.Native.Nat.{ℕ, ◌+◌, ◌-◌, ◌<◌, ◌≤◌}
use mathlib.Core.Path.{◌≡◌}
use mathlib.Core.List.{List}
use native.Mathlib.Nat.{sub-eq-zero_of_le}
use native.Mathlib.Omega.{arith}
use Rattle.numbers.proofs.Left.{more_left}
use Rattle.kinds.specs.Steps.{steps_in, op_at}
use Rattle.partners.specs.Partners.{partner_by, partner_of}
use Rattle.partners.proofs.partner.Goals as goal

-- the search for a partner goes on from a place before the last step, and stops behind it
module _ (s : List ℕ) (n d p : ℕ) where
  step_on :
      (place : ℕ) → p < n → partner_of s (n - p) d p ≡ place →
      partner_by (λ e. partner_of s (n - (p + 1)) e (p + 1)) (op_at s p) d p ≡ place
  unfolding partner_of
  step_on place h k = rw (more_left h) at k

  partner_past : n ≤ p → partner_of s (n - p) d p ≡ p
  unfolding partner_of
  partner_past h = rw (sub-eq-zero_of_le h)

pub loop-at-preserved : goal.loop-at-preserved
loop-at-preserved c =
    let s = c.args.steps.now in
    let step = step_on s (steps_in s) c.loop-at.depth c.loop-at.at _ c.loop-at-test.true c.loop-at.invariant.0 in
    grind arith

pub returns-in-18 : goal.returns-in-18
returns-in-18 c =
    let s = c.args.steps.now in
    let step = step_on s (steps_in s) c.loop-at.depth c.loop-at.at _ c.loop-at-test.true c.loop-at.invariant.0 in
    grind arith

pub returns-after-loop-at : goal.returns-after-loop-at
returns-after-loop-at c =
    let past = partner_past c.args.steps.now (steps_in c.args.steps.now) c.loop-at.depth c.loop-at.at (omega arith) in
    grind arith
