-- `partners::partner` meets its contract. The loop's invariant: the search from where the code is, as deep as it is, finds what
-- the whole search finds. Each arm takes one step of it. The depth fits, since it is at most the number of steps passed.
use Prim.Native.Nat.{max, ◌+◌, ◌-◌, ◌≤◌}
use mathlib.Core.Path.{◌≡◌}
use Rattle.kinds.specs.Steps.{steps_in}
use Rattle.partners.specs.Partners.{partner_of}
use Rattle.partners.proofs.partner.Given as goal

abbrev pub invariant-loop-at : goal.invariant-loop-at
invariant-loop-at l =
    (partner_of l.steps (l.count - l.at) l.depth l.at ≡ partner_of l.steps (steps_in l.steps - l.first) 0 l.first)
    × (l.depth + l.first ≤ l.at) × (l.at ≤ max l.first l.count)
