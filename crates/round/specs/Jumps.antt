-- Where the steps that hold blocks lead, and their markers. Document 01: "A place on an else stands for the end of the first block, on a
-- while's end for its next test."
use Rattle.std.specs.Prelude.{ℕ, zero, suc, ◌+◌, ◌-◌, ◌||◌, List, eqb, if◌then◌else◌}
use Rattle.kinds.specs.Ops.{op_if, op_while, op_end}
use Rattle.kinds.specs.Steps.{op_at, steps_in}
use Rattle.partners.specs.Partners.{partner_of}

-- the place behind the partner of the step at p, an opening or an else
unfoldable pub past_partner : List ℕ → ℕ → ℕ
past_partner steps p = partner_of steps (steps_in steps - (p + 1)) 0 (p + 1) + 1

-- the search for an end's opening goes back from it, and skips inner pairs: d of them are open at place p
abbrev pub opening_by : (ℕ → ℕ) → ℕ → ℕ → ℕ → ℕ
opening_by on op d p =
    let deeper = on (d + 1) in
    let same = on d in
    let higher = on (d - 1) in
    if eqb op op_end then deeper
    else if eqb op op_if || eqb op op_while then (if eqb d 0 then p else higher)
    else same

-- the opening that is not closed before place p
unfoldable pub opening_before : List ℕ → ℕ → ℕ → ℕ
opening_before steps d zero = 0
opening_before steps d (suc p) = opening_by (λ e. opening_before steps e p) (op_at steps p) d p

-- where the end at p leads: to its while's test (rule 7), or past its if
unfoldable pub from_end : List ℕ → ℕ → ℕ
from_end steps p = let q = opening_before steps 0 p in if eqb (op_at steps q) op_while then q else p + 1
