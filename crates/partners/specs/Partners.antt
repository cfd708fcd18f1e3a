-- Where the partner of an opening step is: document 01, "The book", on blocks.
use Rattle.std.specs.Prelude.{ℕ, zero, suc, ◌+◌, ◌-◌, ◌||◌, List, eqb, if◌then◌else◌}
use Rattle.kinds.specs.Ops.{op_if, op_else, op_while, op_end}
use Rattle.kinds.specs.Steps.{op_at}

-- "The search for an opening step's partner skips inner pairs and stops at the first marker that matches."
-- Where a routine nests, the first marker in no inner pair is the one that matches. d inner pairs are open at place p.
abbrev pub partner_by : (ℕ → ℕ) → ℕ → ℕ → ℕ → ℕ
partner_by on op d p =
    let deeper = on (d + 1) in
    let same = on d in
    let higher = on (d - 1) in
    if eqb op op_if || eqb op op_while then deeper
    else if eqb op op_else then (if eqb d 0 then p else same)
    else if eqb op op_end then (if eqb d 0 then p else higher)
    else same

-- k steps are left from place p; behind the last one the search stops
unfoldable pub partner_of : List ℕ → ℕ → ℕ → ℕ → ℕ
partner_of s zero d p = p
partner_of s (suc k) d p = partner_by (λ e. partner_of s k e (p + 1)) (op_at s p) d p
