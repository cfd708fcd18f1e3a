-- What the code of a relation comes to is the relation: what is read off the difference are the three answers, and the weights choose among
-- them.
use Prim.Native.Nat.{ℕ, ◌-◌, ◌%◌, ◌^◌, ◌<◌}
use mathlib.Core.Path.{◌≡◌}
use lib.Dec.{eqb}
use lib.IntN.{ℤ}
use mir.Syntax.{w32}
use mir.Val.{SFits}
use Rattle.std.specs.Prelude.{if◌then◌else◌}
use Rattle.numbers.specs.Numbers.{relation_of}
use Rattle.numbers.proofs.Differences.{not_less, above, less, equal, greater}
use Rattle.numbers.proofs.Weights.{from_two, chosen}

pub worked_out :
    (relation : ℕ) (v n : ℤ) → relation < 2 ^ 64 → SFits w32 v → SFits w32 n →
    (if eqb (from_two relation) 1 then above v n else if eqb (relation % 2) 1 then 1 - not_less v n else not_less v n - above v n)
    ≡ relation_of relation v n
worked_out relation v n h f g = rw (equal v n f g, less v n f g, greater v n f g) (chosen relation _ _ _ h)
