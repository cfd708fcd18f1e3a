-- The weights that choose one of three answers as a relation's number does: 0 equal, 1 less, 2 greater.
use Prim.Native.Nat.{ℕ, ◌+◌, ◌-◌, ◌/◌, ◌%◌, ◌^◌, ◌<◌}
use mathlib.Core.Path.{◌≡◌}
use native.Mathlib.Omega.{arith}
use lib.Dec.{eqb}
use Rattle.std.specs.Prelude.{if◌then◌else◌}
use Rattle.numbers.proofs.Differences.{highest_bit}

-- the weight of "greater"
abbrev pub from_two : ℕ → ℕ
from_two relation = (relation / 2 + (highest_bit - 1)) / highest_bit

pub chosen : (relation e l g : ℕ) → relation < 2 ^ 64 →
    (if eqb (from_two relation) 1 then g else if eqb (relation % 2) 1 then l else e)
    ≡ (if eqb relation 0 then e else if eqb relation 1 then l else g)
chosen relation e l g h = grind arith
