-- What a loop up to n has left at a number below it: one more than behind it.
use Prim.Native.Nat.{ℕ, suc, ◌+◌, ◌-◌, ◌<◌}
use mathlib.Core.Path.{◌≡◌}
use native.Mathlib.Omega.{arith}

pub more_left : {n i : ℕ} → i < n → n - i ≡ suc (n - (i + 1))
more_left h = omega arith
