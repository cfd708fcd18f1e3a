-- A number of 32 bits held in 64: the machine reads it back as it is, since what fits 32 bits fits 64.
use mathlib.Core.Path.{◌≡◌, ◌∙◌}
use lib.IntN.{ℤ}
use mir.Syntax.{w32, w64}
use mir.Val.{SFits, to_z, of_z}
use mir.Facts.{to_z-of_z, sfits_widen}

-- a number of 32 bits, read by the machine and held in 64
abbrev pub widened : ℤ → ℤ
widened z = to_z w64 (of_z w64 (to_z w32 (of_z w32 z)))

pub wide : {z : ℤ} → SFits w32 z → SFits w64 (to_z w32 (of_z w32 z))
wide f = rw (to_z-of_z f) (sfits_widen tt f)

pub widened_is : {z : ℤ} → SFits w32 z → widened z ≡ z
widened_is f = to_z-of_z (wide f) ∙ to_z-of_z f
