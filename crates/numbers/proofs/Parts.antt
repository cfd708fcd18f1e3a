-- The part of a list from place 0 on, and the part from a place to its end, however the places are told.
-- The first is what taking so many gives, and the second is what is left behind that place.
use Prim.Native.Nat.{ℕ, ◌-◌}
use mathlib.Core.Path.{◌≡◌}
use mathlib.Core.List.{List}
use native.Mathlib.Nat.{sub-zero}
use native.Mathlib.Omega.{arith}
use lib.ListN.{length, take, drop, length-drop}
use lib.Seq.{take_all}

pub part_to : (s : List ℕ) {a b : ℕ} → a ≡ b → take (a - 0) (drop 0 s) ≡ take b s
part_to s {a} e = rw (sub-zero a, e)

pub rest_from : (s : List ℕ) {a b : ℕ} → a ≡ b → take (length s - a) (drop a s) ≡ drop b s
rest_from s {a} e = rw (← e) (take_all (length s - a) (drop a s) (omega (arith, length-drop a s)))
