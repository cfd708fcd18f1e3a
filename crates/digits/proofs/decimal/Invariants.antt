-- `digits::decimal` meets its contract. The loop's invariant: the value and the rest of the word give what the whole word gives.
use Prim.Native.Nat.{◌-◌}
use mathlib.Core.Path.{◌≡◌}
use lib.ListN.{length}
use Rattle.digits.specs.Digits.{decimal_from}
use Rattle.digits.proofs.decimal.Given as goal

abbrev pub invariant-loop-c : goal.invariant-loop-c
invariant-loop-c l = decimal_from l.word (length l.word - l.c-index) l.value l.c-index ≡ decimal_from l.word (length l.word) 0 0
