-- `words::place_in` meets its contract. The loop's invariant: the search among the names that are left finds what the whole search does,
-- and each name that was passed had a byte at least, its space or its end. The measure is the bytes left.
use Prim.Native.Nat.{◌+◌, ◌-◌, ◌≤◌}
use mathlib.Core.Path.{◌≡◌}
use lib.ListN.{length}
use Rattle.words.specs.Words.{place_from, place_of}
use Rattle.words.proofs.place_in.Given as goal

abbrev pub invariant-loop-left : goal.invariant-loop-left
invariant-loop-left l =
    (place_from l.left l.word (length l.names - l.count) l.count ≡ place_of l.names l.word) × (l.count + length l.left ≤ length l.names)

abbrev pub decreases-loop-left : goal.decreases-loop-left
decreases-loop-left l = length l.left
