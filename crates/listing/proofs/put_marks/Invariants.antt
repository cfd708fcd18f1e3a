-- `listing::put_marks` meets its contract. The loop's invariant: a text with the lines of the pairs that are left behind what is there
-- by now has the lines of all pairs behind what was there.
use mathlib.Core.List.{List, [], ◌∷◌, ◌++◌}
use lib.IntN.{ℤ, pos}
use lib.ListN.{get_or, drop}
use Prim.Native.Nat.{ℕ}
use Rattle.texts.specs.declared.Text.{Text}
use Rattle.texts.specs.Held.{Puts}
use Rattle.listing.specs.Listing.{mark_line}
use Rattle.listing.proofs.put_marks.Given as goal

-- the lines of marks that are pairs of numbers
abbrev pub pair_lines : List (List ℤ) → List ℕ
pair_lines [] = []
pair_lines (pair ∷ pairs) = mark_line (get_or pair 0 (pos 0)) (get_or pair 1 (pos 0)) ++ pair_lines pairs

abbrev pub invariant-loop-routine : goal.invariant-loop-routine
invariant-loop-routine l =
    (after : Text) → Puts l.text (pair_lines (drop l.routine-index l.pairs)) after → Puts l.initial.text (pair_lines l.pairs) after
