-- `listing::put_marks` meets its contract. The loop's invariant: a text with the lines of the pairs that are left behind what is there
-- by now has the lines of all pairs behind what was there. The pairs are the numbers two by two.
use Prim.Native.Nat.{ℕ, suc, ◌+◌, ◌/◌, ◌≤◌, ◌<◌}
use mathlib.Core.List.{List, [], ◌∷◌, ◌++◌}
use mathlib.Core.Path.{◌≡◌, refl}
use native.Mathlib.Numerals.{add-one}
use native.Mathlib.Omega.{arith}
use lib.IntN.{ℤ, pos}
use lib.ListN.{length, get_or, drop, drop_of_length-le}
use lib.Seq.{drop-cons}
use mir.Facts.{to_z-of_z}
use mir.Syntax.{w32}
use mir.Val.{SFits}
use borrow.Author.Rules.{rules}
use Rattle.std.specs.Simd.{first_chunks}
use Rattle.texts.proofs.Behind.{puts_nothing, puts_then}
use Rattle.listing.specs.Listing.{mark_line, mark_lines}
use Rattle.listing.proofs.put_marks.Invariants.{pair_lines}
use Rattle.listing.proofs.put_marks.Goals as goal

by_pairs : (marks : List ℤ) → pair_lines (first_chunks 2 (length marks / 2) marks) ≡ mark_lines marks
unfolding mark_lines
by_pairs [] = refl
by_pairs (n ∷ []) = refl
by_pairs (routine ∷ n ∷ marks) =
    let two : length (routine ∷ n ∷ marks) / 2 ≡ suc (length marks / 2) = omega arith in
    rw (two, by_pairs marks)

module _ (pairs : List (List ℤ)) (i : ℕ) where
  next :
      i < length pairs →
      pair_lines (drop i pairs)
      ≡ mark_line (get_or (get_or pairs i []) 0 (pos 0)) (get_or (get_or pairs i []) 1 (pos 0)) ++ pair_lines (drop (i + 1) pairs)
  next h = rw (drop-cons pairs i [] h, add-one i)

  none : length pairs ≤ i → pair_lines (drop i pairs) ≡ []
  none h = rw (drop_of_length-le pairs {i = i} h)

pub loop-routine-preserved : goal.loop-routine-preserved
loop-routine-preserved c =
    let l = c.loop-routine in
    let pairs = c.as_chunks.result.0.now in
    let one : SFits w32 (get_or (get_or pairs l.routine-index []) 0 (pos 0)) = search rules in
    let two : SFits w32 (get_or (get_or pairs l.routine-index []) 1 (pos 0)) = search rules in
    let line = rw (to_z-of_z one, to_z-of_z two) at c.put_mark.ensures in
    λ after rest. l.invariant after (rw (next pairs l.routine-index c.loop-routine-test.true) (puts_then line rest))

pub returns : goal.returns
returns c =
    let l = c.loop-routine in
    let pairs = c.as_chunks.result.0.now in
    let all : pair_lines pairs ≡ mark_lines c.args.marks.now = rw c.as_chunks.ensures.front (by_pairs c.args.marks.now) in
    rw all at (l.invariant l.text (rw (none pairs l.routine-index c.loop-routine-test.false) (puts_nothing l.text)))
