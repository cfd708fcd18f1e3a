-- `play_listing::list_round` meets its contract: the answer of the call is the definition's, which has no more marks than the buffer has
-- room for.
use Prim.Native.Nat.{ℕ, ◌≤◌}
use mathlib.Core.List.{List}
use mathlib.Core.Path.{◌≡◌, refl}
use native.Mathlib.Omega.{arith}
use lib.ListN.{length-take}
use Rattle.layout.specs.Layout.{most_steps}
use Rattle.game.specs.declared.Game.{Game}
use Rattle.round.specs.Answers.{Answer, answer}
use Rattle.play_listing.specs.Printed.{mark_buffer}
use Rattle.play_listing.proofs.Few.{marks_few}
use Rattle.play_listing.proofs.list_round.Goals as goal

-- an answer that is the definition's has few marks
few : (book : List ℕ) (g : Game) (a : Answer) → a ≡ answer book g mark_buffer → a.marks ≤ most_steps
few book g a e = rw e (marks_few book g mark_buffer)

pub overflow_mul-end : goal.overflow_mul-end
overflow_mul-end c = let f = few _ _ _ c.play-played.ensures.marks_after in record { fits = omega arith }

pub slice_bounds-marks-end : goal.slice_bounds-marks-end
slice_bounds-marks-end c = let f = few _ _ _ c.play-played.ensures.marks_after in omega arith

pub slice_bounds-put_round-end : goal.slice_bounds-put_round-end
slice_bounds-put_round-end c = let f = few _ _ _ c.play-played.ensures.marks_after in simp length-take (omega arith)

pub returns : goal.returns
returns c =
    let p = c.play-played.ensures.marks_after in
    rw (← p) (refl, c.put_round.ensures)
