-- A routine has one parse, so what is left of it does not depend on the proof that its book is accepted.
-- By induction over two parses from places that are equal: where their constructors differ, so do the forms that stand at a step's first
-- place, or where its first block ends. The depths that they nest in need not be equal.
use Prim.Native.Nat.{ℕ, ◌<◌}
use mathlib.Core.Path.{◌≡◌, refl}
use mathlib.Core.List.{List}
use mathlib.Core.Logic.{dite}
use native.Mathlib.Decide.{dec_lt}
use native.Mathlib.Omega.{arith}
use Rattle.std.specs.Prelude.{Option}
use Rattle.numbers.proofs.Tests.{clash}
use Rattle.kinds.specs.declared.Kind.{Kind}
use Rattle.kinds.specs.Steps.{step_at}
use Rattle.blocks.specs.Blocks.{View}
use Rattle.blocks.specs.Parse.{ParsedBlock, empty, more, ParsedStep, plain, pausing, if_only, if_else, loop}
use Rattle.blocks.proofs.Views.{Stops, view_beyond}
use Rattle.layout.specs.Layout.{routines_of, counts_of}
use Rattle.directory.specs.Directory.{step_count, routine_steps}
use Rattle.book.specs.Book.{view_of}
use Rattle.book.specs.Accepted.{Accepted}
use Rattle.game.specs.declared.Game.{Game}
use Rattle.game.specs.Game.{routine_at}
use Rattle.round.specs.declared.Position.{Position}
use Rattle.round.specs.Actions.{position_of}
use Rattle.rules.specs.Instructions.{Instruction, nothing}
use Rattle.rules.specs.Residual.{of_block, of_step, left_of_block, left_of_step, residual}
use Rattle.rules.specs.Claims.{threads_of}
use Rattle.rules.proofs.Naming.{given}

-- what a parse comes to, as one value: the place behind it, the whole of it, and what is left of it at a position
data Reading : Type 0 where
  reads : ℕ → Instruction → Instruction → Reading

module _ {at : ℕ → View} where
  -- no step begins where a block stops
  no_step : {d p e : ℕ} → ParsedStep at d p e → {q : ℕ} → Stops (at q) → q ≡ p → ⊥
  no_step (plain h) t e = clash (rw (e, h) at t) refl
  no_step (pausing h) t e = clash (rw (e, h) at t) refl
  no_step (if_only h b k) t e = clash (rw (e, h) at t) refl
  no_step (if_else h b k c j) t e = clash (rw (e, h) at t) refl
  no_step (loop h b k) t e = clash (rw (e, h) at t) refl

module _ (r : ℕ) (step_of : ℕ → Option Kind) {at : ℕ → View} (x : Position) where
  abbrev block_reading : {d p e : ℕ} → ParsedBlock at d p e → Reading
  block_reading {e = e} b = reads e (of_block r step_of b) (left_of_block r step_of b x)

  abbrev step_reading : {d p e : ℕ} → ParsedStep at d p e → Reading
  step_reading {e = e} a = reads e (of_step r step_of a) (left_of_step r step_of a x)

  mutual
    same_block :
        {d f p q e o : ℕ} (b : ParsedBlock at d p e) (c : ParsedBlock at f q o) →
        p ≡ q → Stops (at e) → Stops (at o) → block_reading b ≡ block_reading c
    same_block empty empty l s t = cc
    same_block empty (more a c) l s t = absurd (no_step a s l)
    same_block (more a b) empty l s t = absurd (no_step a t (cc))
    same_block (more a b) (more a' c) l s t = given (same_step a a' l) (λ h. given (same_block b c (cc) s t) (λ g. cc))

    same_step : {d f p q e o : ℕ} (a : ParsedStep at d p e) (c : ParsedStep at f q o) → p ≡ q → step_reading a ≡ step_reading c
    same_step (plain h) (plain h') l = cc
    same_step (plain h) (pausing h') l = cc
    same_step (plain h) (if_only h' b' k') l = cc
    same_step (plain h) (if_else h' b' k' c' j') l = cc
    same_step (plain h) (loop h' b' k') l = cc
    same_step (pausing h) (plain h') l = cc
    same_step (pausing h) (pausing h') l = cc
    same_step (pausing h) (if_only h' b' k') l = cc
    same_step (pausing h) (if_else h' b' k' c' j') l = cc
    same_step (pausing h) (loop h' b' k') l = cc
    same_step (if_only h b k) (plain h') l = cc
    same_step (if_only h b k) (pausing h') l = cc
    same_step (if_only h b k) (if_only h' b' k') l = given (same_block b b' (cc) (rw k) (rw k')) (λ g. cc)
    same_step (if_only h b k) (if_else h' b' k' c' j') l = given (same_block b b' (cc) (rw k) (rw k')) (λ g. cc)
    same_step (if_only h b k) (loop h' b' k') l = cc
    same_step (if_else h b k c j) (plain h') l = cc
    same_step (if_else h b k c j) (pausing h') l = cc
    same_step (if_else h b k c j) (if_only h' b' k') l = given (same_block b b' (cc) (rw k) (rw k')) (λ g. cc)
    same_step (if_else h b k c j) (if_else h' b' k' c' j') l =
        given (same_block b b' (cc) (rw k) (rw k')) (λ g. given (same_block c c' (cc) (rw j) (rw j')) (λ i. cc))
    same_step (if_else h b k c j) (loop h' b' k') l = cc
    same_step (loop h b k) (plain h') l = cc
    same_step (loop h b k) (pausing h') l = cc
    same_step (loop h b k) (if_only h' b' k') l = cc
    same_step (loop h b k) (if_else h' b' k' c' j') l = cc
    same_step (loop h b k) (loop h' b' k') l = given (same_block b b' (cc) (rw k) (rw k')) (λ g. cc)

-- a routine's parses stop behind its last step
pub residual_same :
    (book : List ℕ) (a c : Accepted book) (r : ℕ) (h k : r < routines_of book) (x : Position) →
    residual book a r h x ≡ residual book c r k x
residual_same book a c r h k x =
    let n = step_count book r in
    let t : Stops (view_of book r n) = rw (view_beyond _ _ n n (omega arith)) tt in
    given (same_block r (step_at (counts_of book) (routine_steps book r)) x (a.nesting r h) (c.nesting r k) refl t t) (λ g. cc)

pub threads_same : (book : List ℕ) (a c : Accepted book) (g : Game) → threads_of book a g ≡ threads_of book c g
threads_same book a c g =
    λ i r.
    dite (dec_lt r (routines_of book)) (λ h. residual_same book a c r h h (position_of (routine_at g r)) i) (λ n. nothing)
