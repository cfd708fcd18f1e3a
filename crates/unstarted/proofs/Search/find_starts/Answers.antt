-- `Search::find_starts` meets its contract: each turn of the loop takes the first step out of those that are left.
use Prim.Native.Nat.{ℕ, zero, suc, ◌+◌, ◌*◌, ◌<◌}
use mathlib.Core.Path.{◌≡◌, refl, sym, ◌∙◌}
use mathlib.Core.List.{List, ◌++◌}
use native.Mathlib.Omega.{arith}
use borrow.Author.Tests.{eq-eqb, ne_eqb}
use lib.ListN.{length, get_or, get_or-append, length-append}
use Rattle.std.proofs.lemmas.List.{get_or-append-add}
use Rattle.kinds.specs.Steps.{steps_in}
use Rattle.unstarted.specs.Unstarted.{Search, with_step, with_steps}
use Rattle.unstarted.specs.Seen.{seen}
use Rattle.unstarted.proofs.Search.find_starts.Goals as goal

-- a step before others
module _ (step rest : List ℕ) (size : length step ≡ 8) where
  later : (i j : ℕ) → j ≡ 8 + i → get_or (step ++ rest) j 0 ≡ get_or rest i 0
  later i j e = rw (e, ← size) (get_or-append-add step rest i 0)

  one_more : steps_in (step ++ rest) ≡ suc (steps_in rest)
  one_more = omega (arith, length-append {A = ℕ})

  passed : (n p : ℕ) (f : Search) → with_steps n (step ++ rest) (p + 1) f ≡ with_steps n rest p f
  unfolding with_steps
  passed zero p f = refl
  passed (suc n) p f =
      rw (later (p * 8) ((p + 1) * 8) (omega arith), later (p * 8 + 1) ((p + 1) * 8 + 1) (omega arith))
      (passed n (p + 1) (with_step rest p f))

  first : (f : Search) → with_step (step ++ rest) 0 f ≡ with_step step 0 f
  first f = rw (get_or-append step rest 0 0 (omega arith), get_or-append step rest 0 1 (omega arith))

  taken :
      (f next : Search) (steps : List ℕ) → steps ≡ step ++ rest → next ≡ with_step step 0 f →
      with_steps (steps_in rest) rest 0 next ≡ with_steps (steps_in steps) steps 0 f
  unfolding with_steps
  taken f next steps d e = rw (d, one_more, e, ← (first f)) (sym (passed (steps_in rest) 0 (with_step (step ++ rest) 0 f)))

none_left : (rest : List ℕ) (f : Search) → length rest < 8 → with_steps (steps_in rest) rest 0 f ≡ f
unfolding with_steps
none_left rest f l = let e : steps_in rest ≡ 0 = omega arith in rw e

pub loop-step-preserved : goal.loop-step-preserved
loop-step-preserved c =
    let l = c.loop-step in
    let next = c.in-Some.ensures.steps in
    record {
      left =
          taken c.in-Some.step.now c.next.new.self.rest.now (next.1.1 ∙ l.invariant.size) (seen l.self) _ _ next.1.0
          (rw (ne_eqb _ _ c.if-step-eq-OP_START.false)) ∙ l.invariant.left;
      size = next.0 ∙ l.invariant.size;
    }

pub loop-step-preserved-then-step-eq-OP_START : goal.loop-step-preserved-then-step-eq-OP_START
loop-step-preserved-then-step-eq-OP_START c =
    let l = c.loop-step in
    let next = c.in-Some.ensures.steps in
    record {
      left =
          taken c.in-Some.step.now c.next.new.self.rest.now (next.1.1 ∙ l.invariant.size) (seen l.self) (seen c.find.new.self) _ next.1.0
          (rw (eq-eqb _ _ c.if-step-eq-OP_START.true) c.find.ensures) ∙ l.invariant.left;
      size = next.0 ∙ l.invariant.size;
    }

pub returns : goal.returns
returns c =
    let l = c.loop-step in
    sym (none_left l.step-iterator.rest.now (seen l.self) (omega (arith, c.in-None.ensures.steps.1, l.invariant.size))) ∙ l.invariant.left
