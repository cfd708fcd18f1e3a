-- What is left of a block and of a step at a place of it: each equation answers the tests that Residual's definitions make of the place.
-- At its first place a block or a step is whole, and at its end a block has nothing left.
use Prim.Native.Nat.{ℕ, suc, ◌≤◌, ◌<◌}
use mathlib.Core.Path.{◌≡◌, refl, ap, ◌∙◌}
use native.Mathlib.Omega.{arith}
use borrow.Author.Tests.{lt-ltb, le-ltb, eq-eqb, ne_eqb}
use Rattle.std.specs.Prelude.{Option}
use Rattle.kinds.specs.declared.Kind.{Kind}
use Rattle.forms.specs.declared.Form.TheVariants.{IfOpening, ElseMarker, WhileOpening, EndMarker}
use Rattle.blocks.specs.Blocks.{View, stands}
use Rattle.blocks.specs.Parse.{ParsedBlock, empty, more, ParsedStep, plain, pausing, if_only, if_else, loop}
use Rattle.blocks.proofs.Parses.{block_goes, step_goes}
use Rattle.round.specs.declared.Position.{Position}
use Rattle.round.specs.Ticks.{fresh}
use Rattle.rules.specs.Instructions.{Instruction, nothing, ◌then◌, while, while_inst}
use Rattle.rules.specs.Instructions as paper
use Rattle.rules.specs.Residual.{test_of, of_block, of_step, left_of_block, left_of_step}

module _ (r : ℕ) (step_of : ℕ → Option Kind) {at : ℕ → View} where
  -- at its start the whole of it is left
  mutual
    pub block_start : {d p e : ℕ} (b : ParsedBlock at d p e) → left_of_block r step_of b (fresh p) ≡ of_block r step_of b
    block_start empty = refl
    block_start (more {p = p} {q = q} a b) =
        rw (lt-ltb p q (step_goes at 0 a)) (ap (λ (i : Instruction). i then of_block r step_of b) (step_start a))

    step_start : {d p e : ℕ} (a : ParsedStep at d p e) → left_of_step r step_of a (fresh p) ≡ of_step r step_of a
    step_start (plain h) = refl
    step_start (pausing h) = refl
    step_start (if_only {p = p} h b k) = rw (eq-eqb p p refl)
    step_start (if_else {p = p} h b k c j) = rw (eq-eqb p p refl)
    step_start (loop {p = p} h b k) = rw (eq-eqb p p refl)

  -- in a block's first step, and behind it
  module _ {d p q e : ℕ} (a : ParsedStep at d p q) (b : ParsedBlock at d q e) (x : Position) where
    pub more_first : x.place < q → left_of_block r step_of (more a b) x ≡ (left_of_step r step_of a x then of_block r step_of b)
    more_first l = rw (lt-ltb x.place q l)

    pub more_behind : q ≤ x.place → left_of_block r step_of (more a b) x ≡ left_of_block r step_of b x
    more_behind l = rw (le-ltb x.place q l)

  pub block_end : {d p e : ℕ} (b : ParsedBlock at d p e) (x : Position) → x.place ≡ e → left_of_block r step_of b x ≡ nothing
  block_end empty x l = refl
  block_end (more a b) x l = more_behind a b x (omega (arith, block_goes at 0 b)) ∙ block_end b x l

  -- at an opening, and in a block behind it
  module _ {d p q : ℕ} (o : at p ≡ stands IfOpening) (b : ParsedBlock at d (suc p) q) (k : at q ≡ stands EndMarker) (x : Position) where
    pub only_at : x.place ≡ p → left_of_step r step_of (if_only o b k) x ≡ paper.if_else (test_of (step_of p)) (of_block r step_of b) nothing
    only_at l = rw (eq-eqb x.place p l)

    pub only_in : p < x.place → left_of_step r step_of (if_only o b k) x ≡ left_of_block r step_of b x
    only_in l = rw (ne_eqb x.place p (λ e. omega arith))

  module _ {d p q : ℕ} (o : at p ≡ stands WhileOpening) (b : ParsedBlock at d (suc p) q) (k : at q ≡ stands EndMarker) (x : Position) where
    pub loop_at : x.place ≡ p → left_of_step r step_of (loop o b k) x ≡ while (test_of (step_of p)) (of_block r step_of b)
    loop_at l = rw (eq-eqb x.place p l)

    pub loop_in :
        p < x.place →
        left_of_step r step_of (loop o b k) x ≡ while_inst (test_of (step_of p)) (left_of_block r step_of b x) (of_block r step_of b)
    loop_in l = rw (ne_eqb x.place p (λ e. omega arith))

  module _
      {d p q e : ℕ} (o : at p ≡ stands IfOpening) (b : ParsedBlock at d (suc p) q) (k : at q ≡ stands ElseMarker)
      (c : ParsedBlock at d (suc q) e) (j : at e ≡ stands EndMarker) (x : Position)
    where
      pub both_at :
          x.place ≡ p →
          left_of_step r step_of (if_else o b k c j) x ≡ paper.if_else (test_of (step_of p)) (of_block r step_of b) (of_block r step_of c)
      both_at l = rw (eq-eqb x.place p l)

      pub both_first : p < x.place → x.place ≤ q → left_of_step r step_of (if_else o b k c j) x ≡ left_of_block r step_of b x
      both_first l m = rw (ne_eqb x.place p (λ e. omega arith), le-ltb q x.place m)

      pub both_second : q < x.place → left_of_step r step_of (if_else o b k c j) x ≡ left_of_block r step_of c x
      both_second l = rw (ne_eqb x.place p (λ e. omega (arith, block_goes at 0 b)), lt-ltb q x.place l)
