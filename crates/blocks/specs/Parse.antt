-- How a routine nests, said as a parse over its places. Document 01: "A block is a run of steps, and a step may hold blocks".
use Rattle.std.specs.Prelude.{ℕ, suc, ◌<◌, ◌≡◌, Bool, true, false, ◌&&◌, ◌||◌, List, [], ◌∷◌, ◌⊎◌, length}
use Rattle.forms.specs.declared.Form.TheVariants.{Plain, Pausing, IfOpening, ElseMarker, WhileOpening, EndMarker}
use Rattle.blocks.specs.Blocks.{View, beyond, stands, deepest}

module _ (at : ℕ → View) where
  mutual
    -- the steps from place p up to place e, in which blocks nest at most d deep
    pub data ParsedBlock : ℕ → ℕ → ℕ → Type 0 where
      empty : {d p : ℕ} → ParsedBlock d p p
      more : {d p q e : ℕ} → ParsedStep d p q → ParsedBlock d q e → ParsedBlock d p e

    -- the step at place p with the blocks that it holds, up to place e
    pub data ParsedStep : ℕ → ℕ → ℕ → Type 0 where
      plain : {d p : ℕ} → at p ≡ stands Plain → ParsedStep d p (suc p)
      pausing : {d p : ℕ} → at p ≡ stands Pausing → ParsedStep d p (suc p)
      if_only : {d p q : ℕ} → at p ≡ stands IfOpening → ParsedBlock d (suc p) q → at q ≡ stands EndMarker → ParsedStep (suc d) p (suc q)
      if_else :
          {d p q r : ℕ} →
          at p ≡ stands IfOpening → ParsedBlock d (suc p) q → at q ≡ stands ElseMarker → ParsedBlock d (suc q) r → at r ≡ stands EndMarker →
          ParsedStep (suc d) p (suc r)
      loop : {d p q : ℕ} → at p ≡ stands WhileOpening → ParsedBlock d (suc p) q → at q ≡ stands EndMarker → ParsedStep (suc d) p (suc q)

  -- "A block pauses if one of its steps does. .. an if does if it has both blocks and both pause. Nothing else pauses, a while included."
  abbrev mutual
    pub block_pauses : {d p e : ℕ} → ParsedBlock d p e → Bool
    block_pauses empty = false
    block_pauses (more s b) = step_pauses s || block_pauses b

    pub step_pauses : {d p e : ℕ} → ParsedStep d p e → Bool
    step_pauses (plain h) = false
    step_pauses (pausing h) = true
    step_pauses (if_only h b k) = false
    step_pauses (if_else h b k c j) = block_pauses b && block_pauses c
    step_pauses (loop h b k) = false

  -- P holds of each while of a block: of its place, and of whether its body pauses
  module _ (P : ℕ → Bool → Type 0) where
    abbrev mutual
      pub EachWhile : {d p e : ℕ} → ParsedBlock d p e → Type 0
      EachWhile empty = Unit {0}
      EachWhile (more s b) = EachWhileOf s × EachWhile b

      pub EachWhileOf : {d p e : ℕ} → ParsedStep d p e → Type 0
      EachWhileOf (plain h) = Unit {0}
      EachWhileOf (pausing h) = Unit {0}
      EachWhileOf (if_only h b k) = EachWhile b
      EachWhileOf (if_else h b k c j) = EachWhile b × EachWhile c
      EachWhileOf (loop {p = p} h b k) = P p (block_pauses b) × EachWhile b

    -- P holds of some while of a block
    abbrev mutual
      pub SomeWhile : {d p e : ℕ} → ParsedBlock d p e → Type 0
      SomeWhile empty = ⊥
      SomeWhile (more s b) = SomeWhileOf s ⊎ SomeWhile b

      pub SomeWhileOf : {d p e : ℕ} → ParsedStep d p e → Type 0
      SomeWhileOf (plain h) = ⊥
      SomeWhileOf (pausing h) = ⊥
      SomeWhileOf (if_only h b k) = SomeWhile b
      SomeWhileOf (if_else h b k c j) = SomeWhile b ⊎ SomeWhile c
      SomeWhileOf (loop {p = p} h b k) = P p (block_pauses b) ⊎ SomeWhile b

  -- "The body of each while must pause."
  abbrev pub WhilesPause : {d p e : ℕ} → ParsedBlock d p e → Type 0
  WhilesPause b = EachWhile (λ p pauses. pauses ≡ true) b

-- A routine read in order, a step at a time: what 6 means by "the step reached in reading order".
-- An opening that is not closed yet, with its place: an if, an if whose else is past, a while.
pub data Open : Type 0 where
  open_if open_else open_while : ℕ → Open

abbrev pub opening_of : Open → ℕ
opening_of (open_if p) = p
opening_of (open_else p) = p
opening_of (open_while p) = p

module _ (at : ℕ → View) where
  -- the steps before place p are read, and these openings are still open, innermost first
  pub data Reached : List Open → ℕ → Type 0 where
    start : Reached [] 0
    plain : {os : List Open} {p : ℕ} → Reached os p → at p ≡ stands Plain → Reached os (suc p)
    pausing : {os : List Open} {p : ℕ} → Reached os p → at p ≡ stands Pausing → Reached os (suc p)
    if : {os : List Open} {p : ℕ} → Reached os p → at p ≡ stands IfOpening → length os < deepest → Reached (open_if p ∷ os) (suc p)
    else : {os : List Open} {p q : ℕ} → Reached (open_if q ∷ os) p → at p ≡ stands ElseMarker → Reached (open_else q ∷ os) (suc p)
    while : {os : List Open} {p : ℕ} → Reached os p → at p ≡ stands WhileOpening → length os < deepest → Reached (open_while p ∷ os) (suc p)
    end : {o : Open} {os : List Open} {p : ℕ} → Reached (o ∷ os) p → at p ≡ stands EndMarker → Reached os (suc p)

  -- "a marker without its opening, a second else, an else in a while, depth 17, or an opening never closed",
  -- "for an unclosed opening, the innermost one open at the routine's end"
  pub data Misplaced : ℕ → Type 0 where
    else_alone : {p : ℕ} → Reached [] p → at p ≡ stands ElseMarker → Misplaced p
    end_alone : {p : ℕ} → Reached [] p → at p ≡ stands EndMarker → Misplaced p
    second_else : {os : List Open} {p q : ℕ} → Reached (open_else q ∷ os) p → at p ≡ stands ElseMarker → Misplaced p
    else_in_while : {os : List Open} {p q : ℕ} → Reached (open_while q ∷ os) p → at p ≡ stands ElseMarker → Misplaced p
    too_deep_if : {os : List Open} {p : ℕ} → Reached os p → at p ≡ stands IfOpening → length os ≡ deepest → Misplaced p
    too_deep_while : {os : List Open} {p : ℕ} → Reached os p → at p ≡ stands WhileOpening → length os ≡ deepest → Misplaced p
    unclosed : {o : Open} {os : List Open} {p : ℕ} → Reached (o ∷ os) p → at p ≡ beyond → Misplaced (opening_of o)
