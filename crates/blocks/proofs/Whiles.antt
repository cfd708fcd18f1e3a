-- What the lowest while told of a parse says: those below it pause and it doesn't, no other place is such, and n is told if all pause.
-- What holds of each while holds of one that doesn't pause: so neither of two such places can lie below the other.
use Prim.Native.Nat.{ℕ, suc, ◌≤◌, ◌<◌, min, max}
use mathlib.Core.Path.{◌≡◌, refl}
use mathlib.Core.Bool.{Bool, true, false}
use mathlib.Core.Logic.{◌⊎◌, inl, inr}
use native.Mathlib.Decide.{dec_le, dec_lt}
use native.Mathlib.Omega.{arith}
use Rattle.std.specs.Prelude.{if◌then◌else◌}
use Rattle.numbers.proofs.Tests.{clash}
use Rattle.blocks.specs.Blocks.{View}
use Rattle.blocks.specs.Parse.{ParsedBlock, ParsedStep, empty, more, plain, pausing, if_only, if_else, loop, block_pauses}
use Rattle.blocks.specs.Parse.{EachWhile, EachWhileOf, SomeWhile, SomeWhileOf, WhilesPause}
use Rattle.blocks.proofs.Parses.{lowest, lowest_of, block_goes, step_goes}

abbrev PausesBelow : ℕ → ℕ → Bool → Type 0
PausesBelow x p pauses = p < x → pauses ≡ true

abbrev EndlessAt : ℕ → ℕ → Bool → Type 0
EndlessAt x p pauses = (p ≡ x) × (pauses ≡ false)

-- the lower of two, and the lowest of a while
lower_at : (k l : ℕ) {x : ℕ} {S T : Type 0} → min k l ≡ x → (k ≡ x → S) → (l ≡ x → T) → S ⊎ T
lower_at k l h f g = elim (dec_le k l) [ yes i ↦ inl (f (omega arith)) | no i ↦ inr (g (omega arith)) ]

while_at : (u : Bool) (l p : ℕ) {x : ℕ} {S : Type 0} → (if u then l else p) ≡ x → (l ≡ x → S) → EndlessAt x p u ⊎ S
while_at true l p h f = inr (f h)
while_at false l p h f = inl (h, refl)

while_behind : (u : Bool) (l p x : ℕ) → x ≤ max p (if u then l else p) → x ≤ max (suc p) l
while_behind true l p x h = omega arith
while_behind false l p x h = omega arith

module _ (at : ℕ → View) where
  -- x is the lowest while whose body doesn't pause
  abbrev pub LowestAt : {d p e : ℕ} → ParsedBlock at d p e → ℕ → Type 0
  LowestAt b x = EachWhile at (PausesBelow x) b × SomeWhile at (EndlessAt x) b

  -- what holds of each while holds of one that doesn't pause
  module _ (P : ℕ → Bool → Type 0) (x : ℕ) where
    mutual
      each_some : {d p e : ℕ} (b : ParsedBlock at d p e) → EachWhile at P b → SomeWhile at (EndlessAt x) b → P x false
      each_some empty w v = absurd v
      each_some (more s b) w (inl v) = each_some_of s w.0 v
      each_some (more s b) w (inr v) = each_some b w.1 v

      each_some_of : {d p e : ℕ} (s : ParsedStep at d p e) → EachWhileOf at P s → SomeWhileOf at (EndlessAt x) s → P x false
      each_some_of (plain h) w v = absurd v
      each_some_of (pausing h) w v = absurd v
      each_some_of (if_only h b k) w v = each_some b w v
      each_some_of (if_else h b k c j) w (inl v) = each_some b w.0 v
      each_some_of (if_else h b k c j) w (inr v) = each_some c w.1 v
      each_some_of (loop h b k) w (inl v) = rw (v.1, v.0) at w.0
      each_some_of (loop h b k) w (inr v) = each_some b w.1 v

  module _ (n : ℕ) where
    -- P holds of the whiles that pause and of those at place x or behind: so of each while of a block that begins at x or behind,
    -- or whose lowest while without a pause lies there
    module _
        (P : ℕ → Bool → Type 0) (x : ℕ) (pauses : (p : ℕ) → p < n → P p true) (behind : (p : ℕ) → x ≤ p → p < n → P p false) where
      while_holds : (u : Bool) (l p : ℕ) → p < n → x ≤ max p (if u then l else p) → P p u
      while_holds true l p h i = pauses p h
      while_holds false l p h i = behind p (omega arith) h

      mutual
        each_while : {d p e : ℕ} (b : ParsedBlock at d p e) → e ≤ n → x ≤ max p (lowest at n b) → EachWhile at P b
        each_while empty h i = tt
        each_while (more s b) h i =
            (each_while_of s (omega (arith, block_goes at n b)) (omega arith), each_while b h (omega (arith, step_goes at n s)))

        each_while_of : {d p e : ℕ} (s : ParsedStep at d p e) → e ≤ n → x ≤ max p (lowest_of at n s) → EachWhileOf at P s
        each_while_of (plain o) h i = tt
        each_while_of (pausing o) h i = tt
        each_while_of (if_only o b k) h i = each_while b (omega arith) (omega arith)
        each_while_of (if_else o b k c j) h i =
            (each_while b (omega (arith, block_goes at n c)) (omega arith), each_while c (omega arith) (omega (arith, block_goes at n b)))
        each_while_of (loop {p = p} o b k) h i =
            let l = lowest at n b in (
              while_holds (block_pauses at b) l p (omega (arith, block_goes at n b)) i,
              each_while b (omega arith) (while_behind (block_pauses at b) l p x i),
            )

    module _ (x : ℕ) (below : x < n) where
      mutual
        some_while : {d p e : ℕ} (b : ParsedBlock at d p e) → lowest at n b ≡ x → SomeWhile at (EndlessAt x) b
        some_while empty h = absurd (omega arith)
        some_while (more s b) h = lower_at (lowest_of at n s) (lowest at n b) h (λ i. some_while_of s i) (λ i. some_while b i)

        some_while_of : {d p e : ℕ} (s : ParsedStep at d p e) → lowest_of at n s ≡ x → SomeWhileOf at (EndlessAt x) s
        some_while_of (plain o) h = absurd (omega arith)
        some_while_of (pausing o) h = absurd (omega arith)
        some_while_of (if_only o b k) h = some_while b h
        some_while_of (if_else o b k c j) h = lower_at (lowest at n b) (lowest at n c) h (λ i. some_while b i) (λ i. some_while c i)
        some_while_of (loop {p = p} o b k) h = while_at (block_pauses at b) (lowest at n b) p h (λ i. some_while b i)

    -- a block up to the routine's end
    module _ {d p : ℕ} (b : ParsedBlock at d p n) where
      pauses_below : (x : ℕ) → x ≤ lowest at n b → EachWhile at (PausesBelow x) b
      pauses_below x h = each_while (PausesBelow x) x (λ p i k. refl) (λ p i j k. absurd (omega arith)) b (omega arith) (omega arith)

      pub lowest_none : n ≤ lowest at n b → WhilesPause at b
      lowest_none h = each_while (λ p u. u ≡ true) n (λ p i. refl) (λ p i j. absurd (omega arith)) b (omega arith) (omega arith)

      pub pausing_lowest : WhilesPause at b → n ≤ lowest at n b
      pausing_lowest w = elim (dec_lt (lowest at n b) n) [
        | yes l ↦ clash (each_some (λ p u. u ≡ true) (lowest at n b) b w (some_while (lowest at n b) l b refl)) refl
        | no l ↦ omega arith
      ]

      pub lowest_at : lowest at n b < n → LowestAt b (lowest at n b)
      lowest_at l = (pauses_below (lowest at n b) (omega arith), some_while (lowest at n b) l b refl)

      pub lowest_within : (x : ℕ) → LowestAt b x → x < n
      lowest_within x v =
          let within = each_while (λ p u. p < n) 0 (λ p i. i) (λ p i j. j) b (omega arith) (omega arith) in
          each_some (λ p u. p < n) x b within v.1

      not_below : (x y : ℕ) → EachWhile at (PausesBelow x) b → SomeWhile at (EndlessAt y) b → y < x → ⊥
      not_below x y w v l = clash (each_some (PausesBelow x) y b w v l) refl

      pub lowest_is : (x : ℕ) → LowestAt b x → lowest at n b ≡ x
      lowest_is x v =
          let up = not_below (lowest at n b) x (pauses_below (lowest at n b) (omega arith)) v.1 in
          let own = lowest_at (omega (arith, lowest_within x v)) in
          let down = not_below x (lowest at n b) v.0 own.1 in
          omega arith
