-- Slots of an array, filled from a function one behind another: at first all hold the default, each turn fills the next slot, and at the
-- end as many are filled as were asked for.
use Prim.Native.Nat.{ℕ, zero, suc, ◌+◌, ◌≤◌}
use mathlib.Core.Path.{◌≡◌, refl, sym, ◌∙◌}
use mathlib.Core.List.{List}
use mathlib.Core.Logic.{◌≢◌}
use native.Mathlib.Omega.{arith}
use native.Mathlib.Decide.{dec_lt}
use borrow.Author.Tests.{lt-ltb, le-ltb}
use lib.Dec.{ltb}
use lib.ListN.{set, replicate}
use Rattle.std.specs.Prelude.{if◌then◌else◌}
use Rattle.numbers.specs.Counting.{list_below}
use Rattle.numbers.proofs.Lists.{values_same, below_set}
use Rattle.stored_games.specs.Reading.{in_slots}

module _ {A : Type 0} where
  below_default : (m : ℕ) (d : A) → list_below m (λ _. d) ≡ replicate m d
  unfolding list_below
  below_default zero d = refl
  below_default (suc m) d = rw (below_default m d)

  module _ (m : ℕ) (f : ℕ → A) (d : A) where
    -- what stands in slot i where n are filled
    abbrev slot : ℕ → ℕ → A
    slot n i = if ltb i n then f i else d

    slot_other : (n i : ℕ) → i ≢ n → slot (n + 1) i ≡ slot n i
    slot_other n i ne =
        elim (dec_lt i n) [
          | yes h ↦ rw (lt-ltb i n h, lt-ltb i (n + 1) (omega arith))
          | no l ↦ rw (le-ltb i n (omega arith), le-ltb i (n + 1) (omega arith))
        ]

    pub slots_none : replicate m d ≡ in_slots m 0 f d
    unfolding in_slots
    slots_none = sym (values_same m (λ _. d) (slot 0) (λ i. rw (le-ltb i 0 (omega arith))) ∙ below_default m d)

    pub slots_next : {l : List A} {x : A} (n : ℕ) → l ≡ in_slots m n f d → x ≡ f n → set l n x ≡ in_slots m (n + 1) f d
    unfolding in_slots
    slots_next n e own =
        let filled : slot (n + 1) n ≡ f n = rw (lt-ltb n (n + 1) (omega arith)) in
        rw (e, own, ← filled) (sym (below_set m (slot n) (slot (n + 1)) n (slot_other n)))

    pub slots_end : {l : List A} {n k : ℕ} → l ≡ in_slots m n f d → n ≤ k → k ≤ n → l ≡ in_slots m k f d
    slots_end {n = n} {k = k} e h g = let same : k ≡ n = omega arith in rw same e
