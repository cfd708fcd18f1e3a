-- The slots of a game's arrays: what each holds, and their front.
use Prim.Native.Nat.{ℕ, ◌≤◌, ◌<◌}
use mathlib.Core.Path.{◌≡◌, sym, ◌∙◌}
use native.Mathlib.Omega.{arith}
use borrow.Author.Tests.{lt-ltb, le-ltb}
use lib.Dec.{ltb}
use lib.ListN.{length, get_or, take}
use lib.Seq.{length-take-le, get_or-take, ext_get_or}
use Rattle.std.specs.Prelude.{if◌then◌else◌}
use Rattle.numbers.specs.Counting.{list_below}
use Rattle.numbers.proofs.Lists.{below_length, below_read}
use Rattle.stored_games.specs.Reading.{in_slots}

module _ {A : Type 0} where
  module _ (m n : ℕ) (f : ℕ → A) (d : A) where
    abbrev slot : ℕ → A
    slot i = if ltb i n then f i else d

    pub slots_length : length (in_slots m n f d) ≡ m
    unfolding in_slots
    slots_length = below_length m slot

    pub slot_value : (i : ℕ) (e : A) → i < m → i < n → get_or (in_slots m n f d) i e ≡ f i
    unfolding in_slots
    slot_value i e h k = below_read m slot i e h ∙ rw (lt-ltb i n k)

    pub slot_beyond : (i : ℕ) (e : A) → i < m → n ≤ i → get_or (in_slots m n f d) i e ≡ d
    unfolding in_slots
    slot_beyond i e h k = below_read m slot i e h ∙ rw (le-ltb i n k)

    pub slots_front : n ≤ m → take n (in_slots m n f d) ≡ list_below n f
    slots_front h =
        let slots = in_slots m n f d in
        let long : length (take n slots) ≡ n = length-take-le n slots (omega (arith, slots_length)) in
        ext_get_or d (take n slots) (list_below n f) (long ∙ sym (below_length n f))
        (λ i l.
        let near : i < n = omega (arith, l, long) in
        get_or-take n slots i d near ∙ slot_value i d (omega arith) near ∙ sym (below_read n f i d near))
