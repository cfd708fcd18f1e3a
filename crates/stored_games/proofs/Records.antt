-- A routine as a record, there and back.
use Prim.Native.Nat.{ℕ, ◌<◌}
use mathlib.Core.Path.{◌≡◌, ap, ◌∙◌}
use mathlib.Core.Bool.{Bool}
use mathlib.Core.List.{List, [], ◌∷◌, ◌++◌}
use lib.ListN.{length, get_or, take}
use Rattle.numbers.specs.Numbers.{half_limit, word_limit}
use Rattle.numbers.specs.Bytes.{word_bytes, word_at}
use Rattle.numbers.specs.Counting.{list_below}
use Rattle.game.specs.declared.Routine.{Routine}
use Rattle.stored_games.specs.declared.Form.{Form}
use Rattle.stored_games.specs.Bits.{has_bit, from_bits}
use Rattle.stored_games.specs.Forms.{field_bytes, Usable, HoldsAll}
use Rattle.stored_games.specs.Stored.{flags_of, record_of}
use Rattle.stored_games.specs.Reading.{flag_limit, routine_by_record}
use Rattle.stored_games.specs.Claims.{AreBytes}
use Rattle.stored_games.proofs.Bytes.{half_back, half_bytes_lem, word_back, word_bytes_lem}
use Rattle.stored_games.proofs.Bits.{bit_back, bits_back, bits_small}
use Rattle.stored_games.proofs.Places.{spelled, below_front}

-- the flags of a routine as bits
abbrev bits_of : Routine → List Bool
bits_of x = x.suspended ∷ x.begun ∷ x.stopping ∷ x.suspending ∷ x.resuming ∷ []

pub flags_small : (x : Routine) → flags_of x < flag_limit
flags_small x = bits_small (bits_of x)

-- a record that has the bytes of all fields gives the routine back
pub record_read :
    (f : Form) → HoldsAll f → (x : Routine) → x.place < half_limit → x.left < word_limit → routine_by_record (record_of f x) ≡ x
unfolding record_of routine_by_record
record_read f all x place left =
    let bit = bit_back (bits_of x) in
    rw (all, half_back x.place place, word_back x.left left, bit 0, bit 1, bit 2, bit 3, bit 4)

-- what is read of a record of any size is stored again as that record: bytes that it lacks are read as 0, and left out again
pub record_stored :
    {f : Form} → Usable f → (b : List ℕ) → length b ≡ f.recordsize → AreBytes b → get_or b 1 0 < flag_limit →
    record_of f (routine_by_record b) ≡ b
unfolding record_of routine_by_record list_below
record_stored {f} usable b long byte flags =
    let size = f.recordsize in
    let item : ℕ → ℕ = λ i. get_or b i 0 in
    let place = half_bytes_lem (item 2) (item 3) (byte 2) (byte 3) in
    let left = word_bytes_lem (item 4) (item 5) (item 6) (item 7) (byte 4) (byte 5) (byte 6) (byte 7) in
    let flag : from_bits (list_below 5 (has_bit (item 1))) ≡ item 1 = bits_back 5 (item 1) flags in
    let stage = item 0 in
    ap (λ p. take size ((stage ∷ flags_of (routine_by_record b) ∷ []) ++ p ++ word_bytes (word_at b 4))) place
    ∙ ap (λ w. take size ((stage ∷ flags_of (routine_by_record b) ∷ []) ++ (item 2 ∷ item 3 ∷ []) ++ w)) left
    ∙ ap (λ n. take size (stage ∷ n ∷ item 2 ∷ item 3 ∷ item 4 ∷ item 5 ∷ item 6 ∷ item 7 ∷ [])) flag
    ∙ below_front size field_bytes item usable.few_fields
    ∙ (rw long at (spelled b))
