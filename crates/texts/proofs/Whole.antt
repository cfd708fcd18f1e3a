-- What a text leaves in a buffer from its front on: where it fits, the whole text and behind it the buffer as it was; where it does not,
-- one byte more than there is room for counts as used. By induction on the text, with what is put already in front.
use Prim.Native.Nat.{ℕ, suc, ◌+◌, ◌≤◌, ◌<◌}
use mathlib.Core.List.{List, [], ◌∷◌, ◌++◌, append-nil, append_assoc}
use mathlib.Core.Path.{◌≡◌}
use native.Mathlib.Nat.{add-zero, zero-add}
use native.Mathlib.Omega.{arith}
use borrow.Author.Tests.{lt-ltb, ltb-true}
use lib.Dec.{ltb}
use lib.ListN.{length, set, drop, length-append, length-set}
use lib.Seq.{set-append_seam}
use Rattle.numbers.proofs.Tests.{by_flag}
use Rattle.texts.specs.Texts.{Filled, filled, with_text}

fits_behind :
    (text before rest : List ℕ) → length text ≤ length rest →
    with_text (filled (before ++ rest) (length before)) text
    ≡ filled (before ++ text ++ drop (length text) rest) (length before + length text)
unfolding with_text
fits_behind [] before rest h = rw (append-nil before, add-zero (length before))
fits_behind (c ∷ text) before [] h = absurd (omega arith)
fits_behind (c ∷ text) before (r ∷ rest) h =
    let within : length before < length (before ++ r ∷ rest) = simp length-append (omega arith) in
    let here : length (before ++ (c ∷ [])) ≡ length before + 1 = simp length-append (omega arith) in
    let all : length before + 1 + length text ≡ length before + suc (length text) = omega arith in
    let on = rw (here, append_assoc before (c ∷ []) rest, append_assoc before (c ∷ []) text, all)
    at (fits_behind text (before ++ (c ∷ [])) rest (omega arith)) in
    rw (lt-ltb _ _ within, set-append_seam before r rest c) on

pub whole :
    (bytes text : List ℕ) → length text ≤ length bytes →
    with_text (filled bytes 0) text ≡ filled (text ++ drop (length text) bytes) (length text)
whole bytes text h = rw (zero-add (length text)) at (fits_behind text [] bytes h)

pub too_long_lem :
    (f : Filled) (text : List ℕ) → f.used ≤ length f.bytes → length f.bytes < f.used + length text →
    (with_text f text).used ≡ length f.bytes + 1
unfolding with_text
too_long_lem f [] h long = absurd (omega arith)
too_long_lem f (c ∷ text) h long =
    by_flag (ltb f.used (length f.bytes))
    (λ t.
    let same = length-set f.bytes f.used c in
    let room = ltb-true f.used (length f.bytes) t in
    rw (t, ← same) (too_long_lem (filled (set f.bytes f.used c) (f.used + 1)) text (omega arith) (omega arith)))
    (λ no. rw no)
