-- Two texts put one behind the other are put as one: where the first finds no room, none is left for the second.
use Prim.Native.Nat.{ℕ, ◌+◌}
use mathlib.Core.List.{List, [], ◌∷◌, ◌++◌}
use mathlib.Core.Path.{◌≡◌, refl, ap, ◌∙◌}
use native.Mathlib.Omega.{arith}
use borrow.Author.Tests.{le-ltb}
use lib.Dec.{ltb}
use lib.ListN.{length, set}
use Rattle.numbers.proofs.Tests.{by_flag}
use Rattle.texts.specs.declared.Text.{Text}
use Rattle.texts.specs.Held.{held, Puts}
use Rattle.texts.specs.Texts.{Filled, filled, with_text}

-- a buffer in which a text found no room takes no more
pub overfull : (bytes text : List ℕ) → with_text (filled bytes (length bytes + 1)) text ≡ filled bytes (length bytes + 1)
unfolding with_text
overfull bytes [] = refl
overfull bytes (c ∷ text) = rw (le-ltb (length bytes + 1) (length bytes) (omega arith))

pub behind : (f : Filled) (a b : List ℕ) → with_text (with_text f a) b ≡ with_text f (a ++ b)
unfolding with_text
behind f [] b = refl
behind f (c ∷ a) b =
    by_flag (ltb f.used (length f.bytes))
    (λ t. rw t (behind (filled (set f.bytes f.used c) (f.used + 1)) a b))
    (λ no. rw no (overfull f.bytes b))

-- the same of buffers one after another
pub then : (f g h : Filled) (a b : List ℕ) → g ≡ with_text f a → h ≡ with_text g b → h ≡ with_text f (a ++ b)
then f g h a b first second = second ∙ ap (λ (x : Filled). with_text x b) first ∙ behind f a b

-- and of texts that are put one after another
pub puts_then : {f g h : Text} {a b : List ℕ} → Puts f a g → Puts g b h → Puts f (a ++ b) h
puts_then {f} {g} {h} {a} {b} first second =
    record { same_buffer = second.same_buffer ∙ first.same_buffer; put = then (held f) (held g) (held h) a b first.put second.put }

pub puts_nothing : (t : Text) → Puts t [] t
unfolding with_text
puts_nothing t = record { same_buffer = refl; put = refl }
