-- `Text::put` meets its contract. The loop's invariant: what is left of the text, put behind what is there by now, gives what the whole
-- text gives behind what was there.
use Prim.Native.Nat.{ℕ, ◌+◌, ◌≤◌, ◌<◌}
use mathlib.Core.List.{List}
use mathlib.Core.Path.{◌≡◌, ◌∙◌}
use native.Mathlib.Numerals.{add-one}
use lib.ListN.{length, get_or, set, drop, drop_of_length-le}
use lib.Seq.{drop-cons}
use borrow.Author.Tests.{lt-ltb, le-ltb}
use Rattle.texts.specs.Texts.{filled, with_text}
use Rattle.texts.proofs.Text.put.Goals as goal

module _ (out : List ℕ) (used : ℕ) (text : List ℕ) (i : ℕ) where
  goes :
      i < length text → used < length out →
      with_text (filled (set out used (get_or text i 0)) (used + 1)) (drop (i + 1) text) ≡ with_text (filled out used) (drop i text)
  unfolding with_text
  goes h r = rw (drop-cons text i 0 h, lt-ltb used (length out) r, add-one i)

  full : i < length text → length out ≤ used → filled out (length out + 1) ≡ with_text (filled out used) (drop i text)
  unfolding with_text
  full h r = rw (drop-cons text i 0 h, le-ltb used (length out) r)

  ends : length text ≤ i → filled out used ≡ with_text (filled out used) (drop i text)
  unfolding with_text
  ends h = rw (drop_of_length-le text {i = i} h)

pub returns-then-self : goal.returns-then-self
returns-then-self c =
    let l = c.loop-c in
    let t = l.self in
    record { same_buffer = l.invariant.0; put = full t.out.now t.used _ l.c-index c.loop-c-test.true c.if-self.true ∙ l.invariant.1 }

pub loop-c-preserved : goal.loop-c-preserved
loop-c-preserved c =
    let l = c.loop-c in
    let t = l.self in
    (l.invariant.0, goes t.out.now t.used _ l.c-index c.loop-c-test.true c.if-self.false ∙ l.invariant.1)

pub returns : goal.returns
returns c =
    let l = c.loop-c in
    let t = l.self in
    record { same_buffer = l.invariant.0; put = ends t.out.now t.used _ l.c-index c.loop-c-test.false ∙ l.invariant.1 }
