-- The mark buffer of an accepted round: each mark has its two numbers in its place, and behind the marks nothing has changed. No other
-- buffer is so. By induction over the marks: `written` puts two numbers in front for each, and each takes two off a buffer's front.
use Prim.Native.Nat.{ℕ, zero, suc, ◌*◌, ◌≤◌, ◌<◌}
use mathlib.Core.Path.{◌≡◌, refl, sym, ap, ◌∙◌}
use mathlib.Core.List.{List, [], ◌∷◌, ◌++◌}
use native.Mathlib.Omega.{arith}
use lib.ListN.{length, get_or, take, drop}
use lib.Seq.{length_front, length-take-le, drop_at}
use lib.IntN.{ℤ, pos}
use Rattle.round.specs.Answers.{numbers_per_mark, written}
use Rattle.rules.proofs.Walks.{Marks}

-- the marks have their numbers in a buffer: the i-th its routine and its number at 2 i and 2 i + 1
abbrev pub Buffered : Marks → List ℤ → Type 0
Buffered ms b =
    (i : ℕ) → i < length ms →
    take numbers_per_mark (drop (numbers_per_mark * i) b) ≡ pos (get_or ms i (0, pos 0)).0 ∷ (get_or ms i (0, pos 0)).1 ∷ []

-- one mark more is two numbers more
two_more : (i : ℕ) → numbers_per_mark * suc i ≡ suc (suc (numbers_per_mark * i))
two_more i = omega arith

two_each : (ms : Marks) → length (written ms) ≡ numbers_per_mark * length ms
unfolding written
two_each [] = refl
two_each (m ∷ ms) = omega (arith, two_each ms)

pub written_marks : (ms : Marks) (rest : List ℤ) → Buffered ms (written ms ++ rest)
unfolding written
written_marks [] rest i h = absurd (omega arith)
written_marks (m ∷ ms) rest zero h = refl
written_marks (m ∷ ms) rest (suc i) h = rw (two_more i) (written_marks ms rest i (omega arith))

pub written_beyond : (ms : Marks) (rest : List ℤ) → drop (numbers_per_mark * length ms) (written ms ++ rest) ≡ rest
written_beyond ms rest = drop_at (written ms) rest _ (two_each ms)

pub written_length :
    (ms : Marks) (buffer : List ℤ) → numbers_per_mark * length ms ≤ length buffer →
    length (written ms ++ drop (numbers_per_mark * length ms) buffer) ≡ length buffer
written_length ms buffer room =
    let n = numbers_per_mark * length ms in
    length_front buffer (written ms) n (two_each ms ∙ sym (length-take-le n buffer room))

-- a buffer that has the marks' numbers begins with what is written for them
marks_written : (ms : Marks) (b : List ℤ) → Buffered ms b → b ≡ written ms ++ drop (numbers_per_mark * length ms) b
unfolding written
marks_written [] b h = refl
marks_written (m ∷ ms) [] h = let e = h 0 (omega arith) in cc
marks_written (m ∷ ms) (x ∷ []) h = let e = h 0 (omega arith) in cc
marks_written (m ∷ ms) (x ∷ y ∷ b) h =
    let first = h 0 (omega arith) in
    let rest = marks_written ms b (λ i k. rw (two_more i) at (h (suc i) (omega arith))) in
    rw (two_more (length ms)) (cc)

-- what is behind the marks is the lent buffer's in both
pub same_buffer :
    (ms : Marks) (b c lent : List ℤ) → Buffered ms b → Buffered ms c →
    drop (numbers_per_mark * length ms) b ≡ drop (numbers_per_mark * length ms) lent →
    drop (numbers_per_mark * length ms) c ≡ drop (numbers_per_mark * length ms) lent → b ≡ c
same_buffer ms b c lent h k e f =
    marks_written ms b h ∙ ap (λ rest. written ms ++ rest) (e ∙ sym f) ∙ sym (marks_written ms c k)
