-- The marks of a round in their buffer: put one behind another they are written at its front, and what lies behind them is untouched.
use Prim.Native.Nat.{ℕ, suc, ◌+◌, ◌*◌, ◌/◌, ◌≤◌, ◌<◌}
use mathlib.Core.Path.{◌≡◌, refl, sym, ap, ◌∙◌}
use mathlib.Core.List.{List, [], ◌∷◌, ◌++◌, append_assoc, append-nil}
use native.Mathlib.Omega.{arith}
use borrow.Author.Tests.{lt-ltb}
use lib.IntN.{ℤ, pos}
use lib.ListN.{length, get_or, set, drop, length-append, length-drop}
use lib.Seq.{drop-cons, set_at}
use Rattle.round.specs.Answers.{numbers_per_mark, written}
use Rattle.tables.specs.Tables.{pair_put}
use Rattle.passing.specs.Effects.{Marks, marks_of, mark_put, marks_put}

written_length : (ms : List (ℕ × ℤ)) → length (written ms) ≡ numbers_per_mark * length ms
unfolding written
written_length [] = refl
written_length (m ∷ ms) = omega (arith, written_length ms)

written_append : (ms ns : List (ℕ × ℤ)) → written (ms ++ ns) ≡ written ms ++ written ns
unfolding written
written_append [] ns = refl
written_append (m ∷ ms) ns = rw (written_append ms ns)

-- the buffer with these marks at its front
abbrev pub front : List (ℕ × ℤ) → List ℤ → Marks
front ms buffer = marks_of (written ms ++ drop (numbers_per_mark * length ms) buffer) (length ms)

-- one more mark
put_front :
    (ms : List (ℕ × ℤ)) (r : ℕ) (v : ℤ) (buffer : List ℤ) → numbers_per_mark * length ms + numbers_per_mark ≤ length buffer →
    mark_put r v (front ms buffer) ≡ front (ms ++ (r, v) ∷ []) buffer
unfolding pair_put written
put_front ms r v buffer h =
    let n = length ms in
    let w = written ms in
    let a = get_or buffer (2 * n) (pos 0) in
    let b = get_or buffer (suc (2 * n)) (pos 0) in
    let rest = drop (suc (suc (2 * n))) buffer in
    let long : length w ≡ 2 * n = written_length ms in
    let cut : drop (2 * n) buffer ≡ a ∷ b ∷ rest =
    drop-cons buffer (2 * n) (pos 0) (omega arith) ∙ ap (λ (l : List ℤ). a ∷ l) (drop-cons buffer (suc (2 * n)) (pos 0) (omega arith))
    in
    let room : n < length (w ++ drop (2 * n) buffer) / 2 = simp (length-append, length-drop, long) (omega arith) in
    let one : set (w ++ a ∷ b ∷ rest) (2 * n) (pos r) ≡ w ++ pos r ∷ b ∷ rest = set_at w a (b ∷ rest) (pos r) (2 * n) long in
    let longer : length (w ++ pos r ∷ []) ≡ 2 * n + 1 = simp (length-append, long) (omega arith) in
    let two : set (w ++ pos r ∷ b ∷ rest) (2 * n + 1) v ≡ w ++ pos r ∷ v ∷ rest =
    rw (append_assoc w (pos r ∷ []) (b ∷ rest), append_assoc w (pos r ∷ []) (v ∷ rest)) at
    (set_at (w ++ pos r ∷ []) b rest v (2 * n + 1) longer)
    in
    let size : length (ms ++ (r, v) ∷ []) ≡ n + 1 = length-append ms ((r, v) ∷ []) in
    let next : 2 * (n + 1) ≡ suc (suc (2 * n)) = omega arith in
    let done : written (ms ++ (r, v) ∷ []) ++ drop (2 * (n + 1)) buffer ≡ w ++ pos r ∷ v ∷ rest =
    rw (next, written_append ms ((r, v) ∷ []), append_assoc)
    in
    rw (lt-ltb _ _ room, cut, one, two, size, done)

marks_behind :
    (ns ms : List (ℕ × ℤ)) (buffer : List ℤ) → numbers_per_mark * (length ms + length ns) ≤ length buffer →
    marks_put ns (front ms buffer) ≡ front (ms ++ ns) buffer
unfolding marks_put
marks_behind [] ms buffer h = ap (λ (l : List (ℕ × ℤ)). front l buffer) (sym (append-nil ms))
marks_behind (x ∷ ns) ms buffer h =
    let size : length (ms ++ x ∷ []) ≡ length ms + 1 = length-append ms (x ∷ []) in
    ap (marks_put ns) (put_front ms x.0 x.1 buffer (omega arith)) ∙
    marks_behind ns (ms ++ x ∷ []) buffer (omega (arith, h, size)) ∙
    ap (λ (l : List (ℕ × ℤ)). front l buffer) (append_assoc ms (x ∷ []) ns)

-- marks in a buffer that has none and is long enough for them
pub marks_front :
    (ms : List (ℕ × ℤ)) (buffer : List ℤ) → numbers_per_mark * length ms ≤ length buffer → marks_put ms (marks_of buffer 0) ≡ front ms buffer
unfolding written
marks_front ms buffer h = marks_behind ms [] buffer (omega arith)
