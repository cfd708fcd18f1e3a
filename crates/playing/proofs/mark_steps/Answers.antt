-- `playing::mark_steps` meets its contract: the chunks behind the directory are the book's steps, since an accepted book is as long as its
-- counts say, and a mark step is one that begins with its op.
use Prim.Native.Nat.{ℕ, suc, zero, ◌+◌, ◌-◌, ◌*◌, ◌<◌}
use mathlib.Core.Path.{◌≡◌, refl, sym, ap, subst, ◌∙◌}
use mathlib.Core.Bool.{Bool, ◌&&◌}
use mathlib.Core.List.{List, [], ◌∷◌}
use native.Mathlib.Omega.{arith}
use borrow.Author.Rules.{rules}
use borrow.Author.Tests.{tests}
use denote.Ref.{Bor}
use lib.Dec.{eqb, ltb}
use lib.ListN.{length, get_or, take, drop, length-drop}
use Rattle.std.proofs.lemmas.List.{take_all}
use Rattle.std.specs.Prelude.{if◌then◌else◌, Option, Some, None, IfSome}
use Rattle.std.specs.Option.{option_map}
use Rattle.std.specs.List.{filter}
use Rattle.std.specs.Slice.Iter.{chunks_exact_size, chunks_exact_rest}
use Rattle.numbers.specs.Counting.{sum_below, count_below}
use Rattle.numbers.proofs.Tests.{by_flag}
use Rattle.numbers.proofs.Counting.{count_all}
use Rattle.kinds.specs.Ops.{op_mark}
use Rattle.kinds.specs.Steps.{op_at}
use Rattle.layout.specs.Layout.{steps_of, steps_from}
use Rattle.book.specs.Book.{steps_part}
use Rattle.playing.proofs.mark_steps.Goals as goal

-- the first value of a sum taken out
first_apart : (f : ℕ → ℕ) (n : ℕ) → sum_below f (suc n) ≡ f 0 + sum_below (λ i. f (suc i)) n
unfolding sum_below
first_apart f zero = omega arith
first_apart f (suc n) = omega (arith, first_apart f n)

-- the items of a list that pass a test are counted by their places
counted :
    {A : Type 0} (test : A → Bool) (xs : List A) (f : ℕ → Bool) → ((k : ℕ) (d : A) → k < length xs → test (get_or xs k d) ≡ f k) →
    length (filter test xs) ≡ count_below f (length xs)
unfolding sum_below
counted test [] f h = refl
counted test (x ∷ xs) f h =
    let rest = counted test xs (λ k. f (suc k)) (λ k d l. h (suc k) d (omega arith)) in
    let cut : count_below f (suc (length xs)) ≡ (if f 0 then 1 else 0) + count_below (λ k. f (suc k)) (length xs) =
    first_apart (λ k. if f k then 1 else 0) (length xs)
    in
    let first : test x ≡ f 0 = h 0 x (omega arith) in
    by_flag (test x)
    (λ t.
    let one : ◌≡◌ {A = ℕ} (if f 0 then 1 else 0) 1 = rw (sym first ∙ t) in
    let kept : length (filter test (x ∷ xs)) ≡ length (filter test xs) + 1 = rw t (omega arith) in
    kept ∙ omega (arith, rest, cut, one))
    (λ t.
    let none : ◌≡◌ {A = ℕ} (if f 0 then 1 else 0) 0 = rw (sym first ∙ t) in
    let kept : length (filter test (x ∷ xs)) ≡ length (filter test xs) = rw t in
    kept ∙ omega (arith, rest, cut, none))

read_at : {A : Type 0} (P : A → Type 0) (o : Option A) (x : A) → option_map (λ y. y) o ≡ Some x → IfSome o P → P x
read_at P None x e h = absurd cc
read_at P (Some y) x e h = let same : y ≡ x = cc in subst P same h

abbrev begins : Bor (List ℕ) → Bool
begins x = ltb 0 (length x.now) && eqb (get_or x.now 0 0) op_mark

pub returns : goal.returns
returns c =
    let book = c.args.book.now in
    let run = c.count.ensures.runs in
    let p = run.0 in
    let filtered = c.filter.ensures.runs p p.seen run.1 in
    let q = filtered.0 in
    let size : chunks_exact_size q.from ≡ 8 = ap (λ s. chunks_exact_size s) filtered.1 ∙ c.chunks_exact.ensures.size in
    let rest = ap (λ s. chunks_exact_rest s) filtered.1 ∙ c.chunks_exact.ensures.rest in
    let part : take (length book - steps_from book) (drop (steps_from book) book) ≡ steps_part book =
    take_all _ (drop (steps_from book) book) (omega (arith, length-drop (steps_from book) book))
    in
    let chunks = rw (size, rest, c.steps_from.ensures.0, part) at (c.chunks_exact.ensures.runs q q.seen (omega (arith, size))) in
    let marks = filtered.2.4 begins (λ x b f h. search (rules, tests)) in
    let is_mark : ℕ → Bool = λ k. eqb (op_at (steps_part book) k) op_mark in
    let op : (k : ℕ) (d : Bor (List ℕ)) → k < length q.items → begins (get_or q.items k d) ≡ is_mark k =
    λ k d l.
    let chunk = read_at _ (q.at k) (get_or q.items k d) (q.reads k d (omega (arith, l, q.long))) (chunks.2 k) in
    let at_front : k * 8 + 0 ≡ k * 8 = omega arith in
    rw (chunk.0, chunk.2.2 0 0 (omega arith), at_front)
    in
    let all : q.len ≡ steps_of book =
    chunks.1 (filtered.2.0 ∙ run.2) ∙ omega (arith, length-drop (steps_from book) book, c.requires.laid.offsets.size)
    in
    let count : c.count.result ≡ count_below is_mark (steps_of book) =
    run.3 ∙ p.long ∙ ap length marks ∙ counted begins q.items is_mark op ∙ ap (count_below is_mark) (sym q.long ∙ all)
    in
    (count, omega (arith, count, count_all is_mark (steps_of book), c.requires.laid.counts.few_steps))
