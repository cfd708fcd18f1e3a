-- The entries of a list: one that is pushed, and some that are appended, come behind those that it had, if it has room;
-- in a list that is right they are what is in it: routines of the book, none twice, as many as its length says.
use Prim.Native.Nat.{ℕ, ◌+◌, ◌<◌, ◌≤◌}
use mathlib.Core.Path.{◌≡◌, sym, ◌∙◌, subst}
use mathlib.Core.List.{List, [], ◌∷◌, ◌++◌, append-nil, append_assoc}
use native.Mathlib.Omega.{arith}
use native.Mathlib.Numerals.{add-one}
use borrow.Author.Tests.{lt-ltb}
use lib.ListN.{length, get_or, length-set}
use lib.Seq.{take-suc-set, length-take-le, get_or-take}
use Rattle.numbers.specs.Counting.{All, Among}
use Rattle.numbers.proofs.Counting.{among_at}
use Rattle.lines.specs.declared.Line.{Line}
use Rattle.lines.specs.Lines.{most_entries, item_at, entries_of, pushed, appended}
use Rattle.fitting.specs.Fits.{In}
use Rattle.fitting.proofs.Lists.{joined, LineRight, used_all}
use Rattle.round.proofs.Among.{among_place, each_among, Distinct, places_distinct}

module _ (l : Line) (r : ℕ) (z : length l.items ≡ most_entries) (h : l.len < most_entries) where
  pub pushed_joined : pushed l r ≡ joined l r
  pushed_joined = rw (lt-ltb l.len most_entries h)

  pub pushed_entries : entries_of (pushed l r) ≡ entries_of l ++ (r ∷ [])
  pushed_entries =
      rw (pushed_joined, used_all (joined l r) (omega arith), used_all l (omega arith), add-one)
      (take-suc-set l.items l.len r (omega arith))

pub appended_entries :
    (l : Line) (rs : List ℕ) → length l.items ≡ most_entries → l.len + length rs ≤ most_entries →
    entries_of (appended l rs) ≡ entries_of l ++ rs
unfolding appended
appended_entries l [] z h = sym (append-nil (entries_of l))
appended_entries l (r ∷ rs) z h =
    let room : l.len < most_entries = omega arith in
    let sized : length (pushed l r).items ≡ most_entries = rw (pushed_joined l r z room) (length-set l.items l.len r ∙ z) in
    appended_entries (pushed l r) rs sized (rw (pushed_joined l r z room) (omega arith)) ∙
    rw (pushed_entries l r z room) (append_assoc (entries_of l) (r ∷ []) rs)

-- a list is right and has all its places
abbrev pub SizedRight : ℕ → Line → Type 0
SizedRight routines l = LineRight l routines × (length l.items ≡ most_entries)

module _ {l : Line} {routines : ℕ} (right : SizedRight routines l) where
  pub entries_length : length (entries_of l) ≡ l.len
  entries_length = rw (used_all l right.0.short) (length-take-le l.len l.items (omega (arith, right.0.short)))

  item_at_lem : (i : ℕ) → i < l.len → get_or (entries_of l) i 0 ≡ item_at l i
  item_at_lem i h = rw (used_all l right.0.short) (get_or-take l.len l.items i 0 h)

  pub in_among : (r : ℕ) → In l r → Among r (entries_of l)
  in_among r (i, h, e) =
      let k : i < length (entries_of l) = omega (arith, entries_length) in
      subst (λ q. Among q (entries_of l)) (item_at_lem i h ∙ e) (among_at (entries_of l) i k)

  pub among_in : (r : ℕ) → Among r (entries_of l) → In l r
  among_in r h =
      let (i, k, e) = among_place r (entries_of l) h in
      let m : i < l.len = omega (arith, entries_length) in
      (i, m, sym (item_at_lem i m) ∙ e)

  pub entries_below : All (λ r. r < routines) (entries_of l)
  entries_below =
      each_among (λ r. r < routines) (entries_of l) (λ r h. let (i, k, e) = among_in r h in rw e at (right.0.entries i k))

  pub entries_distinct : Distinct (entries_of l)
  entries_distinct =
      places_distinct (entries_of l) (λ i j h k e.
      let m : j < l.len = omega (arith, entries_length) in
      right.0.once i j h m (sym (item_at_lem i (omega arith)) ∙ e ∙ item_at_lem j m))
