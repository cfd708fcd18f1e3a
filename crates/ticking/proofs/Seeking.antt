-- The k-th number of a signal among the first pairs of a buffer: of the pairs, two numbers to each, those of the signal are kept, and their
-- second numbers are the signal's.
use Prim.Native.Nat.{ℕ, suc, ◌-◌, ◌/◌, ◌<◌}
use mathlib.Core.Path.{◌≡◌, refl}
use mathlib.Core.Bool.{Bool}
use mathlib.Core.List.{List, [], ◌∷◌, map}
use native.Mathlib.Omega.{arith}
use native.Mathlib.Decide.{dec_le}
use lib.Dec.{eqb, leb}
use lib.IntN.{ℤ, pos}
use lib.ListN.{length, get_or, take}
use borrow.Author.Tests.{le-leb, lt-leb}
use Rattle.std.specs.Prelude.{Some, None, if◌then◌else◌}
use Rattle.std.specs.List.{filter, slice_get}
use Rattle.std.specs.Simd.{first_chunks}
use Rattle.std.proofs.lemmas.List.{take-map}
use Rattle.std.proofs.lemmas.Option.{slice_get_past, slice_get-get_or}
use Rattle.numbers.proofs.Tests.{by_flag}
use Rattle.tables.specs.Tables.{first_of_pair, pairs_of}
use Rattle.round.specs.State.{numbers_with}

abbrev pub chunks : List ℤ → List (List ℤ)
chunks l = first_chunks 2 (length l / 2) l

abbrev pub number_in : List ℤ → ℤ
number_in pair = get_or pair 1 (pos 0)

abbrev pub signal_in : List ℤ → ℕ
signal_in pair = first_of_pair (get_or pair 0 (pos 0))

abbrev pub is_of : ℕ → List ℤ → Bool
is_of e pair = eqb (signal_in pair) e

pairs_chunks : (l : List ℤ) → pairs_of l ≡ map (λ pair. (signal_in pair, number_in pair)) (chunks l)
unfolding pairs_of
pairs_chunks [] = refl
pairs_chunks (a ∷ []) = refl
pairs_chunks (a ∷ b ∷ l) =
    let more : length (a ∷ b ∷ l) / 2 ≡ suc (length l / 2) = omega arith in
    rw (more, pairs_chunks l)

numbers_kept :
    (e : ℕ) (l : List (List ℤ)) → numbers_with e (map (λ pair. (signal_in pair, number_in pair)) l) ≡ map number_in (filter (is_of e) l)
unfolding numbers_with
numbers_kept e [] = refl
numbers_kept e (x ∷ l) = by_flag (is_of e x) (λ t. rw (t, numbers_kept e l)) (λ f. rw (f, numbers_kept e l))

pub numbers_in :
    (e count : ℕ) (l : List ℤ) → numbers_with e (take count (pairs_of l)) ≡ map number_in (filter (is_of e) (take count (chunks l)))
numbers_in e count l = rw (pairs_chunks l, take-map, numbers_kept)

pub kth : (ns : List ℤ) (k : ℕ) → 0 < k → slice_get ns (k - 1) ≡ (if leb k (length ns) then Some (get_or ns (k - 1) (pos 0)) else None)
kth ns k some =
    elim (dec_le k (length ns)) [
      | yes h ↦ rw (le-leb k (length ns) h) (slice_get-get_or ns (k - 1) (pos 0) (omega arith))
      | no h ↦ rw (lt-leb k (length ns) (omega arith)) (slice_get_past ns (k - 1) (omega arith))
    ]
