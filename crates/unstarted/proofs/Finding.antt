-- What holds all along of the routines found. They are those listed, and a chain leads to each (`Right`); of those listed before the k-th
-- all starts are found (`ClosedBefore`). A routine that is found keeps both. It has room: there are as many entries as flags that are set,
-- and these are flags of the book's routines.
use Prim.Native.Nat.{ℕ, ◌+◌, ◌≤◌, ◌<◌}
use mathlib.Core.Path.{◌≡◌}
use mathlib.Core.Bool.{true, false, ◌||◌, not}
use mathlib.Core.List.{List}
use native.Mathlib.Omega.{arith}
use native.Mathlib.Decide.{ℕ_discrete}
use borrow.Author.Tests.{not-false, ltb-true, lt-ltb}
use lib.Dec.{ltb}
use lib.ListN.{length, get_or, set, length-set}
use lib.Seq.{get_or-set_same, get_or-set_other}
use Rattle.numbers.specs.Numbers.{byte_limit}
use Rattle.numbers.proofs.Tests.{clash, neither, by_test, by_flag}
use Rattle.layout.specs.Layout.{most_routines, routines_of}
use Rattle.book.specs.Accepted.{Accepted}
use Rattle.unstarted.specs.Chains.{Starts, Chain}
use Rattle.unstarted.specs.Unstarted.{Search, search_of, is_found, with_found}
use Rattle.unstarted.proofs.Starts.{chain_below}
use Rattle.unstarted.proofs.Flags.{flags_set, one_more, fewer}

abbrev pub IsFound : Search → ℕ → Type 0
IsFound f r = is_found f.flags r ≡ true

-- the routine at place i of those listed
abbrev pub entry : Search → ℕ → ℕ
entry f i = get_or f.order i 0

abbrev pub IsEntry : ℕ → ℕ → Search → Type 0
IsEntry i r f = (i < f.count) × (entry f i ≡ r)

pub record Right (book : List ℕ) (f : Search) : Type 0 where
  pub flags_size : length f.flags ≡ byte_limit
  pub order_size : length f.order ≡ most_routines
  -- as many are listed as the book's routines have flags set
  pub counted : f.count ≡ flags_set f.flags (routines_of book)
  pub listed : (r : ℕ) → IsFound f r → (i : ℕ) × IsEntry i r f
  pub chained : (i : ℕ) → i < f.count → Chain book (entry f i)

-- what routine q starts is found
abbrev pub Closed : List ℕ → ℕ → Search → Type 0
Closed book q f = (r : ℕ) → Starts book q r → IsFound f r

abbrev pub ClosedBefore : List ℕ → ℕ → Search → Type 0
ClosedBefore book k f = (k ≤ f.count) × ((i : ℕ) → i < k → Closed book (entry f i) f)

-- routine r joins those found
abbrev joined : ℕ → Search → Search
joined r f = search_of (set f.flags r true) (set f.order f.count r) (f.count + 1)

-- what holds of the routines found, and once r joins them if it was not there and there was room, holds once r is found
found_by :
    (P : Search → Type 0) (r : ℕ) (f : Search) → P f → (is_found f.flags r ≡ false → f.count < most_routines → P (joined r f)) →
    P (with_found r f)
found_by P r f old new =
    let full = not (ltb f.count most_routines) in
    by_test P (is_found f.flags r || full) (λ e. old) (λ e.
    let (fresh, room) = neither (is_found f.flags r) full e in
    new fresh (ltb-true _ _ (not-false _ room)))

-- the routines found stay so
joined_stays : (q r : ℕ) (f : Search) → is_found f.flags r ≡ false → IsFound f q → IsFound (joined r f) q
joined_stays q r f fresh h = rw (get_or-set_other f.flags r q true false (λ e. clash h (rw e fresh))) h

pub found_stays : (q r : ℕ) (f : Search) → IsFound f q → IsFound (with_found r f) q
found_stays q r f h = found_by (λ g. IsFound g q) r f h (λ fresh room. joined_stays q r f fresh h)

-- and so do the entries, and that the starts of the first of them are found
same_entry : (i r : ℕ) (f : Search) → i < f.count → entry (joined r f) i ≡ entry f i
same_entry i r f l = get_or-set_other f.order f.count i r 0 (λ e. omega arith)

pub entry_stays : (i q r : ℕ) (f : Search) → IsEntry i q f → IsEntry i q (with_found r f)
entry_stays i q r f (l, e) = found_by (IsEntry i q) r f (l, e) (λ fresh room. (omega arith, rw (same_entry i r f l) e))

pub closed_stays : (book : List ℕ) (k r : ℕ) (f : Search) → ClosedBefore book k f → ClosedBefore book k (with_found r f)
closed_stays book k r f (reached, closed) =
    found_by (ClosedBefore book k) r f (reached, closed) (λ fresh room. (
      omega arith,
      λ i l q s. joined_stays q r f fresh (closed i l q (rw (same_entry i r f (omega arith)) at s)),
    ))

-- a routine to which a chain leads is found
module _ (book : List ℕ) (accepted : Accepted book) (r : ℕ) (chain : Chain book r) (f : Search) (right : Right book f) where
  below : r < routines_of book
  below = chain_below book accepted chain

  there : r < length f.flags
  there = omega (arith, below, accepted.laid.counts.few_routines, right.flags_size)

  module _ (fresh : is_found f.flags r ≡ false) where
    room : f.count < most_routines
    room = omega (arith, right.counted, fewer f.flags r (routines_of book) below there fresh, accepted.laid.counts.few_routines)

    last : entry (joined r f) f.count ≡ r
    last = get_or-set_same f.order f.count r 0 (omega (arith, room, right.order_size))

    joined_listed : (q : ℕ) → IsFound (joined r f) q → (i : ℕ) × IsEntry i q (joined r f)
    joined_listed q h =
        elim (ℕ_discrete q r) [
          | yes e ↦ (f.count, (omega arith, rw e last))
          | no other ↦
              let (i, (l, e)) = right.listed q (rw (get_or-set_other f.flags r q true false other) at h) in
              (i, (omega arith, rw (same_entry i r f l) e))
        ]

    joined_chained : (i : ℕ) → i < f.count + 1 → Chain book (entry (joined r f) i)
    joined_chained i l =
        elim (ℕ_discrete i f.count) [
          | yes e ↦ rw (e, last) chain
          | no other ↦ let before : i < f.count = omega arith in rw (same_entry i r f before) (right.chained i before)
        ]

    joined_right : Right book (joined r f)
    joined_right =
        record {
          flags_size = rw length-set right.flags_size;
          order_size = rw length-set right.order_size;
          counted = omega (arith, right.counted, one_more f.flags r (routines_of book) below there fresh);
          listed = joined_listed;
          chained = joined_chained;
        }

  pub found_right : Right book (with_found r f)
  found_right = found_by (Right book) r f right (λ fresh space. joined_right fresh)

  pub now_found : IsFound (with_found r f) r
  now_found =
      by_flag (is_found f.flags r) (λ old. found_stays r r f old) (λ fresh.
      rw (fresh, lt-ltb f.count most_routines (room fresh)) (get_or-set_same f.flags r true false there))
