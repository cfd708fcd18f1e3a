-- The search finds exactly the routines to which a chain of starts leads. Each that is found has a chain; and since routine 0 is found, and
-- of each that is found what it starts, every chain ends at one that is found.
use Prim.Native.Nat.{ℕ, zero, suc}
use mathlib.Core.Path.{◌≡◌, refl}
use mathlib.Core.Bool.{Bool, true, false}
use mathlib.Core.List.{List}
use mathlib.Core.Logic.{◌↔◌}
use native.Mathlib.Omega.{arith}
use lib.ListN.{length, replicate, length-replicate}
use Rattle.numbers.proofs.Counting.{count_none}
use Rattle.numbers.specs.Numbers.{byte_limit}
use Rattle.numbers.proofs.Tests.{clash}
use Rattle.layout.specs.Layout.{most_routines, routines_of}
use Rattle.book.specs.Accepted.{Accepted}
use Rattle.unstarted.specs.Chains.{Chain, empty, then}
use Rattle.unstarted.specs.Unstarted.{Search, none_found, is_found, with_found, found_in, no_flags}
use Rattle.unstarted.proofs.Finding.{IsFound, Right, found_right, now_found}
use Rattle.unstarted.proofs.Searching.{Complete, found_all}

unset : (n r : ℕ) → is_found (replicate n false) r ≡ false
unset zero r = refl
unset (suc n) zero = refl
unset (suc n) (suc r) = unset n r

module _ (book : List ℕ) where
  none_right : (flags : List Bool) → length flags ≡ byte_limit → ((r : ℕ) → is_found flags r ≡ false) → Right book (none_found flags)
  none_right flags size none =
      record {
        flags_size = size;
        order_size = length-replicate {A = ℕ} most_routines 0;
        counted = rw (count_none (is_found flags) (routines_of book) (λ r l. none r));
        listed = λ r h. clash h (none r);
        chained = λ i l. absurd (omega arith);
      }

  module _ (f : Search) (all : Complete book f) where
    found_chain : {r : ℕ} → IsFound f r → Chain book r
    found_chain {r} h = let (i, (l, e)) = all.right.listed r h in rw e at (all.right.chained i l)

    chain_found : {r : ℕ} → Chain book r → IsFound f r
    chain_found empty = all.first
    chain_found (then {q} {r} c s) = let (i, (l, e)) = all.right.listed q (chain_found c) in all.closed.1 i l r (rw e s)

  module _ (accepted : Accepted book) where
    found_complete : Complete book (found_in book no_flags)
    unfolding found_in
    found_complete =
        let none = none_found no_flags in
        let right = none_right no_flags (length-replicate byte_limit false) (unset byte_limit) in
        found_all book accepted most_routines 0 (with_found 0 none) (omega arith) (now_found book accepted 0 empty none right)
        (found_right book accepted 0 empty none right) (omega arith, λ i l. absurd (omega arith))

    pub found_decides : (r : ℕ) → (is_found (found_in book no_flags).flags r ≡ true) ↔ Chain book r
    found_decides r =
        let all = found_in book no_flags in
        (found_chain all found_complete, chain_found all found_complete)
