-- Laws of sums over some numbers, and over different ones of which one alone counts, or counts otherwise. By induction on the numbers;
-- different numbers below a bound are together at most all of them, by taking one out of both sums at a time.
use Prim.Native.Nat.{ℕ, ◌+◌, ◌<◌, ◌≤◌}
use mathlib.Core.Path.{◌≡◌, refl, sym}
use mathlib.Core.Bool.{Bool}
use mathlib.Core.List.{List, [], ◌∷◌}
use mathlib.Core.Logic.{inl, inr, ⊎_elim, ◌≢◌}
use native.Mathlib.Omega.{arith}
use lib.ListN.{length}
use Rattle.numbers.specs.Counting.{All, sum_over, Among, sum_below}
use Rattle.numbers.proofs.Tests.{by_test}
use Rattle.numbers.proofs.Below.{without, without_other, below_without}
use Rattle.round.specs.Actions.{kept}
use Rattle.round.proofs.Counting.{one}
use Rattle.round.proofs.Among.{Distinct, among_or}

pub over_le : (f g : ℕ → ℕ) (rs : List ℕ) → ((r : ℕ) → Among r rs → f r ≤ g r) → sum_over f rs ≤ sum_over g rs
unfolding sum_over
over_le f g [] h = omega arith
over_le f g (r ∷ rs) h = omega (arith, h r (inl refl), over_le f g rs (λ q k. h q (inr k)))

-- a sum in which r alone may count otherwise, where r is not one of the numbers
others_sum :
    (f g : ℕ → ℕ) (r : ℕ) → ((q : ℕ) → q ≢ r → g q ≡ f q) → (rs : List ℕ) → (Among r rs → ⊥) → sum_over g rs ≡ sum_over f rs
unfolding sum_over
others_sum f g r others [] out = refl
others_sum f g r others (q ∷ qs) out =
    omega (arith, others q (λ e. out (inl (sym e))), others_sum f g r others qs (λ h. out (inr h)))

-- sums over different numbers, of which r alone counts n more by g than by f
module _ (f g : ℕ → ℕ) (r : ℕ) (others : (q : ℕ) → q ≢ r → g q ≡ f q) where
  pub own_sum : (n : ℕ) → n + f r ≡ g r → (L : List ℕ) → Distinct L → Among r L → n + sum_over f L ≡ sum_over g L
  unfolding sum_over
  own_sum n own [] d h = elim h [ ]
  own_sum n own (q ∷ qs) d (inl e) = rw (← e) (omega (arith, own, others_sum f g r others qs (rw (← e) at d.0)))
  own_sum n own (q ∷ qs) d (inr h) = omega (arith, others q (λ e. d.0 (rw e h)), own_sum n own qs d.1 h)

pub none_sum : (f : ℕ → ℕ) (L : List ℕ) → ((r : ℕ) → Among r L → f r ≡ 0) → sum_over f L ≡ 0
unfolding sum_over
none_sum f [] none = refl
none_sum f (r ∷ rs) none = omega (arith, none r (inl refl), none_sum f rs (λ q h. none q (inr h)))

-- a sum over different numbers in which r alone counts is what r counts, if r is one of them
module _ (f : ℕ → ℕ) (r : ℕ) (others : (q : ℕ) → q ≢ r → f q ≡ 0) (L : List ℕ) (d : Distinct L) where
  pub alone_sum : Among r L → sum_over f L ≡ f r
  alone_sum inside =
      let own = own_sum (λ q. 0) f r others (f r) (omega arith) L d inside in
      omega (arith, none_sum (λ q. 0) L (λ q h. refl))

  pub alone_le : sum_over f L ≤ f r
  alone_le =
      ⊎_elim (λ h. omega (arith, alone_sum h)) (λ out. omega (arith, none_sum f L (λ q h. others q (λ e. out (rw e at h)))))
      (among_or r L)

pub kept_sum : (test : ℕ → Bool) (L : List ℕ) → length (kept test L) ≡ sum_over (λ r. one (test r)) L
unfolding kept sum_over
kept_sum test [] = refl
kept_sum test (r ∷ rs) =
    let rest = kept_sum test rs in
    by_test (λ (l : List ℕ). length l ≡ one (test r) + sum_over (λ q. one (test q)) rs) (test r) (λ h. rw h (omega arith))
    (λ h. rw h (omega arith))

-- distinct numbers below n: taking one out of both sums, by induction on them
pub over_below : (f : ℕ → ℕ) (n : ℕ) (rs : List ℕ) → Distinct rs → All (λ r. r < n) rs → sum_over f rs ≤ sum_below f n
unfolding sum_over
over_below f n [] d all = omega arith
over_below f n (r ∷ rs) d all =
    omega (
      arith,
      others_sum f (without r f) r (without_other r f) rs d.0,
      below_without r f n all.0,
      over_below (without r f) n rs d.1 all.1,
    )
