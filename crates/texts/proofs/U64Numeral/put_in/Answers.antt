-- `put_in` of `u64` meets its contract: the fewest digits that hold a number are its text, by induction on how many they are,
-- and 20 hold one of 64 bits.
use Prim.Native.Nat.{ℕ, zero, suc, ◌-◌, ◌*◌, ◌/◌, ◌%◌, ◌^◌, ◌≤◌, ◌<◌}
use mathlib.Core.Path.{◌≡◌, ◌∙◌}
use native.Mathlib.Nat.{one-le-pow, pow-suc, pow-le-pow_right}
use native.Mathlib.Omega.{arith}
use borrow.Author.Tests.{lt-ltb, le-ltb, ltb-true, ltb-false}
use lib.Dec.{ltb}
use Rattle.numbers.proofs.Tests.{by_flag}
use Rattle.io.specs.Digits.{last_digits, IsDigitCount}
use Rattle.texts.specs.Texts.{decimal_within, decimal_text}
use Rattle.texts.proofs.U64Numeral.put_in.Goals as goal

decimals : (k j n : ℕ) → k < j → n < 10 ^ suc k → (0 < k → 10 ^ k ≤ n) → last_digits 10 (suc k) n ≡ decimal_within j n
unfolding decimal_within
decimals k zero n h below least = let none : ⊥ = omega arith in absurd none
decimals zero (suc j) n h below least =
    let small : n < 10 = omega arith in
    let same : n % 10 ≡ n = omega arith in
    rw (same, lt-ltb n 10 small)
decimals (suc k) (suc j) n h below least =
    let small : n < 10 ^ suc k * 10 = rw pow-suc at below in
    let large : 10 ^ k * 10 ≤ n = rw pow-suc at (least (omega arith)) in
    let one : 1 ≤ 10 ^ k = one-le-pow k 10 (omega arith) in
    rw (le-ltb n 10 (omega arith), decimals k j (n / 10) (omega arith) (omega arith) (λ _. omega arith))

few : (k n : ℕ) → 10 ^ k ≤ n → n < 2 ^ 64 → k < 20
few k n h fits =
    by_flag (ltb k 20) (λ e. ltb-true k 20 e)
    (λ e. let more = pow-le-pow_right {n = 10} (omega arith) (ltb-false k 20 e) in omega (arith, more))

suc_sub_one : (n : ℕ) → suc n - 1 ≡ n
suc_sub_one n = omega arith

fewest : (k n : ℕ) → n < 2 ^ 64 → IsDigitCount 10 1 n k → last_digits 10 k n ≡ decimal_text n
fewest zero n fits f = let none : ⊥ = omega (arith, f.0) in absurd none
fewest (suc zero) n fits f = decimals zero 20 n (omega arith) f.1 (λ some. absurd (omega arith))
fewest (suc (suc k)) n fits f =
    let least : 10 ^ suc k ≤ n = rw (suc_sub_one (suc k)) at (f.2 (omega arith)) in
    decimals (suc k) 20 n (few (suc k) n least fits) f.1 (λ _. least)

pub returns : goal.returns
returns c =
    let d = c.decimal-count in
    let text = d.ensures.digits ∙ fewest d.result c.args.self c.ranges.self.fits d.ensures.len in
    rw text at c.put.ensures
