-- Numbers as bytes, there and back: of 16 and of 32 bits, and signed.
use Prim.Native.Nat.{ℕ, ◌+◌, ◌*◌, ◌-◌, ◌/◌, ◌%◌, ◌<◌}
use mathlib.Core.Path.{◌≡◌, ap}
use mathlib.Core.List.{[], ◌∷◌}
use native.Mathlib.Omega.{arith}
use native.Mathlib.Nat.{add-mul-div_right, add-mul-mod_self_right, mod-eq_of_lt}
use borrow.Author.Tests.{lt-ltb, le-ltb, ltb-false}
use lib.Dec.{ltb, leb→le, lit<}
use lib.IntN.{ℤ, pos, negsuc}
use Rattle.numbers.specs.Numbers.{byte_limit, half_limit, word_limit, half_of, word_of, signed, CounterInRange}
use Rattle.numbers.specs.Bytes.{half_bytes, word_bytes, complement}
use Rattle.numbers.proofs.Tests.{by_flag}

pub half_back : (n : ℕ) → n < half_limit → half_of (n % byte_limit) (n / byte_limit % byte_limit) ≡ n
half_back n h = omega arith

-- a byte, and what is in the bytes above it
low_byte : (a m : ℕ) → a < byte_limit → (a + m * byte_limit) % byte_limit ≡ a
low_byte a m h = omega (arith, add-mul-mod_self_right a m byte_limit)

high_bytes : (a m : ℕ) → a < byte_limit → (a + m * byte_limit) / byte_limit ≡ m
high_bytes a m h = omega (arith, add-mul-div_right a m {z = byte_limit} (lit< tt))

pub half_bytes_lem : (a b : ℕ) → a < byte_limit → b < byte_limit → half_bytes (half_of a b) ≡ a ∷ b ∷ []
half_bytes_lem a b h k =
    let low : half_of a b % byte_limit ≡ a = low_byte a b h in
    let high : half_of a b / byte_limit % byte_limit ≡ b = rw (high_bytes a b h) (mod-eq_of_lt k) in
    rw (low, high)

pub word_back :
    (n : ℕ) → n < word_limit →
    word_of (n % byte_limit) (n / byte_limit % byte_limit) (n / half_limit % byte_limit) (n / half_limit / byte_limit % byte_limit) ≡ n
word_back n h = omega arith

pub word_bytes_lem :
    (a b c d : ℕ) → a < byte_limit → b < byte_limit → c < byte_limit → d < byte_limit → word_bytes (word_of a b c d) ≡ a ∷ b ∷ c ∷ d ∷ []
word_bytes_lem a b c d h k l m =
    let w = word_of a b c d in
    let upper = half_of c d in
    let all = b + upper * byte_limit in
    let split : w ≡ a + all * byte_limit = omega arith in
    let high : w / half_limit ≡ upper = omega (arith, add-mul-div_right (half_of a b) upper {z = half_limit} (lit< tt)) in
    let one : w % byte_limit ≡ a = rw split (low_byte a all h) in
    let two : w / byte_limit % byte_limit ≡ b = rw (split, high_bytes a all h) (low_byte b upper k) in
    let three : w / half_limit % byte_limit ≡ c = rw high (low_byte c d l) in
    let four : w / half_limit / byte_limit % byte_limit ≡ d = rw (high, high_bytes c d l) (omega arith) in
    rw (one, two, three, four)

-- a counter's content has 32 bits, and is read back from them
pub complement_back : (v : ℤ) → CounterInRange v → (complement v < word_limit) × (signed (complement v) ≡ v)
complement_back (pos n) h = let small = leb→le n 1000000 h.1.le in (omega arith, rw (lt-ltb n 2147483648 (omega arith)))
complement_back (negsuc n) h =
    let small = leb→le n 999999 h.0.le in
    (omega arith, rw (le-ltb (word_limit - (n + 1)) 2147483648 (omega arith)) (ap negsuc (omega arith)))

pub complement_signed : (w : ℕ) → w < word_limit → complement (signed w) ≡ w
complement_signed w h =
    by_flag (ltb w 2147483648) (λ e. rw e)
    (λ e. let high = ltb-false w 2147483648 e in rw e (omega arith))
