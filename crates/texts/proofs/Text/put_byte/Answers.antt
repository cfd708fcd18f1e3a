-- `Text::put_byte` meets its contract: a byte is below 256, so two hexadecimal digits are the fewest that hold it.
use Prim.Native.Nat.{ℕ, ◌-◌, ◌/◌, ◌%◌, ◌<◌}
use mathlib.Core.Path.{◌≡◌, ◌∙◌}
use native.Mathlib.Nat.{pow-le-pow_right}
use native.Mathlib.Omega.{arith}
use borrow.Author.Tests.{ltb-true, ltb-false}
use lib.Dec.{ltb}
use Rattle.numbers.proofs.Tests.{by_flag}
use Rattle.io.specs.Digits.{last_digits, IsDigitCount}
use Rattle.texts.specs.Texts.{hex_text}
use Rattle.texts.proofs.Text.put_byte.Goals as goal

two : (k n : ℕ) → n < 256 → IsDigitCount 16 2 n k → k ≡ 2
two k n h f =
    by_flag (ltb 2 k)
    (λ e.
    let some = ltb-true 2 k e in
    let more = pow-le-pow_right {n = 16} (omega arith) {i = 2} {j = k - 1} (omega arith) in
    omega (arith, f.2 some, more))
    (λ e. omega (arith, ltb-false 2 k e))

fewest : (k n : ℕ) → n < 256 → IsDigitCount 16 2 n k → last_digits 16 k n ≡ hex_text n
fewest k n h f =
    let one : n / 16 % 16 ≡ n / 16 = omega arith in
    rw (two k n h f, one)

pub returns : goal.returns
returns c =
    let d = c.hex-count in
    let digits = rw c.from.ensures at d.ensures.digits in
    let len = rw c.from.ensures at d.ensures.len in
    let text = digits ∙ fewest d.result c.args.byte c.ranges.byte.fits len in
    rw text at c.put.ensures
