-- `words::find` meets its contract: the place in the part behind `from`, or the length of that part, is the definition's.
use Prim.Native.Nat.{ℕ, ◌+◌, ◌-◌, ◌≤◌}
use mathlib.Core.List.{List}
use mathlib.Core.Path.{◌≡◌, refl, ap, ◌∙◌}
use native.Mathlib.Omega.{arith}
use lib.ListN.{length, drop, length-drop}
use Rattle.std.specs.Prelude.{◌==◌}
use Rattle.std.specs.List.{position, position_or_len}
use Rattle.std.specs.Option.{unwrap_or}
use Rattle.numbers.proofs.Parts.{rest_from}
use Rattle.words.proofs.Places.{within, or_end}
use Rattle.words.proofs.find.Goals as goal

found :
    (s : List ℕ) (from c k : ℕ) → from ≤ length s →
    k ≡ unwrap_or (position (λ b. b == c) (drop from s)) (length s - from) →
    k ≡ position_or_len (λ b. b == c) (drop from s)
found s from c k h e = e ∙ or_end (λ b. b == c) (drop from s) (omega (arith, length-drop from s))

pub returns-then-text-from : goal.returns-then-text-from
returns-then-text-from c =
    let behind = drop c.args.from c.args.text.now in
    let none = within (λ b. b == c.args.c) behind in
    (omega (arith, none, length-drop c.args.from c.args.text.now), omega arith, omega arith)

pub overflow_add-result : goal.overflow_add-result
overflow_add-result c =
    let s = c.args.text.now in
    let from = c.args.from in
    let place = rw (rest_from s {a = from} refl) at c.place.ensures in
    let k = found s from c.args.c c.unwrap_or.result c.if-text-from.false (rw place at c.unwrap_or.ensures) in
    record { fits = omega (arith, k, within (λ b. b == c.args.c) (drop from s), length-drop from s) }

pub returns : goal.returns
returns c =
    let s = c.args.text.now in
    let from = c.args.from in
    let place = rw (rest_from s {a = from} refl) at c.place.ensures in
    let k = found s from c.args.c c.unwrap_or.result c.if-text-from.false (rw place at c.unwrap_or.ensures) in
    (ap (λ n. from + n) k, omega arith, omega (arith, k, within (λ b. b == c.args.c) (drop from s), length-drop from s))
