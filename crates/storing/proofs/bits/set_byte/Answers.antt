-- `storing::bits::set_byte` meets its contract: each turn puts a bit below those that are there, which are fewer than eight.
use Prim.Native.Nat.{◌+◌, ◌*◌, ◌-◌}
use mathlib.Core.Path.{◌≡◌, refl, ◌∙◌}
use mathlib.Core.Bool.{false}
use native.Mathlib.Omega.{arith}
use borrow.Author.Rules.{rules}
use lib.ListN.{get_or}
use Rattle.std.specs.Prelude.{if◌then◌else◌}
use Rattle.stored_games.specs.Forms.{byte_bits}
use Rattle.storing.proofs.Flags.{bit_of_flag, bit_small, upper_none, upper_more, upper_all, upper_room}
use Rattle.storing.proofs.bits.set_byte.Goals as goal

pub loop-bit-init : goal.loop-bit-init
loop-bit-init c = upper_none _ _

pub overflow_mul-value : goal.overflow_mul-value
overflow_mul-value c =
    let l = c.loop-bit in
    omega (arith, l.invariant, upper_room c.args.flags.now c.args.byte l.bit c.loop-bit-test.true)

-- the bit that is put
bit : (c : goal.After-from) → c.from.result ≡ (if get_or c.args.flags.now (c.args.byte * byte_bits + (c.loop-bit.bit - 1)) false then 1 else 0)
bit c =
    let set : c.unwrap_or-is_set.result ≡ get_or c.args.flags.now (c.args.byte * byte_bits + (c.loop-bit.bit - 1)) false = search rules in
    c.from.ensures ∙ rw (bit_of_flag c.unwrap_or-is_set.result, set) refl

pub overflow_add-value : goal.overflow_add-value
overflow_add-value c =
    let l = c.loop-bit in
    let small = bit_small (get_or c.args.flags.now (c.args.byte * byte_bits + (l.bit - 1)) false) in
    omega (arith, bit c, small, l.invariant, upper_room c.args.flags.now c.args.byte l.bit c.loop-bit-test.true)

pub loop-bit-preserved : goal.loop-bit-preserved
loop-bit-preserved c =
    let l = c.loop-bit in
    let next = l.bit - 1 in
    let one : l.bit ≡ next + 1 = omega (arith, c.loop-bit-test.true) in
    let more = upper_more c.args.flags.now c.args.byte {left = next} (omega (arith, l.auto.bit)) in
    omega (arith, bit c, rw one at l.invariant, more)

pub returns : goal.returns
returns c =
    let l = c.loop-bit in
    let none : l.bit ≡ 0 = omega (arith, c.loop-bit-test.false) in
    (rw none at l.invariant) ∙ upper_all c.args.flags.now c.args.byte
