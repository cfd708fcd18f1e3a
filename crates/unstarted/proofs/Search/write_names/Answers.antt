-- `Search::write_names` meets its contract: each turn of the loop takes the name of `routine`, if it has one, from those that are left.
use Prim.Native.Nat.{ℕ, ◌+◌, ◌≤◌, ◌<◌}
use mathlib.Core.Path.{◌≡◌, sym, ◌∙◌}
use mathlib.Core.Bool.{Bool, true, false}
use mathlib.Core.List.{List, [], ◌∷◌}
use native.Mathlib.Nat.{sub-eq-zero_of_le}
use native.Mathlib.Omega.{arith}
use lib.ListN.{length, length-set, take-append-drop}
use Rattle.numbers.proofs.Left.{more_left}
use Rattle.numbers.proofs.Buffers.{part_one}
use Rattle.unstarted.specs.Unstarted.{is_found, not_found}
use Rattle.unstarted.proofs.Search.write_names.Invariants.{left}
use Rattle.unstarted.proofs.Search.write_names.Goals.{then-not-flags-routine, else-not-flags-routine}
use Rattle.unstarted.proofs.Search.write_names.Goals as goal

-- the names from routine r on, and from the one behind it
module _ (flags : List Bool) (all r : ℕ) where
  named : r < all → is_found flags r ≡ false → left flags all r ≡ r ∷ left flags all (r + 1)
  unfolding not_found
  named h k = rw (more_left h, k)

  passed : r < all → is_found flags r ≡ true → left flags all r ≡ left flags all (r + 1)
  unfolding not_found
  passed h k = rw (more_left h, k)

  over : all ≤ r → left flags all r ≡ []
  unfolding not_found
  over h = rw (sub-eq-zero_of_le h)

pub loop-routine-preserved : goal.loop-routine-preserved
loop-routine-preserved c =
    let l = c.loop-routine in
    let flags = c.args.self.now.flags.now in
    let all = c.args.all in
    let r = l.routine in
    let more = c.loop-routine-test.true in
    let inv = l.invariant in
    elim c.if-not-flags-routine.branch [
      | then-not-flags-routine w ↦
          let here = named flags all r more w.if-not-flags-routine.true in
          let room : l.count < length l.names = omega (arith, inv.few, inv.size, more, c.requires.1) in
          rw (w.names-is, w.count-is)
          (record {
            buffer = part_one r l.count (left flags all (r + 1)) l.names room ∙ (rw here at inv.buffer);
            named = omega (arith, rw here at inv.named);
            few = omega (arith, inv.few);
            size = length-set l.names l.count r ∙ inv.size;
          })
      | else-not-flags-routine w ↦
          let here = passed flags all r more w.if-not-flags-routine.false in
          rw (w.names-is, w.count-is)
          (record { buffer = rw here at inv.buffer; named = rw here at inv.named; few = omega (arith, inv.few); size = inv.size })
    ]

pub returns : goal.returns
returns c =
    let l = c.loop-routine in
    let none = over c.args.self.now.flags.now c.args.all l.routine c.loop-routine-test.false in
    record {
      value = omega (arith, rw none at l.invariant.named);
      names_after = sym (take-append-drop l.count l.names) ∙ (rw none at l.invariant.buffer);
    }
