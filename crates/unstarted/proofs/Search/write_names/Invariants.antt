-- The invariant: the names from `routine` on, written behind those in the buffer, give the buffer that all of them give at the start, and
-- so many in all.
use Prim.Native.Nat.{ℕ, ◌+◌, ◌-◌, ◌≤◌}
use mathlib.Core.Path.{◌≡◌}
use mathlib.Core.Bool.{Bool}
use mathlib.Core.List.{List}
use lib.ListN.{length}
use Rattle.numbers.specs.Buffers.{with_front, with_part}
use Rattle.unstarted.specs.Unstarted.{not_found}
use Rattle.unstarted.proofs.Search.write_names.Given as goal

-- the names from routine r on, of so many routines
abbrev pub left : List Bool → ℕ → ℕ → List ℕ
left flags all r = not_found flags (all - r) r

abbrev pub invariant-loop-routine : goal.invariant-loop-routine
invariant-loop-routine l = record {
  buffer :
      with_part l.count (left l.self.flags.now l.all l.routine) l.names
      ≡ with_front (not_found l.self.flags.now l.all 0) l.initial.names;
  named : l.count + length (left l.self.flags.now l.all l.routine) ≡ length (not_found l.self.flags.now l.all 0);
  few : l.count ≤ l.routine;
  size : length l.names ≡ length l.initial.names;
}
