-- `passes_with` meets its contract: the buffer has room for a number a step, and behind the passes the tables hold the state of the round.
use Prim.Native.Nat.{◌/◌, ◌≤◌}
use native.Mathlib.Omega.{arith}
use lib.IntN.{pos}
use lib.ListN.{length, replicate, length-replicate}
use Rattle.layout.specs.Layout.{steps_of}
use Rattle.playing.proofs.Passes.{passes_asked, passes_done}
use Rattle.playing.proofs.passes_with.Goals as goal

pub whole_as_slice-all_passes : goal.whole_as_slice-all_passes
whole_as_slice-all_passes g c = omega (arith, c.requires.room.1)

pub all_passes-requires : goal.all_passes-requires
all_passes-requires g c =
    let given = replicate g.row.N (pos 0) in
    let room : steps_of c.args.book.now ≤ length given / 2 = rw length-replicate c.requires.room.0 in
    let asked = passes_asked c.requires.opened.1 _ room given in
    record { whole = asked.0; by_index = asked.1.0; passes_ask = asked.1.1 }

pub returns : goal.returns
returns g c =
    let made = c.all_passes.ensures in
    λ q opened. passes_done opened _ _ _ _ made.passes_after.0 _ _ _ made.passes_after.1 made.whole_2
