-- `actions::broadcast` meets its contract: a copy over the last row of flags is the signals' stores, one by one.
use Prim.Native.Nat.{◌+◌}
use mathlib.Core.Path.{◌≡◌, sym}
use mathlib.Core.List.{◌++◌, append_assoc}
use native.Mathlib.Omega.{arith}
use borrow.Author.Rules.{rules}
use lib.ListN.{length, take, drop}
use lib.Seq.{sets-eq, drop-drop}
use Rattle.layout.specs.Layout.{most_signals}
use Rattle.tables.specs.Tables.{present_row}
use Rattle.opening.specs.Actions.{with_signals}
use Rattle.opening.proofs.actions.broadcast.Goals as goal

pub returns : goal.returns
unfolding with_signals
returns c =
    let signals = c.args.signals in
    let flags = c.args.tables.now.flags in
    let long : length signals ≡ most_signals = search rules in
    let stores = sets-eq signals flags present_row (omega (arith, long)) in
    let copied : take present_row flags ++ (signals ++ drop most_signals (drop present_row flags)) ≡ with_signals signals flags =
    rw (drop-drop most_signals present_row flags, ← (append_assoc (take present_row flags) signals (drop (present_row + most_signals) flags)))
    (rw long at (sym stores))
    in
    rw (c.copy_from_slice.ensures.after, copied)
