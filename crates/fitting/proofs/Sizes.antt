-- The arrays of a game are as long as their types say exactly where the test of their lengths passes. By the test of each length.
-- Besides: the length of an array of a lent game, as its type shows it.
use Prim.Native.Nat.{ℕ}
use mathlib.Core.Path.{◌≡◌, sym, ◌∙◌}
use mathlib.Core.Bool.{true}
use mathlib.Core.List.{List, map}
use mathlib.Core.Logic.Iff
use mathlib.Core.Logic.{◌↔◌}
use lib.ListN.{length, length-map}
use Rattle.layout.specs.Layout.{most_routines, most_signals, most_counters}
use Rattle.lines.specs.Lines.{most_entries}
use Rattle.game.specs.declared.Game.{Game}
use Rattle.game.specs.Game.{Sized}
use Rattle.fitting.specs.Fitting.{is_sized}
use Rattle.fitting.proofs.Tests.{equal, both}

pub is_sized_lem : (g : Game) → (is_sized g ≡ true) ↔ Sized g
unfolding is_sized
is_sized_lem g =
    let routines = equal (length g.routines) most_routines in
    let counters = both routines (equal (length g.counters) most_counters) in
    let listed = both counters (equal (length g.listed.items) most_entries) in
    let starting = both listed (equal (length g.starting.items) most_entries) in
    Iff.trans (both starting (equal (length g.broadcast) most_signals)) (
      λ ((((r, c), l), s), b). record { routines = r; counters = c; listed = l; starting = s; broadcast = b },
      λ z. ((((z.routines, z.counters), z.listed), z.starting), z.broadcast),
    )

pub length_mapped : (X Y : Type 0) (f : X → Y) (l : List X) (n : ℕ) → length (map f l) ≡ n → length l ≡ n
length_mapped X Y f l n p = sym (length-map l f) ∙ p
