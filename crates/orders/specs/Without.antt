-- A game with the list or set that orders of one kind join emptied: what such an order may not touch. For an unknown kind, the whole game.
use Rattle.std.specs.Prelude.{ℕ, false, [], ◌∷◌, map, get_or, replicate}
use Rattle.layout.specs.Layout.{most_signals}
use Rattle.game.specs.declared.Game.{Game}
use Rattle.lines.specs.Lines.{empty}
use Rattle.game.specs.Game.{with_flags, with_routines, with_starting, with_broadcast}

-- by kind: the signals to broadcast, those to start, the sets to stop, suspend and resume
unfoldable pub without : ℕ → Game → Game
without kind g =
    get_or
    (with_broadcast g (replicate most_signals false)
    ∷ with_starting g empty
    ∷ with_routines g (map (λ x. with_flags x false x.suspending x.resuming) g.routines)
    ∷ with_routines g (map (λ x. with_flags x x.stopping false x.resuming) g.routines)
    ∷ with_routines g (map (λ x. with_flags x x.stopping x.suspending false) g.routines)
    ∷ [])
    kind g
