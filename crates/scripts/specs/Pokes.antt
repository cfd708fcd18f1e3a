-- Whether a game stands for one that fits no book.
use Rattle.std.specs.Prelude.{Bool, List, ◌||◌}
use Rattle.std.specs.List.{flat_map, list_any}
use Rattle.scripts.specs.declared.pokes.Unheld.{Unheld}

abbrev pub any_of : List Bool → Bool
any_of flags = list_any (λ flag. flag) flags

-- some flag was given a number that it cannot hold
abbrev pub is_any : Unheld → Bool
is_any unheld = any_of (flat_map (λ flags. flags) unheld.routines) || any_of unheld.broadcast
