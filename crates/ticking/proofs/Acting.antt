-- What a choice of ticks comes to, and what a join asks of the tables.
use Prim.Native.Nat.{ℕ, ◌<◌}
use mathlib.Core.Path.{◌≡◌, refl}
use mathlib.Core.Bool.{Bool, true, false, ◌&&◌, ◌||◌, not}
use mathlib.Core.List.{List}
use lib.IntN.{ℤ}
use lib.ListN.{get_or}
use Rattle.std.specs.Prelude.{if◌then◌else◌}
use Rattle.layout.specs.Layout.{most_routines}
use Rattle.game.specs.declared.Game.{Game}
use Rattle.game.specs.Game.{blank}
use Rattle.tables.specs.declared.Tally.{Tally}
use Rattle.tables.specs.Tables.{stages_row, ends_row, row_at, routine_in, state_of}
use Rattle.numbers.proofs.Lists.{below_read}
use Rattle.round.specs.declared.Act.{Act}
use Rattle.round.specs.State.{Event, counts_as_ended, is_end_there}
use Rattle.round.specs.Ticks.{Tick, tick_with}

-- what a choice of ticks comes to
pub choice_act : (b : Bool) (t u : Tick) → (if b then t else u).act ≡ (if b then t.act else u.act)
choice_act true t u = refl
choice_act false t u = refl

-- of a timed step, which also goes on with none left
pub timed_act :
    (none there : Bool) (a : Act) (p q : List Event) (t : Tick) →
    (if none && not there then tick_with a p else if there then tick_with a q else t).act ≡ (if none || there then a else t.act)
timed_act true true a p q t = refl
timed_act true false a p q t = refl
timed_act false true a p q t = refl
timed_act false false a p q t = refl

-- a routine's stage and its end signal stand in their rows
module _ (g : Game) (counters : List ℤ) (flags : List Bool) (fields : List ℕ) (given : List ℤ) (t : Tally) (eoi : Bool) where
  pub end_held :
      (r : ℕ) → r < most_routines →
      is_end_there (state_of g counters flags fields given t eoi) r
      ≡ (counts_as_ended (get_or (row_at stages_row fields) r 0) || get_or (row_at ends_row flags) r false)
  unfolding state_of is_end_there
  end_held r h = rw (below_read most_routines (routine_in flags fields) r blank h)
