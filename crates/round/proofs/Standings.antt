-- How each routine stands in a state of a round: its stage, whether it is suspended, and its position. These alone decide whether it takes
-- a turn and where the turn begins, so a routine that stands the same in two states has been left alone between them. Last stands that
-- what is there in one state is still there in another.
use Prim.Native.Nat.{ℕ}
use mathlib.Core.Path.{◌≡◌, refl, ◌∙◌}
use mathlib.Core.Bool.{true}
use Rattle.game.specs.declared.Routine.{Routine}
use Rattle.game.specs.Game.{routine_at}
use Rattle.round.specs.State.{State, Thing, is_there}
use Rattle.round.specs.Actions.{position_of}

-- x stands as y does
pub record SameStanding (x y : Routine) : Type 0 where
  pub stage : x.stage ≡ y.stage
  pub suspended : x.suspended ≡ y.suspended
  pub position : position_of x ≡ position_of y

pub same_standing : {x : Routine} → SameStanding x x
same_standing = record { stage = refl; suspended = refl; position = refl }

pub standing_then : {x y z : Routine} → SameStanding y x → SameStanding z y → SameStanding z x
standing_then a b =
    record { stage = b.stage ∙ a.stage; suspended = b.suspended ∙ a.suspended; position = b.position ∙ a.position }

-- each routine stands in state u as in state s
abbrev pub SameStandings : State → State → Type 0
SameStandings s u = (q : ℕ) → SameStanding (routine_at u.game q) (routine_at s.game q)

-- what is there in state s is there in state u
abbrev pub StillThere : State → State → Type 0
StillThere s u = (t : Thing) → is_there s t ≡ true → is_there u t ≡ true
