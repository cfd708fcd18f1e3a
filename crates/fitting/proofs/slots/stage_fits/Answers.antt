-- `slots::stage_fits` meets its contract. In each arm the stage is known, so that the contract computes;
-- any other stage lies beyond the last.
use Prim.Native.Nat.{ℕ, ◌<◌}
use mathlib.Core.Path.{◌≡◌}
use mathlib.Core.Bool.{Bool, false}
use native.Mathlib.Omega.{arith}
use lib.ListN.{get_or-eq_default}
use Rattle.game.specs.Game.{stopped}
use Rattle.fitting.specs.Routines.{stage_fits}
use Rattle.fitting.proofs.slots.stage_fits.Goals as goal

beyond_last : (stage : ℕ) (listed : Bool) → stopped < stage → false ≡ stage_fits stage listed
beyond_last stage listed h = rw get_or-eq_default

pub returns-in_default : goal.returns-in_default
returns-in_default c = beyond_last c.args.stage c.args.listed (omega arith)
