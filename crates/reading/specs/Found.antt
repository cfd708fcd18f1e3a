-- What the readers find, and how the definitions of blocks say the same.
use Rattle.std.specs.Prelude.{ℕ, min, ◌≡◌, List, ltb, ℤ, if◌then◌else◌, Option, Some, None, Result, Ok, Err}
use Rattle.kinds.specs.Steps.{steps_in}
use Rattle.kinds.specs.Limits.{step_within}
use Rattle.forms.specs.declared.Form.TheVariants.{ElseMarker, EndMarker}
use Rattle.blocks.specs.declared.Fault.{Fault}
use Rattle.blocks.specs.Blocks.{Walk, past, View, beyond, stands, seen, and_then}
use Rattle.verdicts.specs.declared.Verdict.{Verdict}
use Rattle.verdicts.specs.Verdicts.{accepted, refused}
use Rattle.reading.specs.declared.readers.Block.{Block}
use Rattle.reading.specs.declared.readers.Stop.{Stop}
use Rattle.reading.specs.declared.readers.Stop.TheVariants.{Beyond, AtElse, AtEnd}

-- what stands at a place of a routine whose steps these are, held against limits
unfoldable pub view_by : List (List (List ℤ)) → List ℕ → ℕ → View
view_by limits steps p = if ltb p (steps_in steps) then seen (step_within limits steps p) else beyond

-- what stands where a block stops
abbrev pub stop_view : Stop → View
stop_view Beyond = beyond
stop_view AtElse = stands ElseMarker
stop_view AtEnd = stands EndMarker

-- what is found of a block, as a walk: what stops it is behind it
abbrev pub walk_of : Result Block Fault → Walk
walk_of (Ok b) = past b.at b.pauses b.lowest
walk_of (Err f) = Err f

-- a block stops where that stands which stops it
abbrev pub Stopped : (ℕ → View) → Result Block Fault → Type 0
Stopped at (Ok b) = at b.at ≡ stop_view b.stop
Stopped at (Err f) = Unit {0}

-- the walk w, where l is the lowest endless while that was met before it
abbrev pub lowered : ℕ → Walk → Walk
lowered l w = and_then w (λ q u m. past q u (min l m))

-- what is told of the lowest while without a pause, where there is one
abbrev pub unpaused_verdict : Option ℕ → Verdict
unpaused_verdict (Some p) = refused 7 p
unpaused_verdict None = accepted
