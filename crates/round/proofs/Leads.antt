-- Where the step at a place of a routine leads, by the form that stands there: the edges along which a turn goes. An opening has two, one
-- for each outcome of its test, and a pause has none, unless it is a timed rest that is over.
use Prim.Native.Nat.{ℕ, ◌+◌}
use mathlib.Core.Path.{◌≡◌}
use mathlib.Core.Bool.{Bool, true, false}
use mathlib.Core.List.{List}
use Rattle.std.specs.Prelude.{if◌then◌else◌}
use Rattle.kinds.specs.declared.Counts.{Counts}
use Rattle.kinds.specs.Steps.{steps_in}
use Rattle.forms.specs.declared.Form.TheVariants.{Plain, Pausing, IfOpening, ElseMarker, WhileOpening, EndMarker}
use Rattle.blocks.specs.Blocks.{View, beyond, unreadable, stands, view_at}
use Rattle.round.specs.declared.Position.{Position}
use Rattle.round.specs.Jumps.{past_partner, from_end}

-- no turn goes on from here in the round that comes here
abbrev pub is_halt : View → Bool
is_halt beyond = true
is_halt unreadable = true
is_halt (stands Plain) = false
is_halt (stands Pausing) = true
is_halt (stands IfOpening) = false
is_halt (stands ElseMarker) = false
is_halt (stands WhileOpening) = false
is_halt (stands EndMarker) = false

-- the place that follows p, where a test comes out as t
abbrev pub next_by : List ℕ → View → ℕ → Bool → ℕ
next_by steps beyond p t = p
next_by steps unreadable p t = p
next_by steps (stands Plain) p t = p + 1
next_by steps (stands Pausing) p t = p
next_by steps (stands IfOpening) p t = if t then p + 1 else past_partner steps p
next_by steps (stands ElseMarker) p t = past_partner steps p
next_by steps (stands WhileOpening) p t = if t then p + 1 else past_partner steps p
next_by steps (stands EndMarker) p t = from_end steps p

module _ (counts : Counts) (steps : List ℕ) where
  abbrev pub form_at : ℕ → View
  form_at = view_at counts steps (steps_in steps)

  -- from p a turn may go to q
  pub record Leads (p q : ℕ) : Type 0 where
    pub goes_on : is_halt (form_at p) ≡ false
    pub test : Bool
    pub to : q ≡ next_by steps (form_at p) p test

  -- from position x a turn may go to q: along an edge, or past a timed rest that is over
  pub data Leaves (x : Position) : ℕ → Type 0 where
    leads : {q : ℕ} → Leads x.place q → Leaves x q
    rest_over : x.begun ≡ true → form_at x.place ≡ stands Pausing → Leaves x (x.place + 1)
