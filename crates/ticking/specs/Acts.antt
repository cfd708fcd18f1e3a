-- What a step comes to, as the code that plays asks for it: of accepted steps, whose kinds are known without the book's counts.
use Rattle.std.specs.Prelude.{ℕ, ◌<◌, ◌≡◌, List, [], ◌∷◌, ltb, ℤ, if◌then◌else◌, Some}
use Rattle.numbers.specs.Numbers.{word_limit}
use Rattle.kinds.specs.declared.Kind.{Kind}
use Rattle.kinds.specs.declared.Kind.TheVariants as kind
use Rattle.kinds.specs.declared.Counts.{Counts}
use Rattle.kinds.specs.Steps.{kind_at, step_at, steps_in}
use Rattle.layout.specs.Layout.{most_routines, most_signals, most_counters}
use Rattle.round.specs.declared.Position.{Position}
use Rattle.round.specs.declared.Effect.{Effect}
use Rattle.round.specs.declared.Effect.TheVariants.{Nothing, Mark, Put, Add, Give, GiveNumber, Start, Stop, Suspend, Resume}
use Rattle.round.specs.declared.Act.{Act}
use Rattle.round.specs.State.{State}
use Rattle.round.specs.Ticks.{tick_of, ends_here}

-- What the step at position x comes to, or the routine's end. The routine's number is in a step's events and nothing else comes of it: any
-- number does, here 0.
unfoldable pub act_at : List ℕ → Position → State → Act
act_at steps x s =
    if ltb x.place (steps_in steps) then (tick_of 0 steps x s (kind_at steps x.place)).act else (ends_here 0 steps x s).act

-- a kind whose counters, signals and routines the tables have a place for; a count is below the limit of a field, a reading's k is not 0
abbrev pub Within : Kind → Type 0
Within (kind.Mark n) = Unit {0}
Within (kind.Set c n) = c < most_counters
Within (kind.Add c n) = c < most_counters
Within (kind.Take c d) = (c < most_counters) × (d < most_counters)
Within (kind.Signal e) = e < most_signals
Within (kind.SignalNumber e c) = (e < most_signals) × (c < most_counters)
Within kind.Rest = Unit {0}
Within (kind.RestFor n) = n < word_limit
Within (kind.Wait e) = e < most_signals
Within (kind.WaitFor e n) = (e < most_signals) × (n < word_limit)
Within (kind.Join t) = t < most_routines
Within (kind.JoinFor t n) = (t < most_routines) × (n < word_limit)
Within (kind.Read e c k) = (e < most_signals) × (c < most_counters) × (0 < k)
Within (kind.Start t) = t < most_routines
Within (kind.Stop t) = t < most_routines
Within (kind.Suspend t) = t < most_routines
Within (kind.Resume t) = t < most_routines
Within (kind.If c relation n) = c < most_counters
Within kind.Else = Unit {0}
Within (kind.While c relation n) = c < most_counters
Within kind.End = Unit {0}

-- the tables have a place for what each of these steps names
abbrev pub AllWithin : List ℕ → Type 0
AllWithin steps = (p : ℕ) → p < steps_in steps → Within (kind_at steps p)

-- no step is turned down under the book's counts
abbrev pub Decodes : Counts → List ℕ → Type 0
Decodes counts steps = (p : ℕ) → p < steps_in steps → step_at counts steps p ≡ Some (kind_at steps p)

-- the marks that routine r leaves by an effect
abbrev pub mark_by : ℕ → Effect → List (ℕ × ℤ)
mark_by r Nothing = []
mark_by r (Mark n) = (r, n) ∷ []
mark_by r (Put c v) = []
mark_by r (Add c v) = []
mark_by r (Give e) = []
mark_by r (GiveNumber e v) = []
mark_by r (Start t) = []
mark_by r (Stop t) = []
mark_by r (Suspend t) = []
mark_by r (Resume t) = []
