-- Whether the routines of a game fit a book, as it is tested, each slot of the array in turn: document 01, "A game fits a book if".
use Rattle.std.specs.Prelude.{ℕ, Bool, true, false, ◌&&◌, ◌||◌, not, List, [], ◌∷◌, leb, ltb, eqb, get_or, if◌then◌else◌}
use Rattle.forms.specs.Timed.{timed_count}
use Rattle.directory.specs.Directory.{step_count, routine_step}
use Rattle.game.specs.declared.Routine.{Routine}
use Rattle.game.specs.declared.Game.{Game}
use Rattle.lines.specs.Lines.{is_in}
use Rattle.game.specs.Game.{not_started, routine_at}

-- "anything kept beyond them is 0", of a routine
abbrev pub is_blank : Routine → Bool
is_blank x =
    eqb x.stage not_started
    && eqb x.place 0
    && eqb x.left 0
    && not (x.suspended || x.begun || x.stopping || x.suspending || x.resuming)

-- "routines in stages 1 and 2 are listed, those in 0 and 4 are not, and 3 may be either"; no other stage fits
abbrev pub stage_fits : ℕ → Bool → Bool
stage_fits stage listed = get_or (not listed ∷ listed ∷ listed ∷ true ∷ not listed ∷ []) stage false

-- "those to start are in stage 0"
abbrev pub start_fits : ℕ → Bool → Bool
start_fits stage starting = if starting then eqb stage not_started else true

-- "Begun is set only at a step of op 7, 9 or 11, and the count left then lies from 0 to n − 1; otherwise it is 0."
-- The count is that of the step at the routine's place; a step of any other op has the count 0.
abbrev pub left_fits : Bool → ℕ → ℕ → Bool
left_fits begun left count = if begun then ltb left count else eqb left 0

-- routine r of the book, given whether it is listed and whether it is to start; "place (0 to its step count)"
unfoldable pub routine_fits : List ℕ → ℕ → Routine → Bool → Bool → Bool
routine_fits s r x listed starting =
    leb x.place (step_count s r)
    && stage_fits x.stage listed
    && start_fits x.stage starting
    && left_fits x.begun x.left (timed_count (routine_step s r x.place))

-- slot r of the routines: a routine of the book, or beyond R
unfoldable pub slot_fits : List ℕ → Game → ℕ → Bool
slot_fits s g r =
    if ltb r g.counts.routines
    then routine_fits s r (routine_at g r) (is_in g.listed r) (is_in g.starting r)
    else is_blank (routine_at g r)
