-- The eight actions of section 5.4 on the tables of a round. The definitions go over the tables as the code does, routine by routine.
use Rattle.std.specs.Prelude.{ℕ, Bool, false, ◌&&◌, ◌||◌, not, List, [], ◌∷◌, eqb, get_or, if◌then◌else◌}
use Rattle.std.proofs.lemmas.List.Edits.{sets}
use Rattle.lines.specs.declared.Line.{Line}
use Rattle.lines.specs.Lines.{empty, pushed, entries_of, appended}
use Rattle.game.specs.declared.Routine.{Routine}
use Rattle.game.specs.Game.{continuing, rested, ended, stopped}
use Rattle.round.specs.Actions.{without_orders}
use Rattle.tables.specs.Tables.{ends_row, suspended_row, begun_row, present_row, stages_row, places_row, lefts_row, row_at, put_in}

-- Routine r is taken apart. 3. Its end signal is present if it is to stop. 4. and 5. It is resumed, then suspended. 8. It is in no set any
-- more: the rows of those to stop, to suspend and to resume take nothing of it.
abbrev pub taken_flags : Routine → ℕ → List Bool → List Bool
taken_flags x r flags =
    put_in begun_row r x.begun (put_in suspended_row r (without_orders x).suspended (put_in ends_row r x.stopping flags))

abbrev pub taken_fields : Routine → ℕ → List ℕ → List ℕ
taken_fields x r fields = put_in lefts_row r x.left (put_in places_row r x.place (put_in stages_row r x.stage fields))

-- 1. These routines are in stage 1.
unfoldable pub continued : List ℕ → List ℕ → List ℕ
continued [] fields = fields
continued (r ∷ rs) fields = continued rs (put_in stages_row r continuing fields)

-- 2. These signals are present.
unfoldable pub with_signals : List Bool → List Bool → List Bool
with_signals signals flags = sets flags present_row signals

-- 3. The stage of a listed routine that is to stop
abbrev pub stopped_stage : ℕ → ℕ
stopped_stage stage = if eqb stage continuing || eqb stage rested then stopped else stage

-- 3. and 6. The stage of a listed routine, and whether it stays listed
abbrev pub settled_stage : Bool → ℕ → ℕ
settled_stage stops stage = if stops then stopped_stage stage else (if eqb stage ended then stage else continuing)

abbrev pub stays_in : Bool → ℕ → Bool
stays_in stops stage = not stops && not (eqb stage ended)

-- the same of routine r: in the set to stop are those whose end signal is present when a round begins
abbrev pub stays_at : List Bool → List ℕ → ℕ → Bool
stays_at flags fields r = stays_in (get_or (row_at ends_row flags) r false) (get_or (row_at stages_row fields) r 0)

abbrev pub settled_at : List Bool → ℕ → List ℕ → List ℕ
settled_at flags r fields = put_in stages_row r (settled_stage (get_or (row_at ends_row flags) r false) (get_or (row_at stages_row fields) r 0)) fields

-- 3. and 6. of these routines, one by one: the fields, and those that stay, put behind a list
unfoldable pub settled : List Bool → List ℕ → List ℕ → List ℕ
settled flags [] fields = fields
settled flags (r ∷ rs) fields = settled flags rs (settled_at flags r fields)

unfoldable pub settled_line : List Bool → List ℕ → List ℕ → Line → Line
settled_line flags [] fields line = line
settled_line flags (r ∷ rs) fields line =
    settled_line flags rs (settled_at flags r fields) (if stays_at flags fields r then pushed line r else line)

-- Actions 1, 3 and 6 of those listed and those to start: the fields, and the playing order
module _ (listed starting : Line) (flags : List Bool) (fields : List ℕ) where
  abbrev pub opened_fields : List ℕ
  opened_fields = settled flags (entries_of (appended listed (entries_of starting))) (continued (entries_of starting) fields)

  abbrev pub opened_order : Line
  opened_order = settled_line flags (entries_of (appended listed (entries_of starting))) (continued (entries_of starting) fields) empty
