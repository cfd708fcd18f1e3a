-- How a round begins. Document 01: "A round first does the eight actions of section 5.4 in order, so a resume comes before a suspend."
use Rattle.std.specs.Prelude.{ℕ, Bool, false, ◌&&◌, ◌||◌, not, List, [], ◌∷◌, map, eqb, get_or, set, replicate, if◌then◌else◌}
use Rattle.layout.specs.Layout.{most_signals}
use Rattle.game.specs.declared.Routine.{Routine}
use Rattle.game.specs.declared.Game.{Game}
use Rattle.lines.specs.Lines.{empty, entries_of, appended}
use Rattle.game.specs.Game.{continuing, rested, ended, stopped, blank, with_flags}
use Rattle.round.specs.declared.Position.{Position}
use Rattle.round.specs.State.{State}

-- those of some routines that pass a test
unfoldable pub kept : (ℕ → Bool) → List ℕ → List ℕ
kept test [] = []
kept test (r ∷ rs) = let rest = kept test rs in if test r then r ∷ rest else rest

-- the same change of each of some routines
unfoldable pub each : (Routine → Routine) → List ℕ → List Routine → List Routine
each change [] xs = xs
each change (r ∷ rs) xs = each change rs (set xs r (change (get_or xs r blank)))

-- where a routine stands
abbrev pub position_of : Routine → Position
position_of x = record { place = x.place; begun = x.begun; left = x.left }

-- a routine in this stage, at this position
abbrev pub placed : Routine → ℕ → Position → Routine
placed x stage y =
    record {
      stage = stage;
      place = y.place;
      left = y.left;
      suspended = x.suspended;
      begun = y.begun;
      stopping = x.stopping;
      suspending = x.suspending;
      resuming = x.resuming;
    }

-- "Starting gives stage 1." So does action 6: "set t.status to CONT".
abbrev pub in_stage1 : Routine → Routine
in_stage1 x = placed x continuing (position_of x)

-- "Stopping gives stage 4 to a listed routine in stage 1 or 2 and to no other."
abbrev pub in_stage4 : Routine → Routine
in_stage4 x = placed x stopped (position_of x)

abbrev pub gets_stopped : Routine → Bool
gets_stopped x = x.stopping && (eqb x.stage continuing || eqb x.stage rested)

-- actions 3 and 6: one to stop, and one whose status is TERM, is listed no more
abbrev pub stays_listed : Routine → Bool
stays_listed x = not x.stopping && not (eqb x.stage ended)

abbrev pub with_suspended : Routine → Bool → Routine
with_suspended x suspended =
    record {
      stage = x.stage;
      place = x.place;
      left = x.left;
      suspended = suspended;
      begun = x.begun;
      stopping = x.stopping;
      suspending = x.suspending;
      resuming = x.resuming;
    }

-- actions 4, 5 and 8: resumed, then suspended, and in no set any more
abbrev pub without_orders : Routine → Routine
without_orders x = with_flags (with_suspended x (x.suspending || x.suspended && not x.resuming)) false false false

-- the eight actions
unfoldable pub at_start : Game → State
at_start g =
    let starts = entries_of g.starting in
    -- 1. Those to start come behind those listed, in stage 1.
    let joined = entries_of (appended g.listed starts) in
    let started = each in_stage1 starts g.routines in
    -- 3. Those to stop go.
    let stops = kept (λ r. gets_stopped (get_or started r blank)) joined in
    -- 6. So do those that have ended; the others are in stage 1.
    let order = kept (λ r. stays_listed (get_or started r blank)) joined in
    record {
      game =
          record {
            counts = g.counts;
            -- 4. and 5., and 8. for the sets to stop, suspend and resume
            routines = map without_orders (each in_stage1 order (each in_stage4 stops started));
            counters = g.counters;
            listed = appended empty order;
            -- 8. Nothing is to start or to broadcast.
            starting = empty;
            broadcast = replicate most_signals false;
          };
      -- 2. The signals to broadcast are present.
      present = g.broadcast;
      -- 3. "The end signal of each routine in the stop set is present in the new round either way."
      end_signals = map (λ x. x.stopping) g.routines;
      -- 8. No numbers are given yet.
      numbers = [];
      -- Document 02: "the total of these over all additions of the round"
      lost = 0;
      -- "The move flag is clear when a round's first pass begins"
      moved = false;
      -- 7.
      eoi = false;
    }
