-- A try again with nothing come since, and a pass that begins with eoi set.
use Rattle.std.specs.Prelude.{ℕ, ◌≡◌, true, false, List, [], ◌∷◌, ◌++◌, Some}
use Rattle.numbers.specs.Counting.{how_many}
use Rattle.game.specs.declared.Game.{Game}
use Rattle.game.specs.Game.{routine_at}
use Rattle.round.specs.declared.Ending.TheVariants.{Continued}
use Rattle.round.specs.State.{State, Thing, Event, missing, is_there}
use Rattle.round.specs.Actions.{position_of, at_start}
use Rattle.round.specs.Rounds.{all_done, for_next_pass, listed_in, turn, pass}
use Rattle.round.specs.claims.Demand.{gives_signal, ends_routine}

module _ (book : List ℕ) where
  -- Rules 15, 26 and 31; "A join left waiting asks again at every try".
  -- a turn of routine r from state s that is to be continued stopped at a place, where the routine then stands, since a thing was missing;
  -- a turn from a state u in which eoi is not set, the thing is still missing and the routine has the stage, the suspension and the
  -- position that the first turn left it leaves u as it is and is to be continued
  pub record TriesAgain (r : ℕ) (s : State) : Type 0 where
    pub place : ℕ
    pub thing : Thing
    pub stands : (routine_at (turn book r s).state.game r).place ≡ place
    pub before : List Event
    pub missed : (turn book r s).trace ≡ before ++ (missing r place thing ∷ [])
    pub try_again :
        (u : State) → let x = routine_at (turn book r s).state.game r in let y = routine_at u.game r in
        y.stage ≡ x.stage → y.suspended ≡ x.suspended → position_of y ≡ position_of x → is_there u thing ≡ false → u.eoi ≡ false →
        turn book r u ≡ record { state = u; trace = missing r place thing ∷ []; turns = Some Continued ∷ [] }

  -- a pass of the round from game g begins in state s: the first one, or one behind a pass in which not all was done
  pub data Begins (g : Game) : State → Type 0 where
    first : Begins g (at_start g)
    next :
        {s : State} → Begins g s → all_done (pass book (listed_in g) s).turns ≡ false →
        Begins g (for_next_pass (pass book (listed_in g) s).state)

  -- Rules 36 to 38; of eoi section 3.2 says: "Then, the threads cooperate, which leads to a situation where all non-suspended threads in
  -- actual are terminated, or have cooperated."
  -- what holds of a pass that begins with eoi set: it gives no signal and ends no routine, and no turn of it is to be continued, so it is
  -- the round's last; a round may also end without such a pass, by rule 37
  pub record Closes (g : Game) (s : State) : Type 0 where
    pub no_signal : how_many gives_signal (pass book (listed_in g) s).trace ≡ 0
    pub no_end : how_many ends_routine (pass book (listed_in g) s).trace ≡ 0
    pub done : all_done (pass book (listed_in g) s).turns ≡ true
