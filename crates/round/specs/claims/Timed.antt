-- What timed steps share, those of op 7, 9 and 11. Document 01: "What timed steps share is shown for all three together."
use Rattle.std.specs.Prelude.{ℕ, ◌+◌, ◌-◌, ◌<◌, ◌≡◌, Bool, true, false, List, ◌⊎◌, Option}
use Rattle.numbers.specs.Counting.{Somewhere, Among}
use Rattle.kinds.specs.declared.Kind.{Kind}
use Rattle.kinds.specs.Steps.{step_at}
use Rattle.forms.specs.Timed.{Timed, rest_for, wait_for, join_for}
use Rattle.layout.specs.Layout.{counts_of}
use Rattle.directory.specs.Directory.{routine_steps}
use Rattle.game.specs.declared.Game.{Game}
use Rattle.game.specs.Game.{rested, routine_at}
use Rattle.round.specs.declared.Ending.{Ending}
use Rattle.round.specs.declared.Ending.TheVariants.{Continued}
use Rattle.round.specs.declared.Position.{Position}
use Rattle.round.specs.declared.Effect.TheVariants.{Nothing}
use Rattle.round.specs.declared.Act.TheVariants.{Goes, Halts}
use Rattle.round.specs.State.{State, signal, end, completed, is_there}
use Rattle.round.specs.Actions.{position_of, at_start}
use Rattle.round.specs.Ticks.{begun_at, count_at, tick_at}
use Rattle.round.specs.Rounds.{stage_after, listed_in, trace_of, state_after}

-- what the step asks for is there; a rest asks for nothing
abbrev pub has_thing : State → {st : Option Kind} {n : ℕ} → Timed st n → Bool
has_thing s rest_for = false
has_thing s (wait_for {e}) = is_there s (signal e)
has_thing s (join_for {r}) = is_there s (end r)

-- a routine that is kept at the step pauses: at a rest in any pass, at the others once the round is being closed
abbrev pub is_pausing : State → {st : Option Kind} {n : ℕ} → Timed st n → Bool
is_pausing s rest_for = true
is_pausing s wait_for = s.eoi
is_pausing s join_for = s.eoi

-- what the step comes to for routine r at position x, with its count: what is left of it, or n
pub record TimedTick (r : ℕ) (steps : List ℕ) (x : Position) (s : State) {st : Option Kind} {n : ℕ} (timed : Timed st n) : Type 0 where
  -- with none left, or with its thing there, it is past and changes nothing
  pub goes_on : (count_at x n ≡ 0) ⊎ (has_thing s timed ≡ true) → (tick_at r steps x s st).act ≡ Goes (x.place + 1) Nothing
  -- otherwise the routine rests on the step with one less left, "Begun is set when op 7, 9 or 11 pauses",
  pub pauses :
      0 < count_at x n → has_thing s timed ≡ false → is_pausing s timed ≡ true →
      (how : Ending) × ((tick_at r steps x s st).act ≡ Halts how (begun_at x.place (count_at x n - 1))) × (stage_after how ≡ rested)
  -- or is to be continued where it stands
  pub stays :
      0 < count_at x n → has_thing s timed ≡ false → is_pausing s timed ≡ false → (tick_at r steps x s st).act ≡ Halts Continued x

-- what a round from game g makes of the step for routine r, which stands there at position x when the passes begin
pub record TimedRound (book : List ℕ) (g : Game) (r : ℕ) (x : Position) {st : Option Kind} {n : ℕ} (timed : Timed st n) : Type 0 where
  -- with none left, or with its thing there at the round's end, it is past in this round
  pub goes_past :
      (count_at x n ≡ 0) ⊎ (has_thing (state_after book g) timed ≡ true) →
      Somewhere (λ h. h ≡ completed r x.place) (trace_of book g)
  -- otherwise the routine has rested on it, with one less left
  pub counts_down :
      0 < count_at x n → has_thing (state_after book g) timed ≡ false →
      let back = routine_at (state_after book g).game r in
      (back.stage ≡ rested) × (position_of back ≡ begun_at x.place (count_at x n - 1))

-- so it is for every listed routine that isn't suspended; "Listed, suspended: once the eight actions are done."
abbrev pub CountsDown : List ℕ → Game → Type 0
CountsDown book g =
    (r : ℕ) → Among r (listed_in g) →
    let x = routine_at (at_start g).game r in
    x.suspended ≡ false → (n : ℕ) (timed : Timed (step_at (counts_of book) (routine_steps book r) x.place) n) →
    TimedRound book g r (position_of x) timed
