-- What a state of a round keeps from the eight actions on: its game fits, there is a flag for each signal and each routine that there
-- can be, and every number given is one that a counter holds.
use Rattle.std.specs.Prelude.{◌≡◌, List, ℕ, length, ℤ}
use Rattle.numbers.specs.Numbers.{CounterInRange}
use Rattle.numbers.specs.Counting.{All}
use Rattle.layout.specs.Layout.{most_routines, most_signals}
use Rattle.fitting.specs.Fits.{Fits}
use Rattle.round.specs.State.{State}

-- each number given is in range, whatever signal it was given with
abbrev pub NumbersRight : List (ℕ × ℤ) → Type 0
NumbersRight = All (λ x. CounterInRange x.1)

pub record Sound (book : List ℕ) (s : State) : Type 0 where
  pub fits : Fits book s.game
  pub present : length s.present ≡ most_signals
  pub end_signals : length s.end_signals ≡ most_routines
  pub numbers : NumbersRight s.numbers
