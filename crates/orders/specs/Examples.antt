-- Orders for T3's book, by evaluation: which are turned down, and what those to start are after some.
use Rattle.std.specs.Prelude.{ℕ, false, List, [], ◌∷◌}
use Rattle.verdicts.specs.declared.Verdict.{Verdict}
use Rattle.verdicts.specs.Verdicts.{accepted, refused}
use Rattle.layout.specs.Layout.{counts_of}
use Rattle.book.specs.Examples.{t3}
use Rattle.game.specs.declared.Routine.{Routine}
use Rattle.game.specs.declared.Game.{Game}
use Rattle.game.specs.Game.{continuing, ended, with_routine}
use Rattle.setup.specs.SetUp.{new_game}
use Rattle.orders.specs.Orders.{obeyed}

-- a routine at its first step, with nothing begun and nothing asked
abbrev pub in_stage : ℕ → Routine
in_stage k =
    record {
      stage = k;
      place = 0;
      left = 0;
      suspended = false;
      begun = false;
      stopping = false;
      suspending = false;
      resuming = false;
    }

abbrev pub set_up_game : Game
set_up_game = new_game (counts_of t3)

-- routine 1 is in this stage, and neither listed nor to start
abbrev pub unlisted_in : ℕ → Game
unlisted_in k = with_routine set_up_game 1 (in_stage k)

pub record Example : Type 0 where
  pub game : Game
  pub kind : ℕ
  pub number : ℕ
  pub verdict : Verdict

-- one signal and two routines; an unknown kind; a start that adds nothing; games that do not fit, which is told before a wrong order
abbrev pub examples : List Example
examples =
    record { game = set_up_game; kind = 0; number = 0; verdict = accepted }
    ∷ record { game = set_up_game; kind = 0; number = 1; verdict = refused 8 0 }
    ∷ record { game = set_up_game; kind = 4; number = 1; verdict = accepted }
    ∷ record { game = set_up_game; kind = 4; number = 2; verdict = refused 8 0 }
    ∷ record { game = set_up_game; kind = 5; number = 0; verdict = refused 8 0 }
    ∷ record { game = set_up_game; kind = 1; number = 0; verdict = accepted }
    ∷ record { game = unlisted_in ended; kind = 1; number = 1; verdict = accepted }
    ∷ record { game = unlisted_in continuing; kind = 1; number = 1; verdict = refused 9 0 }
    ∷ record { game = unlisted_in 5; kind = 5; number = 9; verdict = refused 9 0 }
    ∷ record { game = with_routine set_up_game 0 (in_stage ended); kind = 0; number = 0; verdict = refused 9 0 }
    ∷ record { game = with_routine set_up_game 2 (in_stage ended); kind = 0; number = 0; verdict = refused 9 0 }
    ∷ []

-- those to start once routine 1 was started, then both again
abbrev pub started_all : Game
started_all = obeyed (obeyed (obeyed set_up_game 1 1) 1 0) 1 1
