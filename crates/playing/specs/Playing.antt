-- Playing a round: its passes on the tables, and the call's answer.
use Rattle.std.specs.Prelude.{ℕ, ◌≡◌, Bool, List, length, ℤ}
use Rattle.game.specs.declared.Game.{Game}
use Rattle.round.specs.Actions.{at_start}
use Rattle.round.specs.Rounds.{round}
use Rattle.round.specs.Answers.{Answer}
use Rattle.tables.specs.declared.Tables.{Tables}
use Rattle.tables.specs.Tables.{field_count, state_in}
use Rattle.passing.specs.Effects.{marks_of}
use Rattle.passing.specs.Turns.{marks_after}
use Rattle.playing.specs.declared.Played.{Played}

-- the passes of a round from game g are done: the tables hold the state behind them, so many passes were made, and the marks lie in the
-- buffer that was `before`
pub record PassesDone (book : List ℕ) (g : Game) (t : Tables) (passes : ℕ) (before after : List ℤ) : Type 0 where
  pub given : List ℤ
  pub eoi : Bool
  pub holds : state_in (at_start g).game t given eoi ≡ (round book g).played.state
  pub marked : marks_of after t.tally.marks ≡ marks_after (round book g).played.trace (marks_of before 0)
  pub passed : passes ≡ (round book g).passes
  pub fields_long : length t.fields ≡ field_count

-- the answer of the call, with the buffer that it leaves
abbrev pub answered : Played → List ℤ → Answer
answered p buffer =
    record { verdict = p.verdict; game = p.game; passes = p.passes; marks = p.marks; lost = p.lost; buffer = buffer }
