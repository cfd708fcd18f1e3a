-- What set-up, an order and reading a stored game answer.
use Rattle.std.specs.Prelude.{eqb, if◌then◌else◌}
use Rattle.verdicts.specs.declared.Verdict.{Verdict}
use Rattle.game.specs.declared.Game.{Game}
use Rattle.game.specs.declared.Outcome.{Outcome}

-- a verdict, with the game given where nothing is turned down; "After a refusal game and mark buffer are as lent"
abbrev pub unless_refused : Verdict → Game → Game → Outcome
unless_refused v given lent = record { verdict = v; game = if eqb v.number 0 then given else lent }
