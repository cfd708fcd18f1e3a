-- The answer of the call that plays a round of a kept game.
use Rattle.std.specs.Prelude.{ℕ, List, ℤ, Result, Ok, Err}
use Rattle.verdicts.specs.declared.Refusal.{Refusal}
use Rattle.verdicts.specs.Verdicts.{told}
use Rattle.kept_games.specs.Kept.{KeptRound, refused_kept}
use Rattle.kept_rounds.specs.declared.Round.{Round}

-- the answer of the call, with the buffers that it leaves
abbrev pub kept_round : Round → List ℕ → List ℤ → KeptRound
kept_round r buffer marks =
    record {
      verdict = r.verdict;
      length = r.length;
      passes = r.passes;
      marks = r.marks;
      lost = r.lost;
      buffer = buffer;
      marks_buffer = marks;
    }

-- the same of a round or its refusal
abbrev pub kept_answer : Result Round Refusal → List ℕ → List ℤ → KeptRound
kept_answer (Ok r) buffer marks = kept_round r buffer marks
kept_answer (Err e) buffer marks = refused_kept (told e) buffer marks
