-- `turns::end_with` meets its contract: only a routine's end gives its end signal and is a move.
use mathlib.Core.Path.{refl}
use Rattle.tables.proofs.Rows.{put_length}
use Rattle.passing.proofs.Held.{still_whole}
use Rattle.passing.proofs.Left.{ended_held}
use Rattle.passing.proofs.turns.end_with.Goals.{in-Ended, in_default}
use Rattle.passing.proofs.turns.end_with.Goals as goal

pub returns-then-matches-clause-eoi_after : goal.returns-then-matches-clause-eoi_after
returns-then-matches-clause-eoi_after c =
    λ g given eoi.
    elim c.match-matches.branch [
      | in-Ended w ↦ rw (w.in-Ended.is, c.put_flag.ensures) (ended_held g _ _ _ given _ eoi _)
      | in_default w ↦ cc
    ]

pub returns-then-matches-clause-whole : goal.returns-then-matches-clause-whole
returns-then-matches-clause-whole c =
    λ room whole. rw c.put_flag.ensures (still_whole whole (put_length _ _ _ _) refl whole.starting_fits whole.given_fits)
