-- A round has no more marks than a book may have steps, whatever it is played on: a refused round has none, and an accepted one no more
-- than the buffer that 10 asks for holds.
use Prim.Native.Nat.{ℕ, ◌*◌, ◌≤◌}
use mathlib.Core.Path.{◌≡◌}
use mathlib.Core.List.{List}
use native.Mathlib.Decide.{ℕ_discrete}
use native.Mathlib.Omega.{arith}
use lib.Dec.{eqb}
use lib.IntN.{ℤ}
use lib.ListN.{length}
use Rattle.numbers.proofs.Counting.{count_all}
use Rattle.kinds.specs.Ops.{op_mark}
use Rattle.kinds.specs.Steps.{op_at}
use Rattle.verdicts.specs.declared.Verdict.{Verdict}
use Rattle.layout.specs.Layout.{steps_of, most_steps}
use Rattle.book.specs.Book.{steps_part}
use Rattle.book.specs.Accepted.{Accepted}
use Rattle.game.specs.declared.Game.{Game}
use Rattle.round.specs.Rounds.{trace_of}
use Rattle.round.specs.Answers.{marks_in, numbers_per_mark, space_for, round_verdict, answer}
use Rattle.round.specs.claims.Reasons.{RoundReason}
use Rattle.round.proofs.Once.{completed_once}
use Rattle.round.proofs.Reasons.{round_reason, turned_down_lem, played_out_lem}

-- the buffer that 10 asks for is never longer than one for as many marks as a book may have steps
pub space_few : (book : List ℕ) → Accepted book → space_for book ≤ numbers_per_mark * most_steps
space_few book a =
    let all = count_all (λ p. eqb (op_at (steps_part book) p) op_mark) (steps_of book) in
    omega (arith, all, a.laid.counts.few_steps)

module _ (book : List ℕ) (g : Game) (buffer : List ℤ) where
  few_by_reason : {v : Verdict} → RoundReason book g buffer v → v.number ≡ 0 → length (marks_in (trace_of book g)) ≤ most_steps
  few_by_reason (RoundReason.book t) e = absurd (omega arith)
  few_by_reason (RoundReason.unfit a m) e = absurd (omega arith)
  few_by_reason (RoundReason.short a f h) e = absurd (omega arith)
  few_by_reason (RoundReason.too_many a f h m) e = absurd (omega arith)
  few_by_reason (RoundReason.nothing a f h m) e = omega (arith, (completed_once book a g f).space, space_few book a)

  pub marks_few : (answer book g buffer).marks ≤ most_steps
  marks_few =
      elim (ℕ_discrete (round_verdict book g buffer).number 0) [
        | yes z ↦ rw (played_out_lem book g buffer z) (few_by_reason (round_reason book g buffer) z)
        | no n ↦ rw (turned_down_lem book g buffer n) (omega arith)
      ]
