-- Why a round is turned down, or not: the clauses of document 01 that decide it.
use Rattle.std.specs.Prelude.{ℕ, suc, ◌<◌, ◌≤◌, ◌≡◌, Bool, false, not, List, eqb, length, ℤ, Some}
use Rattle.numbers.specs.Counting.{how_many}
use Rattle.kinds.specs.declared.Kind.TheVariants.{Mark}
use Rattle.kinds.specs.Steps.{step_at}
use Rattle.verdicts.specs.declared.Verdict.{Verdict}
use Rattle.verdicts.specs.Verdicts.{accepted, refused}
use Rattle.layout.specs.Layout.{counts_of}
use Rattle.book.specs.Book.{steps_part}
use Rattle.book.specs.Accepted.{Accepted}
use Rattle.book.specs.Reasons.{BookReason}
use Rattle.game.specs.declared.Game.{Game}
use Rattle.fitting.specs.Fits.{Fits}
use Rattle.round.specs.State.{Event, gave, ended, missing, past, marked, completed}
use Rattle.round.specs.Rounds.{round}
use Rattle.round.specs.Answers.{space_for, most_numbers}

-- 10. "the book's mark steps": step i of a book is one
abbrev pub MarkAt : List ℕ → ℕ → Type 0
MarkAt book i = (n : ℤ) × (step_at (counts_of book) (steps_part book) i ≡ Some (Mark n))

-- 11. "More than 1,024 numbers are given in one round.": how many were given, among what happened; a signal may be given with none
abbrev pub gives_number : Event → Bool
gives_number (gave e k) = not (eqb k 0)
gives_number (ended r) = false
gives_number (missing r p t) = false
gives_number (past r p t) = false
gives_number (marked r n) = false
gives_number (completed r p) = false

abbrev pub numbers_given : List Event → ℕ
numbers_given events = how_many gives_number events

-- "a round checks 1 to 7, then 9, 10, 11"
pub data RoundReason (s : List ℕ) (g : Game) (buffer : List ℤ) : Verdict → Type 0 where
  -- 1 to 7, as reading the book tells them
  book : {k p : ℕ} → BookReason s (suc k) p → RoundReason s g buffer (refused (suc k) p)
  -- 9. "The game doesn't fit the book."
  unfit : Accepted s → (Fits s g → ⊥) → RoundReason s g buffer (refused 9 0)
  -- 10. "The mark buffer .. is shorter than twice the book's mark steps."
  short : Accepted s → Fits s g → length buffer < space_for s → RoundReason s g buffer (refused 10 0)
  -- 11. "More than 1,024 numbers are given in one round."
  too_many :
      Accepted s → Fits s g → space_for s ≤ length buffer → most_numbers < numbers_given (round s g).played.trace →
      RoundReason s g buffer (refused 11 0)
  -- "both 0 where nothing is turned down"
  nothing :
      Accepted s → Fits s g → space_for s ≤ length buffer → numbers_given (round s g).played.trace ≤ most_numbers →
      RoundReason s g buffer accepted
