-- `play_listing::list_rounds` meets its contract. The loop's invariant: a text with the lines of the rounds that are left behind what is
-- there by now has the lines of all rounds behind what was there.
use Prim.Native.Nat.{ℕ, ◌+◌, ◌-◌}
use Rattle.texts.specs.declared.Text.{Text}
use Rattle.texts.specs.Held.{Puts}
use Rattle.play_listing.specs.Printed.{most_rounds, lines_from}
use Rattle.play_listing.proofs.list_rounds.Given as goal

-- the rounds that are left with this one
abbrev pub left : ℕ → ℕ
left number = most_rounds + 1 - number

abbrev pub invariant-loop-number : goal.invariant-loop-number
invariant-loop-number l =
    (after : Text) → Puts l.text (lines_from l.book (left l.number) l.number l.game) after →
    Puts l.initial.text (lines_from l.book most_rounds 1 l.initial.game) after
