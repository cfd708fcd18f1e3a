-- Of a book that is longer than any accepted one, one byte more than the longest has is enough: it is refused as its first bytes say, with
-- 2 or else with 3, for its length is none that its counts allow.
use Prim.Native.Nat.{ℕ, ◌+◌, ◌*◌, ◌≤◌, ◌<◌}
use mathlib.Core.List.{List}
use mathlib.Core.Path.{◌≡◌, sym, ap, ◌∙◌}
use mathlib.Core.Bool.{true, false, and-false}
use native.Mathlib.Omega.{arith}
use borrow.Author.Tests.{le-leb, ne_eqb}
use lib.ListN.{length, take}
use lib.Seq.{length-take-le, get_or-take}
use Rattle.std.specs.Prelude.{if◌then◌else◌}
use Rattle.numbers.specs.Numbers.{half_at}
use Rattle.numbers.proofs.Tests.{by_flag}
use Rattle.verdicts.specs.declared.Verdict.{Verdict}
use Rattle.verdicts.specs.Verdicts.{refused}
use Rattle.kinds.specs.Steps.{step_bytes}
use Rattle.layout.specs.Layout.{header_bytes, steps_of, steps_from, counts_fit, layout_fits, layout_verdict}
use Rattle.book.specs.Book.{book_verdict}
use Rattle.book.proofs.Laid.{counts_in_range}
use Rattle.setup.specs.SetUp.{set_up}
use Rattle.listing.specs.Listing.{refusal_line}
use Rattle.play_listing.specs.Printed.{longest_book, printed}

-- the refusal of a book that is too long: 2 or 3
abbrev too_long : List ℕ → Verdict
too_long s = if counts_fit s then refused 3 0 else refused 2 0

module _ (s : List ℕ) (long : longest_book < length s) where
  wrong_length : counts_fit s ≡ true → layout_fits s ≡ false
  wrong_length t =
      let r = counts_in_range s t in
      let wrong : length s ≡ steps_from s + step_bytes * steps_of s → ⊥ = λ e. omega (arith, r.few_routines, r.few_steps, e) in
      rw (ne_eqb (length s) (steps_from s + step_bytes * steps_of s) wrong, and-false)

  layout_told : layout_verdict s ≡ too_long s
  unfolding layout_verdict
  layout_told =
      by_flag (counts_fit s)
      (λ t. rw (le-leb header_bytes (length s) (omega arith), t, wrong_length t))
      (λ f. rw (le-leb header_bytes (length s) (omega arith), f))

  long_told : printed s ≡ refusal_line (too_long s)
  unfolding printed set_up book_verdict
  long_told = by_flag (counts_fit s) (λ t. rw (layout_told, t)) (λ f. rw (layout_told, f))

-- which of the two goes by the header alone
module _ (s : List ℕ) (n : ℕ) (enough : header_bytes ≤ n) where
  same_half : (i : ℕ) → i + 1 < header_bytes → half_at (take n s) i ≡ half_at s i
  same_half i h = rw (get_or-take n s i 0 (omega arith), get_or-take n s (i + 1) 0 (omega arith))

  same_counts_lem : too_long (take n s) ≡ too_long s
  same_counts_lem =
      rw (same_half 0 (omega arith), same_half 2 (omega arith), same_half 4 (omega arith), same_half 6 (omega arith))

pub front_printed : (s : List ℕ) → longest_book < length s → printed (take (longest_book + 1) s) ≡ printed s
front_printed s long =
    let front = take (longest_book + 1) s in
    let size : length front ≡ longest_book + 1 = length-take-le (longest_book + 1) s (omega arith) in
    long_told front (omega arith) ∙ ap refusal_line (same_counts_lem s (longest_book + 1) (omega arith)) ∙ sym (long_told s long)
