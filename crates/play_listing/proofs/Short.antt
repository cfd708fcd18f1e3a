-- No book has a longer listing than the buffer that the program lends for it, so the whole of it is printed.
use Prim.Native.Nat.{ℕ, zero, suc, ◌+◌, ◌*◌, ◌≤◌}
use mathlib.Core.List.{List}
use mathlib.Core.Path.{◌≡◌, refl}
use native.Mathlib.Omega.{arith}
use lib.Dec.{eqb}
use lib.ListN.{length, take, drop, length-append, length-take}
use lib.Seq.{take_at}
use Rattle.numbers.proofs.Tests.{by_test}
use Rattle.layout.specs.Layout.{most_steps}
use Rattle.game.specs.declared.Game.{Game}
use Rattle.game.specs.Game.{blank_game}
use Rattle.setup.specs.SetUp.{set_up}
use Rattle.round.specs.Answers.{numbers_per_mark}
use Rattle.plays.specs.Plays.{is_over}
use Rattle.texts.specs.Texts.{filled, with_text}
use Rattle.texts.proofs.Whole.{whole}
use Rattle.listing.proofs.Short.{longest_round_line, longest_mark_line, round_short, refusal_short}
use Rattle.play_listing.specs.Printed.{most_rounds, mark_buffer, next_answer, lines_of, lines_from, printed}
use Rattle.play_listing.proofs.Few.{marks_few}

-- the lines of a round
abbrev longest_round : ℕ
longest_round = longest_round_line + longest_mark_line * most_steps

abbrev pub longest_listing : ℕ
longest_listing = most_rounds * longest_round

module _ (book : List ℕ) where
  round_lines_short : (n : ℕ) (g : Game) → length (lines_of n (next_answer book g)) ≤ longest_round
  round_lines_short n g =
      let a = next_answer book g in
      let few : numbers_per_mark * a.marks ≤ numbers_per_mark * most_steps = omega (arith, marks_few book g mark_buffer) in
      round_short n a.passes (take (numbers_per_mark * a.marks) a.buffer) most_steps (simp length-take (omega arith))

  lines_short : (k n : ℕ) (g : Game) → length (lines_from book k n g) ≤ k * longest_round
  unfolding lines_from
  lines_short zero n g = omega arith
  lines_short (suc k) n g =
      by_test (λ (t : List ℕ). length t ≤ suc k * longest_round) (is_over g) (λ _. omega arith)
      (λ _. simp length-append (omega (arith, round_lines_short n g, lines_short k (n + 1) (next_answer book g).game)))

  pub printed_short : length (printed book) ≤ longest_listing
  unfolding printed
  printed_short =
      let o = set_up book blank_game in
      by_test (λ (t : List ℕ). length t ≤ longest_listing) (eqb o.verdict.number 0)
      (λ _. lines_short most_rounds 1 o.game) (λ _. omega (arith, refusal_short o.verdict))

  -- the bytes that are used of such a buffer, once the listing is put into it
  pub printed_whole :
      (out : List ℕ) → longest_listing ≤ length out →
      let f = with_text (filled out 0) (printed book) in take f.used f.bytes ≡ printed book
  printed_whole out e =
      rw (whole out (printed book) (omega (arith, printed_short))) (take_at (printed book) (drop (length (printed book)) out) _ refl)
