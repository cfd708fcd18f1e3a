-- What is printed of an accepted book is a play: every game from set-up on fits, so every round is accepted.
use Prim.Native.Nat.{ℕ, zero, suc, ◌+◌, ◌≤◌}
use mathlib.Core.List.{List, [], ◌∷◌, map}
use mathlib.Core.Path.{◌≡◌, refl, ap}
use mathlib.Core.Bool.{true, false}
use mathlib.Core.Logic.{◌⊎◌, inl, inr}
use native.Mathlib.Omega.{arith}
use borrow.Author.Tests.{eq-eqb}
use lib.ListN.{length, length-replicate}
use Rattle.numbers.proofs.Tests.{by_flag}
use Rattle.verdicts.specs.declared.Verdict.{Verdict}
use Rattle.verdicts.specs.Verdicts.{accepted}
use Rattle.book.specs.Accepted.{Accepted}
use Rattle.book.proofs.Reasons.{accepted_exactly}
use Rattle.game.specs.declared.Game.{Game}
use Rattle.game.specs.Game.{blank_game}
use Rattle.fitting.specs.Fits.{Fits}
use Rattle.setup.specs.SetUp.{set_up}
use Rattle.setup.proofs.SetUp.{set_up_fits}
use Rattle.round.specs.Answers.{Answer}
use Rattle.round.proofs.Demand.{round_accepted}
use Rattle.round.proofs.After.{answer_fits}
use Rattle.plays.specs.Plays.{PlayCall, PlayFrom, is_over}
use Rattle.play_listing.specs.Printed.{most_rounds, mark_buffer, next_answer, lines_from, lines_of_all, until_over, printed, PrintsPlay}
use Rattle.play_listing.proofs.Few.{space_few}

module _ (book : List ℕ) (a : Accepted book) where
  -- at most k rounds from game g on, the first of them round n: their answers, and the game behind them
  record Rounds (k n : ℕ) (g : Game) : Type 0 where
    answers : List Answer
    game : Game
    from : PlayFrom book g (map PlayCall.round answers) game
    lines : lines_from book k n g ≡ lines_of_all n answers
    until : until_over g answers ≡ true
    few : length answers ≤ k
    ends : (is_over game ≡ true) ⊎ (length answers ≡ k)

  over : (k n : ℕ) (g : Game) → is_over g ≡ true → Rounds (suc k) n g
  unfolding lines_from lines_of_all until_over
  over k n g t =
      record { answers = []; game = g; from = PlayFrom.here; lines = rw t; until = refl; few = omega arith; ends = inl t }

  accepted_next : (g : Game) → Fits book g → (next_answer book g).verdict ≡ accepted
  accepted_next g f = round_accepted book a g f mark_buffer (simp length-replicate (space_few book a))

  goes_on_lem : (k n : ℕ) (g : Game) → Fits book g → is_over g ≡ false → Rounds k (n + 1) (next_answer book g).game → Rounds (suc k) n g
  unfolding lines_from lines_of_all until_over
  goes_on_lem k n g f going r =
      record {
        answers = next_answer book g ∷ r.answers;
        game = r.game;
        from = PlayFrom.plays mark_buffer (accepted_next g f) r.from;
        lines = rw (going, r.lines);
        until = rw (going, r.until);
        few = omega (arith, r.few);
        ends = elim r.ends [
          | inl e ↦ inl e
          | inr e ↦ inr (ap suc e)
        ];
      }

  rounds : (k n : ℕ) (g : Game) → Fits book g → Rounds k n g
  unfolding lines_from lines_of_all until_over
  rounds zero n g f =
      record { answers = []; game = g; from = PlayFrom.here; lines = refl; until = refl; few = omega arith; ends = inr refl }
  rounds (suc k) n g f =
      by_flag (is_over g) (over k n g)
      (λ going. goes_on_lem k n g f going (rounds k (n + 1) (next_answer book g).game (answer_fits book g mark_buffer (accepted_next g f))))

  accepts : (set_up book blank_game).verdict ≡ accepted
  unfolding set_up
  accepts = (accepted_exactly book).1 a

  pub prints_play : PrintsPlay book
  unfolding printed
  prints_play =
      let r = rounds most_rounds 1 (set_up book blank_game).game (set_up_fits book blank_game accepts) in
      record {
        answers = r.answers;
        game = r.game;
        play = record { lent = blank_game; accepts = accepts; from = r.from };
        lines = rw (eq-eqb _ 0 (ap (λ (v : Verdict). v.number) accepts)) r.lines;
        until = r.until;
        few = r.few;
        ends = r.ends;
      }
