-- No step is completed twice in one round by one routine: a listed routine pays for each step of a set that it completes with one of those
-- that it has left, and at the round's start it has no more left than it has. Signals, numbers and marks are given by steps of their own;
-- so a round gives at most as many numbers as the book has steps.
use Prim.Native.Nat.{ℕ, ◌≤◌}
use mathlib.Core.Bool.{Bool}
use mathlib.Core.List.{List}
use native.Mathlib.Omega.{arith}
use lib.Dec.{eqb}
use lib.ListN.{length}
use Rattle.numbers.specs.Counting.{how_many}
use Rattle.kinds.specs.Ops.{op_mark}
use Rattle.layout.specs.Layout.{steps_of}
use Rattle.book.specs.Accepted.{Accepted}
use Rattle.game.specs.declared.Game.{Game}
use Rattle.fitting.specs.Fits.{Fits}
use Rattle.round.specs.Actions.{at_start}
use Rattle.round.specs.Rounds.{listed_in, round, trace_of}
use Rattle.round.specs.Answers.{marks_in}
use Rattle.round.specs.claims.Reasons.{numbers_given}
use Rattle.round.specs.claims.Demand.{is_signal_step, gives_signal, count_steps}
use Rattle.round.specs.claims.Completed.{completes, the_step, is_mark_step, any_step, CompletedOnce}
use Rattle.round.proofs.StartSound.{listed_distinct, listed_below, at_start_sound}
use Rattle.round.proofs.Given.{numbers_in_trace}
use Rattle.round.proofs.Paying.{left_of, turn_pays}
use Rattle.round.proofs.PayingPasses.{round_pays}
use Rattle.round.proofs.Accounts.{numbers_few, signals_completed, marks_completed}
use Rattle.round.proofs.BookSteps.{steps_in_book, all_in_book, few_steps_lem}
use Rattle.round.proofs.OneStep.{one_of_distinct}
use Rattle.round.proofs.Enough.{total_left}

module _ (book : List ℕ) (a : Accepted book) (g : Game) (f : Fits book g) where
  each_once : (set : ℕ → ℕ → Bool) → how_many (completes set) (trace_of book g) ≤ count_steps book set (listed_in g)
  each_once set =
      let below = listed_below (at_start_sound book g a f) in
      let paid = round_pays book a (completes set) (left_of book a set) (turn_pays book a set) g f in
      omega (arith, total_left book a set (listed_in g) below (at_start g))

  signals_once : how_many gives_signal (trace_of book g) ≤ count_steps book (is_signal_step book) (listed_in g)
  signals_once = omega (arith, signals_completed book g, each_once (is_signal_step book))

  marks_once : length (marks_in (trace_of book g)) ≤ count_steps book (is_mark_step book) (listed_in g)
  marks_once = omega (arith, marks_completed book g, each_once (is_mark_step book))

  numbers_in_book : numbers_given (trace_of book g) ≤ steps_of book
  numbers_in_book =
      let below = listed_below (at_start_sound book g a f) in
      let signals = all_in_book book a (is_signal_step book) (listed_in g) (listed_distinct book g a f) below in
      omega (arith, numbers_few (trace_of book g), signals_once)

  -- the numbers behind a round are at most as many as the book has steps
  pub numbers_kept : length (round book g).played.state.numbers ≤ steps_of book
  numbers_kept = omega (arith, numbers_in_trace book g, numbers_in_book)

  pub completed_once : CompletedOnce book g
  completed_once =
      let below = listed_below (at_start_sound book g a f) in
      let distinct = listed_distinct book g a f in
      record {
        once = each_once;
        never_twice = λ r p. omega (arith, each_once (the_step r p), one_of_distinct r p book (listed_in g) distinct);
        signals = signals_once;
        marks = marks_once;
        space = omega (arith, marks_once, steps_in_book book a (λ op. eqb op op_mark) (listed_in g) distinct below);
        numbers = omega (arith, numbers_in_book, a.laid.counts.few_steps);
        steps = omega (arith, each_once any_step, few_steps_lem book a any_step (listed_in g) distinct below);
      }
