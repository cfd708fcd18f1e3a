-- The steps that a turn may take and the passes that a round may take are enough, so that more would change nothing. A pass that sets the
-- flag gives a signal or ends a routine, so it uses up one of the listed routines' signal steps or one of the routines, of which there are
-- at most as many as a book may have steps and routines.
use Prim.Native.Nat.{ℕ, zero, suc, ◌+◌, ◌<◌, ◌≤◌}
use mathlib.Core.Path.{◌≡◌, refl, ap}
use mathlib.Core.Bool.{Bool}
use mathlib.Core.List.{List}
use mathlib.Core.Logic.{inl, inr}
use native.Mathlib.Omega.{arith}
use lib.ListN.{length}
use Rattle.numbers.specs.Counting.{All, count_below, how_many}
use Rattle.numbers.proofs.Tests.{by_test}
use Rattle.kinds.specs.declared.Counts.{Counts}
use Rattle.layout.specs.Layout.{most_routines, routines_of, counts_of}
use Rattle.directory.specs.Directory.{step_count, routine_steps}
use Rattle.book.specs.Accepted.{Accepted}
use Rattle.game.specs.declared.Game.{Game}
use Rattle.fitting.specs.Fits.{Fits}
use Rattle.round.specs.declared.Position.{Position}
use Rattle.round.specs.declared.Act.{Act}
use Rattle.round.specs.declared.Act.TheVariants.{Goes, Halts}
use Rattle.round.specs.State.{State}
use Rattle.round.specs.Actions.{at_start}
use Rattle.round.specs.Ticks.{tick, fresh, effect_on}
use Rattle.round.specs.Rounds.{follow, ticks, pass_then, most_passes, listed_in, turn, pass, instant, round}
use Rattle.round.specs.claims.Enough.{IfItGoesOn, InTime, RoundEnds, Enough}
use Rattle.round.specs.claims.Demand.{is_signal_step, gives_signal, ends_routine, count_steps}
use Rattle.round.specs.claims.Sound.{Sound}
use Rattle.round.proofs.Among.{among_all, kept_short}
use Rattle.round.proofs.TurnLaws.{is_going, moves}
use Rattle.round.proofs.Sums.{over_le, kept_sum}
use Rattle.round.proofs.Actions.{staying_short, at_start_entries}
use Rattle.round.proofs.StartSound.{at_start_sound, listed_distinct, listed_below}
use Rattle.round.proofs.Lasting.{routine_in_time, left_most}
use Rattle.round.proofs.Paying.{worth, left_of, turn_pays, may_end, ends_pay}
use Rattle.round.proofs.PayingPasses.{total, pass_pays}
use Rattle.round.proofs.Accounts.{turn_signals}
use Rattle.round.proofs.BookSteps.{few_steps_lem}
use Rattle.round.proofs.Passes.{round_ends}
use Rattle.round.proofs.Lawful.{turn_laws}

-- where n steps are enough for a turn, it comes out the same with more
module _ (counts : Counts) (r : ℕ) (steps : List ℕ) where
  more_ticks_lem :
      (k n : ℕ) → n ≤ k → (x : Position) (s : State) → InTime n counts r steps x s →
      ticks k counts r steps x s ≡ ticks n counts r steps x s
  unfolding ticks InTime
  more_ticks_lem k zero l x s h = absurd h
  more_ticks_lem zero (suc n) l x s h = absurd (omega arith)
  more_ticks_lem (suc k) (suc n) l x s h =
      let t = tick counts r steps x s in
      behind t.act h (λ q u. more_ticks_lem k n (omega arith) (fresh q) u)
    where
      behind :
          (act : Act) → IfItGoesOn act s (λ y u. InTime n counts r steps y u) →
          ((q : ℕ) (u : State) → InTime n counts r steps (fresh q) u →
          ticks k counts r steps (fresh q) u ≡ ticks n counts r steps (fresh q) u) →
          follow r x.place act (tick counts r steps x s).events s (λ q u. ticks k counts r steps (fresh q) u) ≡
          follow r x.place act (tick counts r steps x s).events s (λ q u. ticks n counts r steps (fresh q) u)
      behind (Goes q e) h on = rw (on q (effect_on e s) h)
      behind (Halts how y) h on = refl

-- where n passes are enough for a round, it comes out the same with more
more_passes_lem :
    (book : List ℕ) (k n : ℕ) → n ≤ k → (rs : List ℕ) (s : State) → RoundEnds book n rs s → instant book k rs s ≡ instant book n rs s
unfolding instant RoundEnds
more_passes_lem book k zero l rs s h = absurd h
more_passes_lem book zero (suc n) l rs s h = absurd (omega arith)
more_passes_lem book (suc k) (suc n) l rs s (inl done) = rw done
more_passes_lem book (suc k) (suc n) l rs s (inr (on, rest)) = ap (pass_then (pass book rs s)) (more_passes_lem book k n (omega arith) rs _ rest)

-- no more routines may end than there are
total_ends : (L : List ℕ) (s : State) → total may_end L s ≤ length L
total_ends L s = omega (arith, kept_sum (is_going s) L, kept_short (is_going s) L)

module _ (book : List ℕ) (a : Accepted book) where
  -- some routines have no more left than they have
  pub total_left :
      (set : ℕ → ℕ → Bool) (L : List ℕ) → All (λ r. r < routines_of book) L → (s : State) →
      total (left_of book a set) L s ≤ count_steps book set L
  total_left set L all s =
      over_le _ _ L (λ r h.
      by_test (λ (n : ℕ). n ≤ count_below (set r) (step_count book r)) (is_going s r)
      (λ g. left_most book a set r (among_all (λ q. q < routines_of book) r L all h) _) (λ g. omega arith))

  -- what the signals and the ends of a round pay from
  abbrev signals : ℕ → Position → ℕ
  signals = left_of book a (is_signal_step book)

  abbrev budget : List ℕ → State → ℕ
  budget L s = total signals L s + total may_end L s

  turn_gives :
      (r : ℕ) (s : State) → r < routines_of book →
      how_many gives_signal (turn book r s).trace + worth signals r (turn book r s).state ≤ worth signals r s
  turn_gives r s l = omega (arith, turn_signals book r s, turn_pays book a (is_signal_step book) r s l)

  pass_spends :
      (L : List ℕ) → All (λ r. r < routines_of book) L → (s : State) → Sound book s →
      moves (pass book L s).trace + budget L (pass book L s).state ≤ budget L s
  pass_spends L all s ok =
      let given = pass_pays book a gives_signal signals turn_gives L all s ok in
      let over = pass_pays book a ends_routine may_end (λ r u l. ends_pay book r u) L all s ok in
      omega arith

  module _ (g : Game) (f : Fits book g) where
    few_listed_lem : length (listed_in g) ≤ most_routines
    few_listed_lem = let range = a.laid.counts in rw (at_start_entries book g range f) (staying_short book g range f)

    passes_enough : RoundEnds book most_passes (listed_in g) (at_start g)
    unfolding at_start
    passes_enough =
        let start = at_start_sound book g a f in
        let all = listed_below start in
        let set = is_signal_step book in
        let few = few_steps_lem book a set (listed_in g) (listed_distinct book g a f) all in
        round_ends (turn_laws book a) (listed_in g) all (budget (listed_in g)) (pass_spends (listed_in g) all)
        (λ s. refl) most_passes (at_start g) start refl refl
        (omega (arith, few, total_left set (listed_in g) all (at_start g), total_ends (listed_in g) (at_start g), few_listed_lem))

    pub enough : Enough book g
    unfolding round
    enough =
        record {
          turns = routine_in_time book a;
          passes = passes_enough;
          more_ticks = λ r l x s m.
              more_ticks_lem (counts_of book) r (routine_steps book r) _ _ (omega arith) x s (routine_in_time book a r l x s);
          more_passes = λ m. more_passes_lem book _ _ (omega arith) (listed_in g) (at_start g) passes_enough;
        }
