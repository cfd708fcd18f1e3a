-- A step's effect on what the book has leaves a sound state sound. By cases on the effect: a counter gets a content in range, a signal is
-- given, and an order of a step changes the game as an order from outside does.
use Prim.Native.Nat.{ℕ, ◌<◌}
use mathlib.Core.Path.{◌≡◌, ◌∙◌}
use mathlib.Core.Bool.{true}
use mathlib.Core.List.{List, [], ◌∷◌}
use native.Mathlib.Omega.{arith}
use native.Mathlib.Decide.{dec_lt}
use lib.ListN.{get_or, length-set, get_or-eq_default}
use lib.IntN.{ℤ, pos}
use Rattle.numbers.specs.Numbers.{CounterInRange}
use Rattle.layout.specs.Layout.{most_counters, counters_of, counts_of}
use Rattle.book.specs.Accepted.{Accepted}
use Rattle.game.specs.declared.Game.{Game}
use Rattle.game.specs.Game.{with_counter}
use Rattle.fitting.specs.Fits.{Fits}
use Rattle.orders.specs.Orders.{order_count, obeyed}
use Rattle.orders.proofs.Changed.{counter_fits_lem}
use Rattle.orders.proofs.Obeyed.{obeyed_fits}
use Rattle.round.specs.declared.Effect.{Effect}
use Rattle.round.specs.declared.Effect.TheVariants.{Nothing, Mark, Put, Add, Give, GiveNumber, Start, Stop, Suspend, Resume}
use Rattle.round.specs.State.{State, with_game, with_numbers, with_lost}
use Rattle.round.specs.Ticks.{given, effect_on}
use Rattle.round.specs.claims.Sound.{Sound, NumbersRight}
use Rattle.round.proofs.Acts.{Ranged, Right, nothing, mark, put, add, give, give_number}
use Rattle.round.proofs.Acts.{start, stop, suspend, resume}
use Rattle.round.proofs.Among.{all_append}

module _ {book : List ℕ} {s : State} (h : Sound book s) where
  -- counters in use are in range, the others are 0, and so is anything beyond the array
  pub sound_ranged : Ranged s
  sound_ranged =
      let values = s.game.counters in
      record {
        counters =
            λ c.
            elim (dec_lt c (counters_of book)) [
              | yes l ↦ h.fits.counters_in_range c l
              | no n ↦
                  let none : get_or values c (pos 0) ≡ pos 0 =
                  elim (dec_lt c most_counters) [
                    | yes l ↦ h.fits.counters_beyond c (omega arith) l
                    | no m ↦ get_or-eq_default values (pos 0) (omega (arith, h.fits.sized.counters))
                  ]
                  in
                  rw none (record { le = tt }, record { le = tt })
            ];
        numbers = h.numbers;
      }

  -- another game
  pub game_sound : (g : Game) → Fits book g → Sound book (with_game s g)
  game_sound g f = record { fits = f; present = h.present; end_signals = h.end_signals; numbers = h.numbers }

  -- another total of what was cut off
  lost_sound : (n : ℕ) → Sound book (with_lost s n)
  lost_sound n = record { fits = h.fits; present = h.present; end_signals = h.end_signals; numbers = h.numbers }

  -- a signal is given, and these are the numbers then
  given_sound : (e : ℕ) (l : List (ℕ × ℤ)) → NumbersRight l → Sound book (with_numbers (given s e) l)
  given_sound e l numbers =
      record {
        fits = h.fits;
        present = length-set s.present e true ∙ h.present;
        end_signals = h.end_signals;
        numbers = numbers;
      }

module _ (book : List ℕ) (a : Accepted book) where
  module _ {s : State} (h : Sound book s) where
    -- an order on what the book has
    order_sound : (kind n : ℕ) → n < order_count (counts_of book) kind → Sound book (with_game s (obeyed s.game kind n))
    order_sound kind n below = game_sound h _ (obeyed_fits book s.game h.fits a.laid.counts kind n below)

    -- a counter of the book gets a content in range
    counter_sound : (c : ℕ) (v : ℤ) → c < counters_of book → CounterInRange v → Sound book (with_game s (with_counter s.game c v))
    counter_sound c v below inside = game_sound h _ (counter_fits_lem a.laid.counts h.fits c v below inside)

  pub effect_sound : (s : State) (e : Effect) → Right (counts_of book) s e → Sound book s → Sound book (effect_on e s)
  unfolding effect_on obeyed
  effect_sound s Nothing nothing h = h
  effect_sound s (Mark n) mark h = h
  effect_sound s (Put c v) (put below inside) h = counter_sound h c v below (inside (sound_ranged h))
  effect_sound s (Add c v) (add below inside few) h = lost_sound (counter_sound h c v.sum below inside) _
  effect_sound s (Give e) (give below) h = given_sound h e s.numbers h.numbers
  effect_sound s (GiveNumber e v) (give_number below inside) h =
      given_sound h e _ (all_append (λ x. CounterInRange x.1) s.numbers ((e, v) ∷ []) h.numbers (inside (sound_ranged h), tt))
  effect_sound s (Start t) (start below) h = order_sound h 1 t below
  effect_sound s (Stop t) (stop below) h = order_sound h 2 t below
  effect_sound s (Suspend t) (suspend below) h = order_sound h 3 t below
  effect_sound s (Resume t) (resume below) h = order_sound h 4 t below
