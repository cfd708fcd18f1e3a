-- The game after an order that is obeyed fits the book if the one before it did, and obeying the order again changes nothing.
-- By kind; a routine that is replaced differs in its flags only, of which fitting asks nothing.
use Prim.Native.Nat.{ℕ, zero, suc, ◌<◌}
use mathlib.Core.Path.{◌≡◌, refl, ap}
use mathlib.Core.Bool.{true}
use mathlib.Core.List.{List}
use native.Mathlib.Omega.{arith}
use native.Mathlib.Decide.{dec_lt}
use lib.ListN.{length, get_or, set}
use lib.Seq.{get_or-set_same, set_out, set-set}
use Rattle.layout.specs.Layout.{counts_of}
use Rattle.book.specs.Accepted.{CountsInRange}
use Rattle.game.specs.declared.Routine.{Routine}
use Rattle.game.specs.declared.Game.{Game}
use Rattle.game.specs.Game.{blank, routine_at, with_stop, with_suspend, with_resume, with_routines, with_routine, with_starting, with_broadcast}
use Rattle.fitting.specs.Fits.{Fits}
use Rattle.fitting.proofs.Decides.{fit_one}
use Rattle.orders.specs.Orders.{order_count, obeyed}
use Rattle.orders.proofs.Changed.{routine_fits_lem, broadcast_fits, starting_fits_lem, same_starts}
use Rattle.orders.proofs.Starts.{starts_start, start_again}

module _ {A : Type 0} (l : List A) (n : ℕ) (d : A) where
  -- a change of entry n that is the same twice as once
  set_again :
      (f : A → A) → ((a : A) → f (f a) ≡ f a) →
      (let m = set l n (f (get_or l n d)) in set m n (f (get_or m n d)) ≡ m)
  set_again f twice =
      elim (dec_lt n (length l)) [
        | yes h ↦ rw (set-set, get_or-set_same l n (f (get_or l n d)) d h, twice)
        | no m ↦ rw (set_out l n _ (omega arith), set_out l n _ (omega arith))
      ]

module _ (s : List ℕ) (g : Game) (f : Fits s g) where
  pub obeyed_fits : CountsInRange s → (kind n : ℕ) → n < order_count (counts_of s) kind → Fits s (obeyed g kind n)
  unfolding obeyed
  obeyed_fits range zero n h = broadcast_fits range f n h
  obeyed_fits range (suc zero) n h = starting_fits_lem range f _ (starts_start g.starting n f.sized.starting (same_starts f) h)
  obeyed_fits range (suc (suc zero)) n h = routine_fits_lem range f n _ h (fit_one s g f n h)
  obeyed_fits range (suc (suc (suc zero))) n h = routine_fits_lem range f n _ h (fit_one s g f n h)
  obeyed_fits range (suc (suc (suc (suc zero)))) n h = routine_fits_lem range f n _ h (fit_one s g f n h)
  obeyed_fits range (suc (suc (suc (suc (suc kind))))) n h = f

  routine_again :
      (change : Routine → Routine) → ((x : Routine) → change (change x) ≡ change x) → (n : ℕ) →
      (let h = with_routine g n (change (routine_at g n)) in with_routine h n (change (routine_at h n)) ≡ h)
  routine_again change twice n = ap (with_routines g) (set_again g.routines n blank change twice)

  pub obeyed_again : (kind n : ℕ) → obeyed (obeyed g kind n) kind n ≡ obeyed g kind n
  unfolding obeyed
  obeyed_again zero n = ap (with_broadcast g) (set-set g.broadcast n true true)
  obeyed_again (suc zero) n = ap (with_starting g) (start_again g.starting n f.sized.starting (routine_at g n).stage)
  obeyed_again (suc (suc zero)) n = routine_again with_stop (λ x. refl) n
  obeyed_again (suc (suc (suc zero))) n = routine_again with_suspend (λ x. refl) n
  obeyed_again (suc (suc (suc (suc zero)))) n = routine_again with_resume (λ x. refl) n
  obeyed_again (suc (suc (suc (suc (suc kind))))) n = refl
