-- A pass that begins with eoi set gives no signal and ends no routine. A pass begins so only behind one that did not move, and the
-- theory of passes says what follows such a one; every state in which a pass begins is sound.
use Prim.Native.Nat.{ℕ}
use mathlib.Core.Path.{◌≡◌, refl}
use mathlib.Core.Bool.{true}
use mathlib.Core.List.{List}
use native.Mathlib.Omega.{arith}
use borrow.Author.Tests.{not-true}
use Rattle.numbers.proofs.Tests.{clash}
use Rattle.book.specs.Accepted.{Accepted}
use Rattle.game.specs.declared.Game.{Game}
use Rattle.fitting.specs.Fits.{Fits}
use Rattle.round.specs.State.{State}
use Rattle.round.specs.Actions.{at_start}
use Rattle.round.specs.Rounds.{listed_in}
use Rattle.round.specs.claims.Again.{Begins, Closes}
use Rattle.round.specs.claims.Sound.{Sound}
use Rattle.round.proofs.StartSound.{listed_below, at_start_sound}
use Rattle.round.proofs.TurnSound.{next_pass_sound}
use Rattle.round.proofs.Waiting.{pass_stays}
use Rattle.round.proofs.Closing.{closing_pass}
use Rattle.round.proofs.Lawful.{turn_laws}

module _ (book : List ℕ) (a : Accepted book) (g : Game) (f : Fits book g) where
  begins_sound : {s : State} → Begins book g s → Sound book s
  begins_sound Begins.first = at_start_sound book g a f
  begins_sound (Begins.next {s} b h) =
      let below = listed_below (at_start_sound book g a f) in
      next_pass_sound _ (pass_stays (turn_laws book a) (listed_in g) below s (begins_sound b))

  pub closes : {s : State} → Begins book g s → s.eoi ≡ true → Closes book g s
  unfolding at_start
  closes Begins.first e = clash e refl
  closes (Begins.next {s} b h) e =
      let below = listed_below (at_start_sound book g a f) in
      let (none, done) = closing_pass (turn_laws book a) (listed_in g) below s (begins_sound b) (not-true _ e) in
      record { no_signal = omega arith; no_end = omega arith; done = done }
