-- Every game of a play fits its book: set-up and accepted rounds give games that do, and an order keeps whether one does.
use Prim.Native.Nat.{ℕ}
use mathlib.Core.Path.{◌∙◌}
use mathlib.Core.List.{List}
use Rattle.book.specs.Accepted.{Accepted}
use Rattle.book.proofs.Reasons.{accepted_exactly}
use Rattle.game.specs.declared.Game.{Game}
use Rattle.fitting.specs.Fits.{Fits}
use Rattle.fitting.proofs.Decides.{fits_decides}
use Rattle.setup.specs.SetUp.{set_up}
use Rattle.setup.proofs.SetUp.{set_up_fits}
use Rattle.orders.proofs.After.{order_keeps}
use Rattle.round.proofs.After.{answer_fits}
use Rattle.plays.specs.Plays.{PlayCall, PlayFrom, Play}

module _ (book : List ℕ) where
  pub from_fits : Accepted book → {g h : Game} {calls : List PlayCall} → PlayFrom book g calls h → Fits book g → Fits book h
  from_fits a PlayFrom.here f = f
  from_fits a {g} (PlayFrom.plays buffer e l) f = from_fits a l (answer_fits book g buffer e)
  from_fits a {g} (PlayFrom.orders kind n l) f =
      let decides = fits_decides book a.laid.counts in
      from_fits a l ((decides _).0 (order_keeps book g kind n ∙ (decides g).1 f))

  pub play_fits : {g : Game} {calls : List PlayCall} → Play book calls g → Fits book g
  unfolding set_up
  play_fits p = from_fits ((accepted_exactly book).0 p.accepts) p.from (set_up_fits book p.lent p.accepts)
