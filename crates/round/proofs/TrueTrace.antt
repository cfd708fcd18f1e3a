-- The trace of a round is true: a try finds its thing exactly if the thing was there at the round's start or came before the try, and the
-- same is there behind the round. So it is of each turn, and turns and passes follow one another.
use Prim.Native.Nat.{ℕ, ◌<◌}
use mathlib.Core.Path.{◌≡◌, refl, subst}
use mathlib.Core.Bool.{true, false}
use mathlib.Core.List.{List, ◌∷◌, ◌++◌}
use mathlib.Core.Logic.{◌⊎◌, inl, inr, ⊎_elim}
use Rattle.numbers.specs.Counting.{Somewhere}
use Rattle.numbers.proofs.Tests.{not_true_false}
use Rattle.layout.specs.Layout.{routines_of}
use Rattle.book.specs.Accepted.{Accepted}
use Rattle.game.specs.declared.Game.{Game}
use Rattle.fitting.specs.Fits.{Fits}
use Rattle.round.specs.State.{State, Thing, Event, missing, past, is_there}
use Rattle.round.specs.Actions.{at_start}
use Rattle.round.specs.Rounds.{turn, trace_of, state_after}
use Rattle.round.specs.claims.Demand.{Comes}
use Rattle.round.proofs.After.{round_along}
use Rattle.round.proofs.Turned.{turn_turned}
use Rattle.numbers.proofs.Tests.{clash}
use Rattle.round.specs.claims.Sound.{Sound}
use Rattle.round.proofs.Closing.{there_next_pass}
use Rattle.round.proofs.TrueInOrder.{InOrder, order_at, There, Becomes, becomes_same, becomes_both, becomes_by, turn_order}

module _ (book : List ℕ) (a : Accepted book) where
  turn_becomes :
      (r : ℕ) (s : State) → r < routines_of book → Sound book s → Becomes s (turn book r s).trace (turn book r s).state
  turn_becomes r s l ok =
      let t = turn_turned book a r s l ok in
      becomes_by t.keeps t.brings t.came (turn_order book a r s ok)

  module _ (g : Game) (f : Fits book g) where
    all : Becomes (at_start g) (trace_of book g) (state_after book g)
    all =
        round_along book a g f Becomes (λ s. becomes_same (λ t. refl)) becomes_both (λ r s l. turn_becomes r s l.0)
        (λ s. becomes_same (there_next_pass s))

    round_order : InOrder (There (at_start g)) (trace_of book g)
    round_order = all.order

    -- what comes is there behind the round
    pub comes : (t : Thing) → Somewhere (Comes t) (trace_of book g) → is_there (state_after book g) t ≡ true
    comes t w = (all.there t).1 (inr w)

    -- what is new there has come
    pub came :
        (t : Thing) → is_there (at_start g) t ≡ false → is_there (state_after book g) t ≡ true →
        Somewhere (Comes t) (trace_of book g)
    came t out there = ⊎_elim (λ k. clash k out) (λ w. w) ((all.there t).0 there)

    module _ (before after : List Event) (r p : ℕ) (t : Thing) where
      -- what was found was there, or came
      pub found :
          trace_of book g ≡ before ++ (past r p t ∷ after) → (is_there (at_start g) t ≡ true) ⊎ Somewhere (Comes t) before
      found e = order_at (There (at_start g)) before after (past r p t) (subst (InOrder (There (at_start g))) e round_order)

      -- what was missing was not there, and had not come
      pub not_found_lem :
          trace_of book g ≡ before ++ (missing r p t ∷ after) → (is_there (at_start g) t ≡ false) × (Somewhere (Comes t) before → ⊥)
      not_found_lem e =
          let none = order_at (There (at_start g)) before after (missing r p t) (subst (InOrder (There (at_start g))) e round_order) in
          (not_true_false _ (λ k. none (inl k)), λ w. none (inr w))
