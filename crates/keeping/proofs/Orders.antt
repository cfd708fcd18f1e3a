-- What an order to a kept game answers, check by check: the refusal of the first part that refuses, reading the game or the order itself,
-- or what storing the game answers.
use Prim.Native.Nat.{ℕ}
use mathlib.Core.Path.{◌≡◌, refl}
use mathlib.Core.List.{List}
use native.Mathlib.Decide.{ℕ_discrete}
use borrow.Author.Tests.{eq-eqb, ne_eqb}
use Rattle.verdicts.specs.Verdicts.{accepted}
use Rattle.game.specs.declared.Game.{Game}
use Rattle.game.specs.Game.{blank_game}
use Rattle.orders.specs.Orders.{ordered}
use Rattle.orders.specs.Reasons.{OrderReason}
use Rattle.orders.proofs.Reasons.{order_clauses, order_reason, order_reason_only}
use Rattle.stored_games.specs.Forms.{form1}
use Rattle.stored_games.specs.Reading.{game_in}
use Rattle.stored_games.specs.Calls.{loaded, store_verdict, store_answer, storing}
use Rattle.stored_games.proofs.Keeping.{Loadable, loads}
use Rattle.kept_games.specs.Kept.{kept_in, kept_verdict, stored_unless, order_kept}

-- a refusal of storing is told with nothing written
stored_told :
    (book buffer : List ℕ) (g : Game) →
    stored_unless (storing form1 book g buffer).verdict (storing form1 book g buffer) buffer ≡ storing form1 book g buffer
unfolding storing
stored_told book buffer g =
    let v = store_verdict form1 book g buffer in
    elim (ℕ_discrete v.number 0) [
      | yes e ↦ simp (eq-eqb _ 0 e) refl
      | no m ↦ simp (ne_eqb _ 0 m) refl
    ]

-- an order that is told 0 is accepted
pub order_accepted :
    (book : List ℕ) (g : Game) (kind number : ℕ) → (ordered book g kind number).verdict.number ≡ 0 →
    (ordered book g kind number).verdict ≡ accepted
unfolding ordered
order_accepted book g kind number e =
    let (a, fits, h) = order_clauses (order_reason book g kind number) e in order_reason_only (OrderReason.nothing a fits h)

module _ (book buffer : List ℕ) (n : ℕ) where
  abbrev s : List ℕ
  s = kept_in buffer n

  abbrev game : Game
  game = game_in form1 s

  module _ (kind number : ℕ) where
    -- 1 to 7, 13, 9
    pub order_unread :
        ((kept_verdict book buffer n).number ≡ 0 → ⊥) →
        order_kept book buffer n kind number ≡ store_answer (kept_verdict book buffer n) 0 buffer
    unfolding order_kept loaded
    order_unread m = simp (ne_eqb _ 0 m) refl

    module _ (read : Loadable form1 book s) where
      -- 8
      pub order_refused :
          ((ordered book game kind number).verdict.number ≡ 0 → ⊥) →
          order_kept book buffer n kind number ≡ store_answer (ordered book game kind number).verdict 0 buffer
      unfolding order_kept
      order_refused m = rw (loads form1 book s blank_game read) (simp (ne_eqb _ 0 m) refl)

      pub order_stored :
          (ordered book game kind number).verdict.number ≡ 0 →
          order_kept book buffer n kind number ≡ storing form1 book (ordered book game kind number).game buffer
      unfolding order_kept
      order_stored e =
          rw (loads form1 book s blank_game read, eq-eqb (ordered book game kind number).verdict.number 0 e)
          (stored_told book buffer (ordered book game kind number).game)
