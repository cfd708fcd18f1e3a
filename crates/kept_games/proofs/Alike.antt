-- Playing stored games is playing games. Of one call: what is kept reads back as the game, so the call by value is made on that game, and
-- the game that it gives fits, so there is room to store it; where book or call is refused, both keep what they had. Of many by induction.
use Prim.Native.Nat.{ℕ, ◌≤◌}
use mathlib.Core.Path.{◌≡◌, refl, ap₂}
use mathlib.Core.Bool.{false}
use mathlib.Core.List.{List, [], ◌∷◌}
use native.Mathlib.Omega.{arith}
use native.Mathlib.Decide.{ℕ_discrete}
use borrow.Author.Tests.{ne_eqb}
use lib.Dec.{eqb}
use lib.IntN.{ℤ}
use lib.ListN.{length}
use Rattle.numbers.specs.Buffers.{with_front}
use Rattle.verdicts.specs.Verdicts.{accepted}
use Rattle.book.specs.Accepted.{Accepted}
use Rattle.book.specs.Book.{book_verdict}
use Rattle.book.proofs.Reasons.{number_accepted, accepted_exactly}
use Rattle.game.specs.declared.Game.{Game}
use Rattle.game.specs.Game.{blank_game}
use Rattle.fitting.specs.Fits.{Fits}
use Rattle.fitting.proofs.Decides.{fits_decides}
use Rattle.setup.specs.SetUp.{set_up}
use Rattle.setup.proofs.SetUp.{new_game_fits}
use Rattle.orders.specs.Orders.{order_verdict, ordered}
use Rattle.orders.specs.Reasons.{OrderReason}
use Rattle.orders.proofs.Reasons.{order_reason_only, order_reason, order_clauses}
use Rattle.orders.proofs.Obeyed.{obeyed_fits}
use Rattle.stored_games.specs.Forms.{form1}
use Rattle.stored_games.specs.Stored.{stored}
use Rattle.stored_games.specs.Calls.{load_verdict, loaded, store_verdict, store_answer, storing}
use Rattle.stored_games.proofs.Keeping.{stores}
use Rattle.round.specs.Answers.{round_verdict, answer}
use Rattle.round.proofs.Reasons.{round_reason, round_clauses, turned_down_lem}
use Rattle.round.proofs.Demand.{round_accepted}
use Rattle.round.proofs.After.{answer_fits}
use Rattle.kept_games.specs.Kept.{set_up_kept, order_kept, played_from, play_kept}
use Rattle.kept_games.specs.Alike.{most_stored, Call, Kept, Keeps, by_value, by_bytes, told_by, behind, PlaysAlike, BeginsAlike}
use Rattle.kept_games.proofs.Longest.{longest_stored}
use Rattle.kept_games.proofs.Front.{front_kept, front_long, reads, read_accepted}

module _ (book : List ℕ) where
  -- a call tells the same by bytes and by value, and what is kept behind it is the game that it gives
  abbrev Alike : Kept → Game → Call → Type 0
  Alike k g c = ((by_bytes book k c).0 ≡ (by_value book g c).0) × Keeps book (by_bytes book k c).1 (by_value book g c).1

  -- a game that fits is stored, and then it is kept
  module _ (a : Accepted book) (k : Kept) (room : most_stored ≤ length k.buffer) {g : Game} (fits : Fits book g) where
    abbrev s : List ℕ
    s = stored form1 g

    has_room : length s ≤ length k.buffer
    has_room = omega (arith, longest_stored book g a fits)

    stores_it : storing form1 book g k.buffer ≡ store_answer accepted (length s) (with_front s k.buffer)
    stores_it = stores form1 book g k.buffer (a, fits, has_room)

    keeps_it : Keeps book (record { buffer = with_front s k.buffer; length = length s }) g
    keeps_it = record { bytes = front_kept s k.buffer; fits = fits; room = rw (front_long s k.buffer has_room) room }

  pub begins_alike : BeginsAlike book
  unfolding by_bytes by_value set_up_kept set_up
  begins_alike k g a room =
      let fits = new_game_fits book a in
      rw ((accepted_exactly book).1 a, stores_it a k room fits) (refl, keeps_it a k room fits)

  module _ (k : Kept) (g : Game) (kept : Keeps book k g) where
    module _ (a : Accepted book) where
      order_alike : (kind n : ℕ) → Alike k g (Call.order kind n)
      unfolding by_bytes by_value order_kept ordered
      order_alike kind n =
          rw (kept.bytes, reads a kept.fits blank_game) (elim (ℕ_discrete (order_verdict book g kind n).number 0) [
            | yes e ↦
                let (_, _, h) = order_clauses (order_reason book g kind n) e in
                let told : order_verdict book g kind n ≡ accepted = order_reason_only (OrderReason.nothing a kept.fits h) in
                let fits = obeyed_fits book g kept.fits a.laid.counts kind n h in
                simp (told, stores_it a k kept.room fits) (refl, keeps_it a k kept.room fits)
            | no m ↦ simp (ne_eqb _ 0 m) (refl, kept)
          ])

      round_alike : (marks : List ℤ) → Alike k g (Call.round marks)
      unfolding by_bytes by_value play_kept played_from
      round_alike marks =
          rw (kept.bytes, reads a kept.fits blank_game) (elim (ℕ_discrete (round_verdict book g marks).number 0) [
            | yes e ↦
                let (_, _, space) = round_clauses (round_reason book g marks) e in
                let told = round_accepted book a g kept.fits marks space in
                let fits = answer_fits book g marks told in
                simp (told, stores_it a k kept.room fits) (refl, keeps_it a k kept.room fits)
            | no m ↦ simp (turned_down_lem book g marks m, ne_eqb _ 0 m) (refl, kept)
          ])

      fits_alike : Alike k g Call.fits
      unfolding by_bytes by_value
      fits_alike =
          rw (kept.bytes, read_accepted a kept.fits, (accepted_exactly book).1 a, (fits_decides book a.laid.counts g).1 kept.fits)
          (refl, kept)

      accepted_alike : (c : Call) → Alike k g c
      accepted_alike Call.set_up = begins_alike k g a kept.room
      accepted_alike (Call.order kind n) = order_alike kind n
      accepted_alike (Call.round marks) = round_alike marks
      accepted_alike Call.fits = fits_alike

    -- a refused book is told, whatever the call, and nothing changes
    refused_alike : eqb (book_verdict book).number 0 ≡ false → (c : Call) → Alike k g c
    unfolding by_bytes by_value set_up_kept order_kept play_kept storing store_verdict loaded load_verdict set_up ordered order_verdict answer
        round_verdict
    refused_alike e Call.set_up = simp e (refl, kept)
    refused_alike e (Call.order kind n) = simp e (refl, kept)
    refused_alike e (Call.round marks) = simp e (refl, kept)
    refused_alike e Call.fits = simp e (refl, kept)

    call_alike : (c : Call) → Alike k g c
    call_alike c =
        elim (ℕ_discrete (book_verdict book).number 0) [
          | yes e ↦ accepted_alike (number_accepted book e) c
          | no m ↦ refused_alike (ne_eqb (book_verdict book).number 0 m) c
        ]

  pub plays_alike : PlaysAlike book
  unfolding told_by behind
  plays_alike k g [] kept = (refl, kept)
  plays_alike k g (c ∷ calls) kept =
      let (told, next) = call_alike k g kept c in
      let (rest, end) = plays_alike (by_bytes book k c).1 (by_value book g c).1 calls next in
      (ap₂ ◌∷◌ told rest, end)
