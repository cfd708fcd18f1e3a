-- A stored game at the front of a buffer: its bytes are those kept there, the buffer is as long as it was, and they are read as the game.
-- That reading gives the game back is said of bytes that were stored, so the game is taken to be stored over itself.
use Prim.Native.Nat.{ℕ, ◌≤◌}
use mathlib.Core.Path.{◌≡◌, sym, ap, ◌∙◌}
use mathlib.Core.List.{List}
use native.Mathlib.Omega.{arith}
use borrow.Author.Tests.{le-leb}
use lib.ListN.{length, drop, length-append, length-drop}
use lib.Seq.{take-append_seam}
use Rattle.numbers.specs.Buffers.{with_front}
use Rattle.verdicts.specs.Verdicts.{accepted}
use Rattle.book.specs.Accepted.{Accepted}
use Rattle.game.specs.declared.Game.{Game}
use Rattle.game.specs.declared.Outcome.{Outcome}
use Rattle.fitting.specs.Fits.{Fits}
use Rattle.stored_games.specs.Forms.{form1}
use Rattle.stored_games.specs.Stored.{stored}
use Rattle.stored_games.specs.Calls.{load_verdict, loaded, StoreAnswer}
use Rattle.stored_games.proofs.Keeping.{stores, load_verdict_lem, form1_reads_back}
use Rattle.kept_games.specs.Kept.{kept_in}

module _ (s buffer : List ℕ) where
  pub front_kept : kept_in (with_front s buffer) (length s) ≡ s
  front_kept =
      let rest = drop (length s) buffer in
      rw (le-leb (length s) (length (with_front s buffer)) (omega (arith, length-append s rest))) (take-append_seam s rest)

  pub front_long : length s ≤ length buffer → length (with_front s buffer) ≡ length buffer
  front_long h = omega (arith, length-append s (drop (length s) buffer), length-drop (length s) buffer)

module _ {book : List ℕ} {g : Game} (a : Accepted book) (fits : Fits book g) where
  abbrev s : List ℕ
  s = stored form1 g

  pub reads : (lent : Game) → loaded form1 book s lent ≡ record { verdict = accepted; game = g }
  reads lent =
      let answer = stores form1 book g s (a, fits, omega arith) in
      rw (answer, take-append_seam s (drop (length s) s)) at
      (form1_reads_back book g lent s (ap (λ (r : StoreAnswer). r.verdict) answer))

  pub read_accepted : load_verdict form1 book s ≡ accepted
  read_accepted = sym (load_verdict_lem form1 book s g) ∙ ap (λ (o : Outcome). o.verdict) (reads g)
