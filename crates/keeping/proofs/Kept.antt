-- The bytes of a kept game: a part of the buffer, and none where the buffer is too short, which have not the form. What is told of them is
-- the refusal of the first check that turns them down; where nothing does, they are read as the game.
use Prim.Native.Nat.{ℕ, ◌≤◌, ◌<◌}
use mathlib.Core.Path.{◌≡◌}
use mathlib.Core.Bool.{true, false}
use mathlib.Core.List.{List}
use native.Mathlib.Omega.{arith}
use native.Mathlib.Decide.{dec_lt}
use borrow.Author.Tests.{le-leb, lt-leb}
use lib.ListN.{length, take}
use Rattle.numbers.proofs.Tests.{clash}
use Rattle.verdicts.specs.Verdicts.{accepted, refused}
use Rattle.verdicts.proofs.First.{or_else_refused}
use Rattle.book.specs.Book.{book_verdict}
use Rattle.book.specs.Accepted.{Accepted}
use Rattle.book.proofs.Reasons.{accepted_exactly}
use Rattle.fitting.specs.Fitting.{fits_book}
use Rattle.stored_games.specs.Forms.{form1}
use Rattle.stored_games.specs.Reading.{game_in, counts_formed, is_formed}
use Rattle.stored_games.specs.Calls.{wrong_form, stored_verdict, load_verdict}
use Rattle.kept_games.specs.Kept.{kept_in, kept_verdict}

module _ (buffer : List ℕ) (n : ℕ) where
  pub kept_part : n ≤ length buffer → kept_in buffer n ≡ take n buffer
  kept_part h = rw (le-leb n (length buffer) h)

  pub kept_short : length buffer < n → is_formed form1 (kept_in buffer n) ≡ false
  unfolding is_formed counts_formed
  kept_short h = rw (lt-leb n (length buffer) h)

  pub formed_within : is_formed form1 (kept_in buffer n) ≡ true → n ≤ length buffer
  formed_within e = elim (dec_lt (length buffer) n) [
    | yes h ↦ clash e (kept_short h)
    | no h ↦ omega arith
  ]

  module _ (book : List ℕ) where
    abbrev s : List ℕ
    s = kept_in buffer n

    -- 1 to 7
    pub book_told : ((book_verdict book).number ≡ 0 → ⊥) → kept_verdict book buffer n ≡ book_verdict book
    unfolding load_verdict
    book_told h = or_else_refused (book_verdict book) _ h

    module _ (a : Accepted book) where
      -- 13
      pub unformed_told : is_formed form1 s ≡ false → kept_verdict book buffer n ≡ refused wrong_form 0
      unfolding load_verdict stored_verdict
      unformed_told e = rw ((accepted_exactly book).1 a, e)

      module _ (formed : is_formed form1 s ≡ true) where
        -- 9
        pub unfit_told : fits_book book (game_in form1 s) ≡ false → kept_verdict book buffer n ≡ refused 9 0
        unfolding load_verdict stored_verdict
        unfit_told e = rw ((accepted_exactly book).1 a, formed, e)

        pub nothing_told : fits_book book (game_in form1 s) ≡ true → kept_verdict book buffer n ≡ accepted
        unfolding load_verdict stored_verdict
        nothing_told e = rw ((accepted_exactly book).1 a, formed, e)
