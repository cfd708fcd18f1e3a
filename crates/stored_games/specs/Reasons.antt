-- Why storing a game or reading one is turned down, or not: the sentences of document 02, Paper 2, that decide it.
use Rattle.std.specs.Prelude.{ℕ, suc, ◌<◌, ◌≤◌, List, length}
use Rattle.verdicts.specs.declared.Verdict.{Verdict}
use Rattle.verdicts.specs.Verdicts.{accepted, refused}
use Rattle.book.specs.Accepted.{Accepted}
use Rattle.book.specs.Reasons.{BookReason}
use Rattle.game.specs.declared.Game.{Game}
use Rattle.fitting.specs.Fits.{Fits}
use Rattle.stored_games.specs.declared.Form.{Form}
use Rattle.stored_games.specs.Stored.{stored}
use Rattle.stored_games.specs.Reading.{game_in}
use Rattle.stored_games.specs.Formed.{Formed}
use Rattle.stored_games.specs.Calls.{wrong_form, short_buffer}

-- storing: 1 to 7, 9, 14
pub data StoreReason (f : Form) (book : List ℕ) (g : Game) (out : List ℕ) : Verdict → Type 0 where
  -- 1 to 7, as reading the book tells them
  book : {k p : ℕ} → BookReason book (suc k) p → StoreReason f book g out (refused (suc k) p)
  -- 9. "The game doesn't fit the book."
  unfit : Accepted book → (Fits book g → ⊥) → StoreReason f book g out (refused 9 0)
  -- "14, last, where the buffer for storing is shorter than the stored game"
  short : Accepted book → Fits book g → length out < length (stored f g) → StoreReason f book g out (refused short_buffer 0)
  -- "both 0 where nothing is turned down"
  nothing : Accepted book → Fits book g → length (stored f g) ≤ length out → StoreReason f book g out accepted

-- reading: 1 to 7, 13, 9
pub data LoadReason (f : Form) (book s : List ℕ) : Verdict → Type 0 where
  book : {k p : ℕ} → BookReason book (suc k) p → LoadReason f book s (refused (suc k) p)
  -- "13, after 1 to 7 and before 9, where the bytes have not this form"
  unformed : Accepted book → (Formed f s → ⊥) → LoadReason f book s (refused wrong_form 0)
  -- "any other fault is one of fitting, told as 9"
  unfit : Accepted book → Formed f s → (Fits book (game_in f s) → ⊥) → LoadReason f book s (refused 9 0)
  nothing : Accepted book → Formed f s → Fits book (game_in f s) → LoadReason f book s accepted
