-- What storing a game and reading it back answer: document 02, Paper 2.
use Rattle.std.specs.Prelude.{ℕ, List, eqb, leb, length, if◌then◌else◌}
use Rattle.numbers.specs.Buffers.{with_front}
use Rattle.verdicts.specs.declared.Verdict.{Verdict}
use Rattle.verdicts.specs.Verdicts.{refused, ◌or_else◌, unless}
use Rattle.book.specs.Book.{book_verdict}
use Rattle.game.specs.declared.Game.{Game}
use Rattle.game.specs.declared.Outcome.{Outcome}
use Rattle.game.specs.Outcomes.{unless_refused}
use Rattle.fitting.specs.Fitting.{fit_verdict}
use Rattle.stored_games.specs.declared.Form.{Form}
use Rattle.stored_games.specs.Stored.{stored}
use Rattle.stored_games.specs.Reading.{game_in, is_formed}

-- "13 .. where the bytes have not this form"
abbrev pub wrong_form : ℕ
wrong_form = 13

-- "14, last, where the buffer for storing is shorter than the stored game"
abbrev pub short_buffer : ℕ
short_buffer = 14

-- "is a fault of form; any other fault is one of fitting, told as 9"; 13 comes "before 9"
unfoldable pub stored_verdict : Form → List ℕ → List ℕ → Verdict
stored_verdict f book s = unless (is_formed f s) (refused wrong_form 0) or_else fit_verdict book (game_in f s)

-- 13 comes "after 1 to 7"
unfoldable pub load_verdict : Form → List ℕ → List ℕ → Verdict
load_verdict f book s = book_verdict book or_else stored_verdict f book s

-- "Reading replaces a lent game as set-up does, and a refusal leaves it as lent."
unfoldable pub loaded : Form → List ℕ → List ℕ → Game → Outcome
loaded f book s g = unless_refused (load_verdict f book s) (game_in f s) g

-- 1 to 7, 9, and 14 "last"
unfoldable pub store_verdict : Form → List ℕ → Game → List ℕ → Verdict
store_verdict f book g out =
    book_verdict book or_else fit_verdict book g or_else unless (leb (length (stored f g)) (length out)) (refused short_buffer 0)

-- what is answered, with the buffer as it is left
pub record StoreAnswer : Type 0 where
  pub verdict : Verdict
  pub length : ℕ
  pub buffer : List ℕ

abbrev pub store_answer : Verdict → ℕ → List ℕ → StoreAnswer
store_answer v n buffer = record { verdict = v; length = n; buffer = buffer }

-- "Storing answers with the length, 0 after a refusal; .. a lent buffer beyond what is written, or all of it after a refusal, is
-- untouched."
unfoldable pub storing : Form → List ℕ → Game → List ℕ → StoreAnswer
storing f book g out =
    let v = store_verdict f book g out in
    let bytes = stored f g in
    if eqb v.number 0 then store_answer v (length bytes) (with_front bytes out) else store_answer v 0 out
