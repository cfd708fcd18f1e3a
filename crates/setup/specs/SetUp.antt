-- Setting up a game: document 01, "The game".
use Rattle.std.specs.Prelude.{ℕ, List}
use Rattle.kinds.specs.declared.Counts.{Counts}
use Rattle.layout.specs.Layout.{counts_of}
use Rattle.book.specs.Book.{book_verdict}
use Rattle.game.specs.declared.Game.{Game}
use Rattle.game.specs.declared.Outcome.{Outcome}
use Rattle.lines.specs.Lines.{empty, pushed}
use Rattle.game.specs.Game.{blank_for, with_starting}
use Rattle.game.specs.Outcomes.{unless_refused}

-- "all stages, counters and places 0, routine 0 is to start, the rest empty"
unfoldable pub new_game : Counts → Game
new_game counts = with_starting (blank_for counts) (pushed empty 0)

-- "Set-up replaces a game that it is lent", "Reading a book and set-up check 1 to 7"
unfoldable pub set_up : List ℕ → Game → Outcome
set_up s g = unless_refused (book_verdict s) (new_game (counts_of s)) g
