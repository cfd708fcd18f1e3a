-- The parse of a routine of an accepted book, with the pauses of its whiles: the book's acceptance gives both over the routine's part of
-- the book, and its own steps have the same places.
use Prim.Native.Nat.{ℕ, ◌<◌}
use mathlib.Core.Path.{◌≡◌, refl}
use mathlib.Core.List.{List}
use Rattle.kinds.specs.Steps.{steps_in}
use Rattle.blocks.specs.Blocks.{deepest}
use Rattle.blocks.specs.Parse.{ParsedBlock, WhilesPause}
use Rattle.layout.specs.Layout.{routines_of, counts_of}
use Rattle.directory.specs.Directory.{step_count, routine_steps}
use Rattle.book.specs.Accepted.{Accepted}
use Rattle.book.proofs.Routines.{PausingParse, routine_steps_lem, pausing_parse}
use Rattle.round.proofs.Leads.{form_at}

module _ (book : List ℕ) (a : Accepted book) (r : ℕ) (h : r < routines_of book) where
  abbrev steps : List ℕ
  steps = routine_steps book r

  pub size_same : steps_in (routine_steps book r) ≡ step_count book r
  size_same = routine_steps_lem book a r h

  parsed : PausingParse (form_at (counts_of book) steps) (steps_in steps)
  parsed = pausing_parse book a r h refl size_same

  pub parse_of : ParsedBlock (form_at (counts_of book) (routine_steps book r)) deepest 0 (steps_in (routine_steps book r))
  parse_of = parsed.0

  pub parse_pauses : WhilesPause (form_at (counts_of book) (routine_steps book r)) parse_of
  unfolding parse_of
  parse_pauses = parsed.1
