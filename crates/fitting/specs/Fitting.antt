-- Whether a game fits a book, as a test of each of its slots in turn, and refusal 9. Where the book's counts are in range, it decides Fits.
-- The lengths of the arrays are fixed by types, and nothing has to be done to test them.
use Rattle.std.specs.Prelude.{ℕ, Bool, ◌&&◌, List, eqb, length}
use Rattle.kinds.specs.declared.Counts.{Counts}
use Rattle.verdicts.specs.declared.Verdict.{Verdict}
use Rattle.verdicts.specs.Verdicts.{refused, unless}
use Rattle.layout.specs.Layout.{most_routines, most_signals, most_counters, counts_of}
use Rattle.game.specs.declared.Game.{Game}
use Rattle.numbers.specs.Counting.{all_below}
use Rattle.lines.specs.Lines.{most_entries}
use Rattle.fitting.specs.Arrays.{line_fits, counters_fit, signals_fit}
use Rattle.fitting.specs.Routines.{slot_fits}

-- "its numbers of routines, counters and signals are the book's"
abbrev pub same_counts : Counts → Counts → Bool
same_counts a b = eqb a.routines b.routines && eqb a.counters b.counters && eqb a.signals b.signals

-- the arrays are as long as their types say: of a game that a program holds there is nothing to test here
unfoldable pub is_sized : Game → Bool
is_sized g =
    eqb (length g.routines) most_routines
    && eqb (length g.counters) most_counters
    && eqb (length g.listed.items) most_entries
    && eqb (length g.starting.items) most_entries
    && eqb (length g.broadcast) most_signals

-- "A game fits a book if"
unfoldable pub fits_book : List ℕ → Game → Bool
fits_book s g =
    let counts = g.counts in
    same_counts counts (counts_of s)
    && line_fits g.listed counts.routines
    && line_fits g.starting counts.routines
    && counters_fit g.counters counts.counters
    && signals_fit g.broadcast counts.signals
    && all_below most_routines (slot_fits s g)
    && is_sized g

-- 9. "The game doesn't fit the book."
abbrev pub fit_verdict : List ℕ → Game → Verdict
fit_verdict s g = unless (fits_book s g) (refused 9 0)
