-- What the functions that write a stored game ask and promise.
use Rattle.std.specs.Prelude.{ℕ, ◌+◌, ◌≤◌, ◌≡◌, List, length}
use Rattle.numbers.specs.Buffers.{with_part}
use Rattle.kinds.specs.declared.Counts.{Counts}
use Rattle.layout.specs.Layout.{most_routines, most_counters}
use Rattle.storing.specs.declared.parts.Writer.{Writer}

-- bytes are written from a place of a buffer on, where there is room for them; `behind` is the place behind them
pub record Put (at : ℕ) (bytes before after : List ℕ) (behind : ℕ) : Type 0 where
  pub room : at + length bytes ≤ length before
  pub place : behind ≡ at + length bytes
  pub same_length : length after ≡ length before
  pub buffer : after ≡ with_part at bytes before

-- a writer has put bytes behind those that were written: it still writes the same buffer
pub record Writes (bytes : List ℕ) (before after : Writer) : Type 0 where
  pub same_buffer : after.out.ghost_name ≡ before.out.ghost_name
  pub put : Put before.end bytes before.out.now after.out.now after.end

-- R and C are within a book's limits
pub record WithinLimits (counts : Counts) : Type 0 where
  pub routines : counts.routines ≤ most_routines
  pub counters : counts.counters ≤ most_counters
