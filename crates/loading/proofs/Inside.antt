-- The parts of a stored game lie within its bytes: the bytes end where the last part does, and each part is behind the one before.
use Prim.Native.Nat.{ℕ, ◌+◌, ◌*◌, ◌≤◌}
use mathlib.Core.Path.{◌≡◌}
use mathlib.Core.Bool.{true, ◌&&◌}
use mathlib.Core.List.{List}
use native.Mathlib.Omega.{arith}
use borrow.Author.Tests.{eqb-true}
use lib.Dec.{leb, eqb}
use lib.ListN.{length}
use Rattle.numbers.specs.Numbers.{half_at}
use Rattle.numbers.proofs.Tests.{and_both}
use Rattle.lines.specs.Lines.{most_entries}
use Rattle.stored_games.specs.declared.Form.{Form}
use Rattle.stored_games.specs.Stored.{game_header_bytes, counter_bytes}
use Rattle.stored_games.specs.Reading.{counts_in, list_end, parts_of, parts_formed}

pub record Inside (f : Form) (s : List ℕ) : Type 0 where
  pub records : game_header_bytes + f.recordsize * (counts_in s).routines ≤ length s
  pub counters : (parts_of f s).counters + counter_bytes * (counts_in s).counters ≤ length s
  pub listed : list_end s (parts_of f s).listed ≤ length s
  pub starting : list_end s (parts_of f s).starting ≤ length s

pub inside : (f : Form) (s : List ℕ) → length s ≡ (parts_of f s).end → Inside f s
unfolding parts_of
inside f s e = record { records = omega arith; counters = omega arith; listed = omega arith; starting = omega arith }

pub parts_inside : (f : Form) (s : List ℕ) → parts_formed f s ≡ true → Inside f s
unfolding parts_formed
parts_inside f s h =
    let parts = parts_of f s in
    let others =
    eqb (half_at s 8) game_header_bytes
    && eqb (half_at s 10) parts.counters
    && eqb (half_at s 12) parts.listed
    && leb (half_at s parts.listed) most_entries
    && leb (half_at s parts.starting) most_entries
    in
    inside f s (eqb-true (length s) parts.end (and_both others (eqb (length s) parts.end) h).1)
