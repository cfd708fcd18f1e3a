-- How long the parts of a stored game are: lists of one length joined have so many times that length.
use Prim.Native.Nat.{ℕ, zero, suc, ◌+◌, ◌*◌, ◌≤◌, ◌<◌}
use mathlib.Core.Path.{◌≡◌, refl}
use mathlib.Core.List.{List}
use native.Mathlib.Omega.{arith}
use native.Mathlib.Nat.{mul-suc, mul-le-mul_left, mul-le-mul_right}
use lib.ListN.{length, length-append}
use lib.Seq.{length-take-le}
use Rattle.numbers.specs.Bytes.{half_bytes}
use Rattle.kinds.specs.declared.Counts.{Counts}
use Rattle.lines.specs.declared.Line.{Line}
use Rattle.lines.specs.Lines.{most_entries, used_of, entries_of}
use Rattle.lines.proofs.Entries.{used_most}
use Rattle.game.specs.declared.Routine.{Routine}
use Rattle.stored_games.specs.declared.Form.{Form}
use Rattle.stored_games.specs.Bits.{joined_below}
use Rattle.stored_games.specs.Forms.{field_bytes, Usable}
use Rattle.stored_games.specs.Stored.{game_header_bytes, count_bytes, game_header, fields_of, record_of, line_bytes}

pub joined_length :
    (size n : ℕ) (f : ℕ → List ℕ) → ((k : ℕ) → length (f k) ≡ size) → length (joined_below n f) ≡ n * size
unfolding joined_below
joined_length size zero f each = omega arith
joined_length size (suc n) f each =
    let h = joined_length size n f each in rw (length-append (joined_below n f) (f n), h, each n) (omega arith)

-- one of n pieces of a size ends within them
pub piece_within : (size : ℕ) {k n : ℕ} → k < n → size * k + size ≤ size * n
piece_within size {k} {n} h = rw (mul-suc size k) at (mul-le-mul_left size h)

pub header_length : (f : Form) (counts : Counts) → length (game_header f counts) ≡ game_header_bytes
unfolding game_header
header_length f counts = refl

pub line_length : (l : Line) → length l.items ≡ most_entries → length (line_bytes l) ≡ count_bytes + used_of l
unfolding line_bytes
line_length l long =
    let entries : length (entries_of l) ≡ used_of l = length-take-le (used_of l) l.items (omega (arith, used_most l, long)) in
    omega (arith, length-append (half_bytes l.len) (entries_of l), entries)

module _ {f : Form} (usable : Usable f) where
  pub record_length : (x : Routine) → length (record_of f x) ≡ f.recordsize
  unfolding record_of
  record_length x = length-take-le f.recordsize (fields_of x) (omega (arith, usable.few_fields))

  -- so many of them have no more bytes than the fields of so many routines
  pub record_bytes : (n : ℕ) → f.recordsize * n ≤ field_bytes * n
  record_bytes n = mul-le-mul_right n usable.few_fields
