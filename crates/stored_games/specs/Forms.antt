-- The forms of a stored game: document 02, Paper 2.
use Rattle.std.specs.Prelude.{ℕ, ◌*◌, ◌≤◌, ◌<◌, ◌≡◌}
use Rattle.numbers.specs.Numbers.{half_limit}
use Rattle.layout.specs.Layout.{most_signals}
use Rattle.stored_games.specs.declared.Form.{Form}

-- "A record has 8 bytes": those of all fields of a routine
abbrev pub field_bytes : ℕ
field_bytes = 8

-- "bit i mod 8 of byte i / 8"
abbrev pub byte_bits : ℕ
byte_bits = 8

-- "form 1"; "A record has 8 bytes"; "8 bytes of broadcast signals"; document 01: "signals E (0 to 64)"
abbrev pub form1 : Form
form1 = record { number = 1; recordsize = field_bytes; setsize = 8; mostsignals = 64 }

-- what is asked of a form: its number and the size of its set have 16 bits, a record has no more bytes than the fields of a routine, the
-- set has a bit for each signal, and a game has room for them
pub record Usable (f : Form) : Type 0 where
  pub small_number : f.number < half_limit
  pub few_fields : f.recordsize ≤ field_bytes
  pub small_set : f.setsize < half_limit
  pub bits_enough : f.mostsignals ≤ f.setsize * byte_bits
  pub signals_kept : f.mostsignals ≤ most_signals

-- what reading back asks besides: a record has the bytes of all fields, so that nothing of a routine is left out
abbrev pub HoldsAll : Form → Type 0
HoldsAll f = f.recordsize ≡ field_bytes
