-- Which bytes have the form of a stored game, clause by clause: document 02, Paper 2, "is a fault of form".
use Rattle.std.specs.Prelude.{ℕ, ◌*◌, ◌≤◌, ◌<◌, ◌≡◌, false, List, length, get_or}
use Rattle.numbers.specs.Numbers.{half_at}
use Rattle.layout.specs.Layout.{most_routines, most_counters}
use Rattle.lines.specs.Lines.{most_entries}
use Rattle.game.specs.Game.{stopped}
use Rattle.stored_games.specs.declared.Form.{Form}
use Rattle.stored_games.specs.Forms.{byte_bits}
use Rattle.stored_games.specs.Stored.{game_header_bytes}
use Rattle.stored_games.specs.Reading.{counts_in, parts_of, record_at, signal_in, flag_limit}

pub record Formed (f : Form) (s : List ℕ) : Type 0 where
  -- "A form other than 1"
  pub number : half_at s 0 ≡ f.number
  -- "an R, E or C beyond document 01's limits"
  pub some_routine : 1 ≤ (counts_in s).routines
  pub few_routines : (counts_in s).routines ≤ most_routines
  pub few_signals : (counts_in s).signals ≤ f.mostsignals
  pub few_counters : (counts_in s).counters ≤ most_counters
  -- "a wrong offset or length"
  pub records_at : half_at s 8 ≡ game_header_bytes
  pub counters_at : half_at s 10 ≡ (parts_of f s).counters
  pub lists_at : half_at s 12 ≡ (parts_of f s).listed
  pub size : length s ≡ (parts_of f s).end
  -- "a stage over 4, an unnamed flag"
  pub stages : (r : ℕ) → r < (counts_in s).routines → get_or (record_at f s r) 0 0 ≤ stopped
  pub flags : (r : ℕ) → r < (counts_in s).routines → get_or (record_at f s r) 1 0 < flag_limit
  -- "a list over 64"
  pub few_listed : half_at s (parts_of f s).listed ≤ most_entries
  pub few_starting : half_at s (parts_of f s).starting ≤ most_entries
  -- "or a set bit beyond E"
  pub no_signals_beyond : (e : ℕ) → e < f.setsize * byte_bits → (counts_in s).signals ≤ e → signal_in s (parts_of f s).broadcast e ≡ false
