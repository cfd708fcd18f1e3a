-- What the functions that read a stored game promise of counts and places, so that no sum of them is too large, and of bits.
use Rattle.std.specs.Prelude.{ℕ, ◌+◌, ◌<◌, ◌≤◌, ◌≡◌, Bool, true, false}
use Rattle.numbers.specs.Numbers.{half_limit}
use Rattle.kinds.specs.declared.Counts.{Counts}
use Rattle.stored_games.specs.declared.Parts.{Parts}
use Rattle.stored_games.specs.Forms.{byte_bits}

-- no place of a stored game is larger whose counts and set have 16 bits, and whose records have at most 8 bytes
abbrev pub place_limit : ℕ
place_limit = 1048576

pub record SmallCounts (counts : Counts) : Type 0 where
  pub routines : counts.routines < half_limit
  pub signals : counts.signals < half_limit
  pub counters : counts.counters < half_limit

pub record SmallParts (parts : Parts) : Type 0 where
  pub counters : parts.counters < place_limit
  pub listed : parts.listed < place_limit
  pub starting : parts.starting < place_limit
  pub broadcast : parts.broadcast < place_limit

-- bits from `at` on are seen not to be set: r of them, at most those of a byte, and none where the first is set
pub record ClearFrom (is_set : ℕ → Bool) (at r : ℕ) : Type 0 where
  pub few : r ≤ byte_bits
  pub none : r ≡ 0 → is_set at ≡ true
  pub clear : (i : ℕ) → at ≤ i → i < at + r → is_set i ≡ false
