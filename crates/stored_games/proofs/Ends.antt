-- How long a stored game is behind each of its parts, and so all of it.
use Prim.Native.Nat.{ℕ, ◌+◌, ◌*◌}
use mathlib.Core.Path.{◌≡◌, refl}
use mathlib.Core.List.{List, [], ◌∷◌, ◌++◌}
use native.Mathlib.Omega.{arith}
use native.Mathlib.Nat.{mul_comm}
use lib.ListN.{length, length-append}
use Rattle.numbers.specs.Bytes.{word_bytes, complement}
use Rattle.lines.specs.Lines.{most_entries, used_of}
use Rattle.game.specs.declared.Game.{Game}
use Rattle.game.specs.Game.{routine_at, counter_at}
use Rattle.stored_games.specs.declared.Form.{Form}
use Rattle.stored_games.specs.Bits.{joined_below}
use Rattle.stored_games.specs.Forms.{Usable}
use Rattle.stored_games.specs.Stored.{game_header_bytes, counter_bytes, count_bytes, lists_from, game_header, record_of, line_bytes, set_byte}
use Rattle.stored_games.specs.Stored.{stored, length_of}
use Rattle.stored_games.proofs.Lengths.{joined_length, header_length, record_length, line_length}

module _ (f : Form) (g : Game) where
  -- the records of the first n routines, the counters and the set of signals
  abbrev pub records_part : ℕ → List ℕ
  records_part n = joined_below n (λ r. record_of f (routine_at g r))

  abbrev pub counters_part : List ℕ
  counters_part = joined_below g.counts.counters (λ c. word_bytes (complement (counter_at g c)))

  abbrev pub set_part : List ℕ
  set_part = joined_below f.setsize (λ k. set_byte g.broadcast k ∷ [])

  -- all up to the records, the counters and the two lists
  abbrev pub up_to_records : ℕ → List ℕ
  up_to_records n = game_header f g.counts ++ records_part n

  abbrev pub up_to_counters : List ℕ
  up_to_counters = up_to_records g.counts.routines ++ counters_part

  abbrev pub up_to_listed : List ℕ
  up_to_listed = up_to_counters ++ line_bytes g.listed

  abbrev pub up_to_starting : List ℕ
  up_to_starting = up_to_listed ++ line_bytes g.starting

module _ {f : Form} (usable : Usable f) (g : Game) where
  pub records_end : (n : ℕ) → length (up_to_records f g n) ≡ game_header_bytes + f.recordsize * n
  records_end n =
      let each = joined_length f.recordsize n (λ r. record_of f (routine_at g r)) (λ r. record_length usable (routine_at g r)) in
      let front = header_length f g.counts in
      omega (arith, length-append (game_header f g.counts) (records_part f g n), front, each, mul_comm n f.recordsize)

  pub counters_end : length (up_to_counters f g) ≡ lists_from f g.counts
  counters_end =
      let each = joined_length counter_bytes g.counts.counters (λ c. word_bytes (complement (counter_at g c))) (λ c. refl) in
      let front = up_to_records f g g.counts.routines in
      omega (arith, length-append front (counters_part f g), records_end g.counts.routines, each)

  module _ (listed : length g.listed.items ≡ most_entries) where
    pub listed_end : length (up_to_listed f g) ≡ lists_from f g.counts + count_bytes + used_of g.listed
    listed_end = omega (arith, length-append (up_to_counters f g) (line_bytes g.listed), counters_end, line_length g.listed listed)

    module _ (starting : length g.starting.items ≡ most_entries) where
      pub starting_end :
          length (up_to_starting f g) ≡ lists_from f g.counts + count_bytes + used_of g.listed + count_bytes + used_of g.starting
      starting_end =
          omega (arith, length-append (up_to_listed f g) (line_bytes g.starting), listed_end, line_length g.starting starting)

      pub stored_length : length (stored f g) ≡ length_of f g.counts (used_of g.listed) (used_of g.starting)
      unfolding stored length_of
      stored_length =
          let each = joined_length 1 f.setsize (λ k. set_byte g.broadcast k ∷ []) (λ k. refl) in
          omega (arith, length-append (up_to_starting f g) (set_part f g), starting_end, each)
