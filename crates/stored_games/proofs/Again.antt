-- Bytes that have the form are stored again as they are: each part that is stored is the part of the bytes that it was read from, and the
-- parts lie one behind another to the end.
use Prim.Native.Nat.{ℕ, ◌+◌, ◌*◌, ◌/◌, ◌%◌, ◌≤◌, ◌<◌}
use mathlib.Core.Path.{◌≡◌, refl, sym, ap, ◌∙◌}
use mathlib.Core.Bool.{false}
use mathlib.Core.List.{List, [], ◌∷◌, ◌++◌, append_assoc}
use native.Mathlib.Omega.{arith}
use native.Mathlib.Decide.{dec_lt}
use native.Mathlib.Nat.{add-zero, one-mul, mul-add-div_right, mul-add-mod_self_right}
use lib.Dec.{lit<}
use lib.IntN.{ℤ, pos}
use lib.ListN.{length, get_or, take, drop, get_or-eq_default}
use lib.Seq.{take-length}
use Rattle.numbers.specs.Numbers.{word_limit, half_at, signed}
use Rattle.numbers.specs.Bytes.{half_bytes, word_bytes, word_at, complement}
use Rattle.numbers.specs.Counting.{list_below}
use Rattle.numbers.proofs.Lists.{values_agree}
use Rattle.layout.specs.Layout.{most_routines, most_signals, most_counters}
use Rattle.lines.specs.Lines.{most_entries, entries_of}
use Rattle.game.specs.Game.{blank, routine_at, counter_at}
use Rattle.fitting.proofs.Lists.{used_all}
use Rattle.stored_games.specs.declared.Form.{Form}
use Rattle.stored_games.specs.Bits.{has_bit, from_bits, joined_below}
use Rattle.stored_games.specs.Forms.{byte_bits, Usable}
use Rattle.stored_games.specs.Stored.{game_header_bytes, counter_bytes, count_bytes, game_header, record_of, line_bytes, set_byte, stored}
use Rattle.stored_games.specs.Reading.{counts_in, list_end, parts_of, record_at, routine_by_record, in_slots, line_in, signal_in, game_in}
use Rattle.stored_games.specs.Formed.{Formed}
use Rattle.stored_games.specs.Claims.{AreBytes}
use Rattle.stored_games.proofs.Bytes.{complement_signed}
use Rattle.stored_games.proofs.Bits.{bits_back}
use Rattle.stored_games.proofs.Lengths.{piece_within}
use Rattle.stored_games.proofs.Joined.{take_more, joined_same, joined_pieces}
use Rattle.stored_games.proofs.Places.{part_bytes, part_long, part_spelled, half_part, word_part}
use Rattle.stored_games.proofs.Records.{record_stored}
use Rattle.stored_games.proofs.Slots.{slot_value, slot_beyond, slots_front, slots_length}

module _ (s : List ℕ) (bytes : AreBytes s) where
  -- the front of the bytes, and a part behind it
  behind : {front part : List ℕ} (m n : ℕ) → front ≡ take m s → part ≡ take n (drop m s) → front ++ part ≡ take (m + n) s
  behind m n e p = rw (e, p) (take_more m n s)

  half_behind : {front : List ℕ} (m n : ℕ) → front ≡ take m s → n ≡ half_at s m → m + 2 ≤ length s → front ++ half_bytes n ≡ take (m + 2) s
  half_behind m n e p h = behind m 2 e (ap (λ k. half_bytes k) p ∙ half_part s bytes m h)

  line_behind :
      {front : List ℕ} (m : ℕ) → front ≡ take m s → half_at s m ≤ most_entries → list_end s m ≤ length s →
      front ++ line_bytes (line_in s m) ≡ take (list_end s m) s
  unfolding line_bytes
  line_behind {front} m e few h =
      let n = half_at s m in
      let entry : ℕ → ℕ = λ i. get_or s (m + count_bytes + i) 0 in
      let entries : entries_of (line_in s m) ≡ take n (drop (m + count_bytes) s) =
      rw (used_all (line_in s m) few) (slots_front most_entries n entry 0 few ∙ part_spelled s (m + count_bytes) n h)
      in
      sym (append_assoc front (half_bytes n) (entries_of (line_in s m)))
      ∙ behind (m + count_bytes) n (half_behind m n e refl (omega arith)) entries

  word_small : (i : ℕ) → word_at s i < word_limit
  word_small i = omega (arith, bytes i, bytes (i + 1), bytes (i + 2), bytes (i + 2 + 1))

module _ {f : Form} (usable : Usable f) (s : List ℕ) (bytes : AreBytes s) (formed : Formed f s) where
  abbrev R : ℕ
  R = (counts_in s).routines

  abbrev C : ℕ
  C = (counts_in s).counters

  abbrev counters_place : ℕ
  counters_place = game_header_bytes + f.recordsize * R

  abbrev lists_place : ℕ
  lists_place = counters_place + counter_bytes * C

  abbrev starting_place : ℕ
  starting_place = list_end s lists_place

  abbrev set_place : ℕ
  set_place = list_end s starting_place

  long : length s ≡ set_place + f.setsize
  unfolding parts_of
  long = formed.size

  number_behind :
      {front : List ℕ} (m n : ℕ) → front ≡ take m s → n ≡ half_at s m → m + 2 ≤ game_header_bytes → front ++ half_bytes n ≡ take (m + 2) s
  number_behind m n e p h = half_behind s bytes m n e p (omega (arith, h, long))

  header_again : game_header f (counts_in s) ≡ take game_header_bytes s
  unfolding game_header parts_of
  header_again =
      let form = number_behind {front = []} 0 f.number refl (sym formed.number) (omega arith) in
      let routines = number_behind 2 R form refl (omega arith) in
      let signals = number_behind 4 (counts_in s).signals routines refl (omega arith) in
      let counters = number_behind 6 C signals refl (omega arith) in
      let records-at = number_behind 8 game_header_bytes counters (sym formed.records_at) (omega arith) in
      let counters-at = number_behind 10 counters_place records-at (sym formed.counters_at) (omega arith) in
      number_behind 12 lists_place counters-at (sym formed.lists_at) (omega arith)

  records_again : joined_below R (λ r. record_of f (routine_at (game_in f s) r)) ≡ take (f.recordsize * R) (drop game_header_bytes s)
  unfolding game_in
  records_again =
      joined_same R _ (record_at f s)
      (λ r l.
      let piece = piece_within f.recordsize l in
      let room : game_header_bytes + f.recordsize * r + f.recordsize ≤ length s = omega (arith, piece, long) in
      let slot = slot_value most_routines R (λ k. routine_by_record (record_at f s k)) blank r blank (omega (arith, formed.few_routines)) l in
      ap (λ x. record_of f x) slot
      ∙ record_stored usable (record_at f s r) (part_long s (game_header_bytes + f.recordsize * r) f.recordsize room)
      (part_bytes s bytes (game_header_bytes + f.recordsize * r) f.recordsize) (formed.flags r l))
      ∙ joined_pieces game_header_bytes f.recordsize R s

  counters_again :
      joined_below C (λ c. word_bytes (complement (counter_at (game_in f s) c))) ≡ take (counter_bytes * C) (drop counters_place s)
  unfolding game_in parts_of
  counters_again =
      joined_same C _ (λ c. take counter_bytes (drop (counters_place + counter_bytes * c) s))
      (λ c l.
      let place = counters_place + counter_bytes * c in
      let value : ℕ → ℤ = λ k. signed (word_at s (counters_place + counter_bytes * k)) in
      let slot = slot_value most_counters C value (pos 0) c (pos 0) (omega (arith, formed.few_counters)) l in
      ap (λ v. word_bytes (complement v)) slot
      ∙ ap (λ w. word_bytes w) (complement_signed (word_at s place) (word_small s bytes place))
      ∙ word_part s bytes place (omega (arith, piece_within counter_bytes l, long)))
      ∙ joined_pieces counters_place counter_bytes C s

  -- the signals that are read are the bits of the set, since none beyond E is set
  flag_again : (e : ℕ) → e < f.setsize * byte_bits → get_or (game_in f s).broadcast e false ≡ signal_in s set_place e
  unfolding game_in parts_of
  flag_again e h =
      let E = (counts_in s).signals in
      let flags = in_slots most_signals E (signal_in s set_place) false in
      let beyond : E ≤ e → signal_in s set_place e ≡ false = formed.no_signals_beyond e h in
      elim (dec_lt e most_signals) [
        | yes l ↦
            elim (dec_lt e E) [
              | yes k ↦ slot_value most_signals E (signal_in s set_place) false e false l k
              | no k ↦ slot_beyond most_signals E (signal_in s set_place) false e false l (omega arith) ∙ sym (beyond (omega arith))
            ]
        | no l ↦
            get_or-eq_default flags false (omega (arith, slots_length most_signals E (signal_in s set_place) false))
            ∙ sym (beyond (omega (arith, formed.few_signals, usable.signals_kept)))
      ]

  byte_again : (k : ℕ) → k < f.setsize → set_byte (game_in f s).broadcast k ≡ get_or s (set_place + k) 0
  unfolding set_byte
  byte_again k h =
      let byte = get_or s (set_place + k) 0 in
      let bit : (i : ℕ) → i < byte_bits → get_or (game_in f s).broadcast (k * byte_bits + i) false ≡ has_bit byte i =
      λ i l.
      let quotient : (k * byte_bits + i) / byte_bits ≡ k = omega (arith, mul-add-div_right {m = byte_bits} (lit< tt) k i) in
      let remainder : (k * byte_bits + i) % byte_bits ≡ i = omega (arith, mul-add-mod_self_right k byte_bits i) in
      flag_again (k * byte_bits + i) (omega arith) ∙ rw (quotient, remainder)
      in
      ap from_bits (values_agree byte_bits _ (has_bit byte) bit) ∙ bits_back byte_bits byte (bytes (set_place + k))

  set_again : joined_below f.setsize (λ k. set_byte (game_in f s).broadcast k ∷ []) ≡ take f.setsize (drop set_place s)
  unfolding list_below
  set_again =
      let size = f.setsize in
      let piece : (k : ℕ) → k < size → (set_byte (game_in f s).broadcast k ∷ []) ≡ take 1 (drop (set_place + 1 * k) s) =
      λ k l.
      rw (byte_again k l, one-mul k) (rw (add-zero (set_place + k)) at (part_spelled s (set_place + k) 1 (omega (arith, long))))
      in
      joined_same size _ (λ k. take 1 (drop (set_place + 1 * k) s)) piece
      ∙ joined_pieces set_place 1 size s
      ∙ rw (one-mul size)

  pub stored_again : stored f (game_in f s) ≡ s
  unfolding stored game_in parts_of
  stored_again =
      let records = behind s bytes game_header_bytes (f.recordsize * R) header_again records_again in
      let counters = behind s bytes counters_place (counter_bytes * C) records counters_again in
      let listed = line_behind s bytes lists_place counters formed.few_listed (omega (arith, long)) in
      let starting = line_behind s bytes starting_place listed formed.few_starting (omega (arith, long)) in
      behind s bytes set_place f.setsize starting set_again ∙ rw (← long) (take-length s)
