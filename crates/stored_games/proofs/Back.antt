-- A game that fits an accepted book is stored in bytes that have the form and are read as that game: each part that is stored lies at the
-- place where it is read.
use Prim.Native.Nat.{ℕ, ◌+◌, ◌*◌, ◌/◌, ◌%◌, ◌≤◌, ◌<◌}
use mathlib.Core.Path.{◌≡◌, refl, sym, ap, ◌∙◌}
use mathlib.Core.Bool.{Bool, false}
use mathlib.Core.List.{List, [], ◌∷◌}
use native.Mathlib.Omega.{arith}
use native.Mathlib.Decide.{dec_lt}
use native.Mathlib.Nat.{add-zero, one-mul, div-add-mod', mod-lt}
use lib.Dec.{lit<}
use lib.IntN.{ℤ, pos}
use lib.ListN.{length, get_or, get_or-eq_default}
use lib.Seq.{length-take-le, get_or-take, ext_get_or}
use Rattle.numbers.specs.Numbers.{half_limit, half_at, signed}
use Rattle.numbers.specs.Bytes.{half_bytes, word_bytes, word_at, complement}
use Rattle.numbers.specs.Counting.{list_below}
use Rattle.numbers.proofs.Lists.{below_read}
use Rattle.layout.specs.Layout.{most_routines, most_signals, most_counters, routines_of, signals_of, counters_of}
use Rattle.book.specs.Accepted.{Accepted}
use Rattle.lines.specs.declared.Line.{Line}
use Rattle.lines.specs.Lines.{most_entries, item_at, used_of, entries_of}
use Rattle.game.specs.declared.Routine.{Routine}
use Rattle.game.specs.declared.Game.{Game}
use Rattle.game.specs.Game.{stopped, blank, routine_at, counter_at, is_broadcast}
use Rattle.fitting.specs.Fits.{Fits}
use Rattle.fitting.proofs.Lists.{used_all}
use Rattle.stored_games.specs.declared.Form.{Form}
use Rattle.stored_games.specs.Forms.{byte_bits, Usable, HoldsAll}
use Rattle.stored_games.specs.Stored.{game_header_bytes, counter_bytes, count_bytes, counters_from, lists_from, game_header}
use Rattle.stored_games.specs.Stored.{fields_of, record_of, line_bytes, set_byte, stored, length_of}
use Rattle.stored_games.specs.Reading.{parts_of, record_at, routine_by_record, in_slots, line_in, signal_in, game_in, flag_limit}
use Rattle.stored_games.specs.Formed.{Formed}
use Rattle.stored_games.proofs.Bytes.{half_back, complement_back}
use Rattle.stored_games.proofs.Bits.{bit_back}
use Rattle.stored_games.proofs.Lengths.{header_length, record_length, record_bytes}
use Rattle.stored_games.proofs.Ends.{records_part, counters_part, set_part, up_to_records, up_to_counters, up_to_listed, up_to_starting}
use Rattle.stored_games.proofs.Ends.{records_end, counters_end, listed_end, starting_end, stored_length}
use Rattle.stored_games.proofs.Parted.{Part, part_taken, part_read, first, second, half_read, word_read, joined_at, whole}
use Rattle.stored_games.proofs.Places.{front_item}
use Rattle.stored_games.proofs.Records.{flags_small, record_read}
use Rattle.stored_games.proofs.Slots.{slot_value, slot_beyond, slots_length}
use Rattle.stored_games.proofs.Small.{place_small, left_small}

-- a list that lies at a place is read there
module _ {s : List ℕ} (from : ℕ) (l : Line) (p : Part s from (line_bytes l)) (short : l.len ≤ most_entries) where
  count_read : half_at s from ≡ l.len
  unfolding line_bytes
  count_read = half_read l.len (first (half_bytes l.len) (entries_of l) p) (omega arith)

  entries_part : Part s (from + count_bytes) (entries_of l)
  unfolding line_bytes
  entries_part = second (half_bytes l.len) (entries_of l) (from + count_bytes) refl p

  module _ (long : length l.items ≡ most_entries) (none : (i : ℕ) → l.len ≤ i → i < most_entries → item_at l i ≡ 0) where
    entry_read : (i : ℕ) → i < l.len → get_or s (from + count_bytes + i) 0 ≡ item_at l i
    entry_read i h =
        let all = used_all l short in
        let few : length (entries_of l) ≡ used_of l = length-take-le (used_of l) l.items (omega (arith, all, long)) in
        part_read entries_part i (omega (arith, h, few, all)) ∙ get_or-take (used_of l) l.items i 0 (omega (arith, h, all))

    items_read : in_slots most_entries l.len (λ i. get_or s (from + count_bytes + i) 0) 0 ≡ l.items
    items_read =
        let entry : ℕ → ℕ = λ i. get_or s (from + count_bytes + i) 0 in
        let slots = slots_length most_entries l.len entry 0 in
        ext_get_or 0 (in_slots most_entries l.len entry 0) l.items (slots ∙ sym long)
        (λ i h.
        let near : i < most_entries = omega (arith, h, slots) in
        elim (dec_lt i l.len) [
          | yes k ↦ slot_value most_entries l.len entry 0 i 0 near k ∙ entry_read i k
          | no k ↦ slot_beyond most_entries l.len entry 0 i 0 near (omega arith) ∙ sym (none i (omega arith) near)
        ])

    line_read : line_in s from ≡ l
    line_read = rw (count_read, items_read)

module _ {f : Form} (usable : Usable f) {book : List ℕ} (a : Accepted book) {g : Game} (fits : Fits book g) where
  -- R, E and C are the book's, and so within their limits
  few_routines_lem : g.counts.routines ≤ most_routines
  few_routines_lem = rw (ap (λ n. n.routines) fits.numbers) a.laid.counts.few_routines

  few_counters_lem : g.counts.counters ≤ most_counters
  few_counters_lem = rw (ap (λ n. n.counters) fits.numbers) a.laid.counts.few_counters

  few_signals_lem : g.counts.signals ≤ most_signals
  few_signals_lem = rw (ap (λ n. n.signals) fits.numbers) a.laid.counts.few_signals

  -- the stored bytes, and where their parts begin
  abbrev s : List ℕ
  s = stored f g

  abbrev counters_place : ℕ
  counters_place = counters_from f g.counts

  abbrev lists_place : ℕ
  lists_place = lists_from f g.counts

  abbrev starting_place : ℕ
  starting_place = lists_place + count_bytes + g.listed.len

  abbrev set_place : ℕ
  set_place = starting_place + count_bytes + g.starting.len

  places_small : (counters_place < half_limit) × (lists_place < half_limit)
  places_small =
      let size = record_bytes usable g.counts.routines in (
        omega (arith, size, few_routines_lem),
        omega (arith, size, few_routines_lem, few_counters_lem),
      )

  -- the numbers of the header
  number_read : half_at s 0 ≡ f.number
  unfolding stored game_header
  number_read = half_back f.number usable.small_number

  routines_read : half_at s 2 ≡ g.counts.routines
  unfolding stored game_header
  routines_read = half_back g.counts.routines (omega (arith, few_routines_lem))

  signals_read : half_at s 4 ≡ g.counts.signals
  unfolding stored game_header
  signals_read = half_back g.counts.signals (omega (arith, few_signals_lem))

  counters_read : half_at s 6 ≡ g.counts.counters
  unfolding stored game_header
  counters_read = half_back g.counts.counters (omega (arith, few_counters_lem))

  records_offset : half_at s 8 ≡ game_header_bytes
  unfolding stored game_header
  records_offset = refl

  counters_offset : half_at s 10 ≡ counters_place
  unfolding stored game_header
  counters_offset = half_back counters_place places_small.0

  lists_offset : half_at s 12 ≡ lists_place
  unfolding stored game_header
  lists_offset = half_back lists_place places_small.1

  -- where the lists end
  listed_place_end : length (up_to_listed f g) ≡ starting_place
  listed_place_end =
      omega (arith, listed_end usable g fits.sized.listed, used_all g.listed fits.lengths_in_range.0)

  starting_place_end : length (up_to_starting f g) ≡ set_place
  starting_place_end =
      let listed = used_all g.listed fits.lengths_in_range.0 in
      let starting = used_all g.starting fits.lengths_in_range.1 in
      omega (arith, starting_end usable g fits.sized.listed fits.sized.starting, listed, starting)

  -- the parts
  front_starting : Part s 0 (up_to_starting f g)
  unfolding stored
  front_starting = first (up_to_starting f g) (set_part f g) (whole s)

  front_listed : Part s 0 (up_to_listed f g)
  front_listed = first (up_to_listed f g) (line_bytes g.starting) front_starting

  front_counters : Part s 0 (up_to_counters f g)
  front_counters = first (up_to_counters f g) (line_bytes g.listed) front_listed

  front_records : Part s 0 (up_to_records f g g.counts.routines)
  front_records = first (up_to_records f g g.counts.routines) (counters_part f g) front_counters

  set_part_lem : Part s set_place (set_part f g)
  unfolding stored
  set_part_lem = second (up_to_starting f g) (set_part f g) set_place (omega (arith, starting_place_end)) (whole s)

  starting_part : Part s starting_place (line_bytes g.starting)
  starting_part = second (up_to_listed f g) (line_bytes g.starting) starting_place (omega (arith, listed_place_end)) front_starting

  listed_part : Part s lists_place (line_bytes g.listed)
  listed_part = second (up_to_counters f g) (line_bytes g.listed) lists_place (omega (arith, counters_end usable g)) front_listed

  counters_part_lem : Part s counters_place (counters_part f g)
  counters_part_lem =
      let end = records_end usable g g.counts.routines in
      second (up_to_records f g g.counts.routines) (counters_part f g) counters_place (omega (arith, end)) front_counters

  records_part_lem : Part s game_header_bytes (records_part f g g.counts.routines)
  records_part_lem =
      let end = header_length f g.counts in
      second (game_header f g.counts) (records_part f g g.counts.routines) game_header_bytes (omega (arith, end)) front_records

  -- the places at which they are read
  parts_read :
      parts_of f s
      ≡ record {
        counters = counters_place;
        listed = lists_place;
        starting = starting_place;
        broadcast = set_place;
        end = set_place + f.setsize;
      }
  unfolding parts_of
  parts_read =
      rw (
        routines_read,
        counters_read,
        count_read lists_place g.listed listed_part fits.lengths_in_range.0,
        count_read starting_place g.starting starting_part fits.lengths_in_range.1,
      )

  -- what is read there
  record_at_lem : (r : ℕ) → r < g.counts.routines → record_at f s r ≡ record_of f (routine_at g r)
  record_at_lem r h =
      let each : (k : ℕ) → length (record_of f (routine_at g k)) ≡ f.recordsize = λ k. record_length usable (routine_at g k) in
      part_taken (joined_at f.recordsize g.counts.routines (λ k. record_of f (routine_at g k)) each records_part_lem r h)
      f.recordsize (each r)

  routines_back : HoldsAll f → (game_in f s).routines ≡ g.routines
  unfolding game_in
  routines_back all =
      let R = g.counts.routines in
      let routine : ℕ → Routine = λ r. routine_by_record (record_at f s r) in
      let slots = slots_length most_routines R routine blank in
      rw routines_read
      (ext_get_or blank (in_slots most_routines R routine blank) g.routines (slots ∙ sym fits.sized.routines)
      (λ r h.
      let near : r < most_routines = omega (arith, h, slots) in
      elim (dec_lt r R) [
        | yes k ↦
            let ours : r < routines_of book = rw (ap (λ n. n.routines) fits.numbers) at k in
            slot_value most_routines R routine blank r blank near k
            ∙ ap routine_by_record (record_at_lem r k)
            ∙ record_read f all (routine_at g r) (place_small book a g fits r ours) (left_small book a g fits r ours)
        | no k ↦
            let beyond : routines_of book ≤ r = omega (arith, k, ap (λ n. n.routines) fits.numbers) in
            slot_beyond most_routines R routine blank r blank near (omega arith) ∙ sym (fits.routines_beyond r beyond near)
      ]))

  counters_back : (game_in f s).counters ≡ g.counters
  unfolding game_in
  counters_back =
      let C = g.counts.counters in
      let value : ℕ → ℤ = λ c. signed (word_at s (counters_place + counter_bytes * c)) in
      let slots = slots_length most_counters C value (pos 0) in
      rw (parts_read, counters_read)
      (ext_get_or (pos 0) (in_slots most_counters C value (pos 0)) g.counters (slots ∙ sym fits.sized.counters)
      (λ c h.
      let near : c < most_counters = omega (arith, h, slots) in
      elim (dec_lt c C) [
        | yes k ↦
            let ours : c < counters_of book = rw (ap (λ n. n.counters) fits.numbers) at k in
            let (small, back) = complement_back (counter_at g c) (fits.counters_in_range c ours) in
            let word = joined_at counter_bytes C (λ k. word_bytes (complement (counter_at g k))) (λ k. refl) counters_part_lem c k in
            slot_value most_counters C value (pos 0) c (pos 0) near k ∙ ap signed (word_read _ word small) ∙ back
        | no k ↦
            let beyond : counters_of book ≤ c = omega (arith, k, ap (λ n. n.counters) fits.numbers) in
            slot_beyond most_counters C value (pos 0) c (pos 0) near (omega arith) ∙ sym (fits.counters_beyond c beyond near)
      ]))

  -- a bit of the set is its signal's flag
  signal_read : (e : ℕ) → e < f.setsize * byte_bits → signal_in s set_place e ≡ is_broadcast g e
  unfolding set_byte
  signal_read e h =
      let k = e / byte_bits in
      let i = e % byte_bits in
      let near : i < byte_bits = mod-lt e (lit< tt) in
      let place : k * byte_bits + i ≡ e = div-add-mod' e byte_bits in
      let inside : k < f.setsize = omega arith in
      let part = joined_at 1 f.setsize (λ k. set_byte g.broadcast k ∷ []) (λ k. refl) set_part_lem k inside in
      let byte : get_or s (set_place + k) 0 ≡ set_byte g.broadcast k =
      rw (add-zero (set_place + 1 * k), one-mul k) at (part_read part 0 (omega arith))
      in
      let flags : ℕ → Bool = λ j. get_or g.broadcast (k * byte_bits + j) false in
      rw byte (bit_back (list_below byte_bits flags) i ∙ below_read byte_bits flags i false near ∙ rw place)

  -- the form holds the book's signals
  module _ (few : g.counts.signals ≤ f.mostsignals) where
    broadcast_back : (game_in f s).broadcast ≡ g.broadcast
    unfolding game_in
    broadcast_back =
        let E = g.counts.signals in
        let slots = slots_length most_signals E (signal_in s set_place) false in
        rw (parts_read, signals_read)
        (ext_get_or false (in_slots most_signals E (signal_in s set_place) false) g.broadcast (slots ∙ sym fits.sized.broadcast)
        (λ e h.
        let near : e < most_signals = omega (arith, h, slots) in
        elim (dec_lt e E) [
          | yes k ↦
              slot_value most_signals E (signal_in s set_place) false e false near k
              ∙ signal_read e (omega (arith, k, few, usable.bits_enough))
          | no k ↦
              let beyond : signals_of book ≤ e = omega (arith, k, ap (λ n. n.signals) fits.numbers) in
              slot_beyond most_signals E (signal_in s set_place) false e false near (omega arith) ∙ sym (fits.signals_beyond e beyond near)
        ]))

    -- "a fitting game that is stored reads back as that game"
    pub game_back : HoldsAll f → game_in f s ≡ g
    unfolding game_in
    game_back all =
        let listed =
        line_read lists_place g.listed listed_part fits.lengths_in_range.0 fits.sized.listed fits.entries_beyond.0
        in
        let starting =
        line_read starting_place g.starting starting_part fits.lengths_in_range.1 fits.sized.starting fits.entries_beyond.1
        in
        λ i.
        record {
          counts = record { routines = routines_read i; signals = signals_read i; counters = counters_read i };
          routines = routines_back all i;
          counters = counters_back i;
          listed = (ap (λ p. line_in s p.listed) parts_read ∙ listed) i;
          starting = (ap (λ p. line_in s p.starting) parts_read ∙ starting) i;
          broadcast = broadcast_back i;
        }

    signals_beyond_lem : (e : ℕ) → e < f.setsize * byte_bits → g.counts.signals ≤ e → signal_in s set_place e ≡ false
    signals_beyond_lem e h k =
        signal_read e h
        ∙ elim (dec_lt e most_signals) [
          | yes l ↦ fits.signals_beyond e (omega (arith, k, ap (λ n. n.signals) fits.numbers)) l
          | no l ↦ get_or-eq_default g.broadcast false (omega (arith, fits.sized.broadcast))
        ]

    record_stage : (r : ℕ) → r < g.counts.routines → get_or (record_at f s r) 0 0 ≤ stopped
    unfolding record_of
    record_stage r h =
        let x = routine_at g r in
        let ours : r < routines_of book = rw (ap (λ n. n.routines) fits.numbers) at h in
        rw (record_at_lem r h) (omega (arith, front_item f.recordsize (fields_of x) 0, fits.stages_in_range r ours))

    record_flags : (r : ℕ) → r < g.counts.routines → get_or (record_at f s r) 1 0 < flag_limit
    unfolding record_of
    record_flags r h =
        let x = routine_at g r in
        rw (record_at_lem r h) (omega (arith, front_item f.recordsize (fields_of x) 1, flags_small x))

    size_read : length s ≡ set_place + f.setsize
    unfolding length_of
    size_read =
        let listed = used_all g.listed fits.lengths_in_range.0 in
        let starting = used_all g.starting fits.lengths_in_range.1 in
        omega (arith, stored_length usable g fits.sized.listed fits.sized.starting, listed, starting)

    pub stored_formed : Formed f s
    stored_formed =
        record {
          number = number_read;
          some_routine = rw (routines_read, ap (λ n. n.routines) fits.numbers) a.laid.counts.some_routine;
          few_routines = rw routines_read few_routines_lem;
          few_signals = rw signals_read few;
          few_counters = rw counters_read few_counters_lem;
          records_at = records_offset;
          counters_at = rw parts_read counters_offset;
          lists_at = rw parts_read lists_offset;
          size = rw parts_read size_read;
          stages = rw routines_read record_stage;
          flags = rw routines_read record_flags;
          few_listed =
              rw (parts_read, count_read lists_place g.listed listed_part fits.lengths_in_range.0) fits.lengths_in_range.0;
          few_starting =
              rw (parts_read, count_read starting_place g.starting starting_part fits.lengths_in_range.1) fits.lengths_in_range.1;
          no_signals_beyond = rw (parts_read, signals_read) signals_beyond_lem;
        }
