-- `parts::Writer::put_game` meets its contract: each part is put behind those before it, so that all of them are put as one, and the buffer
-- has room for all.
use Prim.Native.Nat.{ℕ, ◌+◌, ◌-◌, ◌≤◌, ◌<◌}
use mathlib.Core.Path.{◌≡◌, ap, ◌∙◌}
use mathlib.Core.List.{List}
use native.Mathlib.Nat.{sub-zero}
use native.Mathlib.Omega.{arith}
use borrow.Author.Rules.{rules}
use lib.IntN.{ℤ, pos}
use lib.ListN.{length, get_or, take}
use lib.Seq.{get_or-take, length-take-le}
use Rattle.layout.specs.Layout.{most_routines, most_counters, most_signals}
use Rattle.lines.specs.Lines.{most_entries, used_of}
use Rattle.fitting.proofs.Sizes.{length_mapped}
use Rattle.game.specs.declared.Game.{Game}
use Rattle.game.specs.Game.{blank}
use Rattle.stored_games.specs.declared.Form.{Form}
use Rattle.stored_games.specs.Stored.{count_bytes, lists_from, game_header, stored, length_of}
use Rattle.numbers.specs.Bytes.{word_bytes, complement}
use Rattle.stored_games.specs.Bits.{joined_below}
use Rattle.stored_games.proofs.Joined.{joined_same}
use Rattle.stored_games.proofs.Lengths.{piece_within}
use Rattle.stored_games.proofs.Ends.{records_part, counters_part, up_to_records, up_to_counters, records_end, counters_end, listed_end, starting_end}
use Rattle.storing.specs.declared.parts.Writer.{Writer}
use Rattle.storing.specs.Puts.{WithinLimits, Writes}
use Rattle.storing.proofs.Puts.{writes_then, joined_starts, joined_next, joined_ends}
use Rattle.storing.proofs.parts.Writer.put_game.Goals as goal

-- the buffer has room for all parts
room :
    (f : Form) (g : Game) (at : ℕ) {n : ℕ} → at + length_of f g.counts (used_of g.listed) (used_of g.starting) ≤ n →
    at + (lists_from f g.counts + count_bytes + used_of g.listed + count_bytes + used_of g.starting + f.setsize) ≤ n
unfolding length_of
room f g at h = h

-- the routines and the counters that are gone over are all that the game has
module _ (g : Game) (within : WithinLimits g.counts) where
  all_routines : length g.routines ≡ most_routines → length (take (g.counts.routines - 0) g.routines) ≡ g.counts.routines
  all_routines long =
      rw (sub-zero g.counts.routines) (length-take-le g.counts.routines g.routines (omega (arith, long, within.routines)))

  all_counters : length g.counters ≡ most_counters → length (take (g.counts.counters - 0) g.counters) ≡ g.counts.counters
  all_counters long =
      rw (sub-zero g.counts.counters) (length-take-le g.counts.counters g.counters (omega (arith, long, within.counters)))

-- the bytes of the first counters, read from a part of them
abbrev bytes_of : List ℤ → ℕ → List ℕ
bytes_of values c = word_bytes (complement (get_or values c (pos 0)))

counters_taken :
    (f : Form) (g : Game) → length (take (g.counts.counters - 0) g.counters) ≡ g.counts.counters →
    joined_below (length (take (g.counts.counters - 0) g.counters)) (bytes_of (take (g.counts.counters - 0) g.counters)) ≡ counters_part f g
counters_taken f g all =
    let n = g.counts.counters in
    let part = take (n - 0) g.counters in
    ap (λ k. joined_below k (bytes_of part)) all
    ∙ joined_same n (bytes_of part) (bytes_of g.counters)
    (λ k h. ap (λ v. word_bytes (complement v)) (get_or-take (n - 0) g.counters k (pos 0) (omega arith)))

-- the parts up to the counters, put one behind another
to_records :
    (f : Form) (g : Game) {i : ℕ} {x h l : Writer} → length (take (g.counts.routines - 0) g.routines) ≡ g.counts.routines →
    Writes (game_header f g.counts) x h → Writes (records_part f g i) h l → i ≤ length (take (g.counts.routines - 0) g.routines) →
    length (take (g.counts.routines - 0) g.routines) ≤ i → Writes (up_to_records f g g.counts.routines) x l
to_records f g {i} all header records below above = writes_then header (joined_ends _ i records (omega (arith, all, below)) (omega (arith, all, above)))

to_counters :
    (f : Form) (g : Game) {x l m : Writer} → length (take (g.counts.counters - 0) g.counters) ≡ g.counts.counters →
    Writes (up_to_records f g g.counts.routines) x l →
    Writes (joined_below (length (take (g.counts.counters - 0) g.counters)) (bytes_of (take (g.counts.counters - 0) g.counters))) l m →
    Writes (up_to_counters f g) x m
to_counters f g all records counters = writes_then records (rw (counters_taken f g all) at counters)

pub put_header-requires-clause-in_bounds : goal.put_header-requires-clause-in_bounds
put_header-requires-clause-in_bounds c = omega (arith, room c.args.form.form c.args.game c.args.self.now.end c.requires.in_bounds)

pub loop-routine-init : goal.loop-routine-init
loop-routine-init c =
    let put = c.put_header.ensures.put in joined_starts _ c.put_header.new.self (omega (arith, put.room, put.place, put.same_length))

pub put_record-requires : goal.put_record-requires
put_record-requires c =
    let l = c.loop-routine in
    let g = c.args.game in
    let all = all_routines g c.requires.within_limits (search (rules, length_mapped)) in
    let more : l.routine-index < g.counts.routines = omega (arith, all, c.loop-routine-test.true) in
    let put = (writes_then c.put_header.ensures l.invariant).put in
    let end = records_end c.args.form.usable g l.routine-index in
    let room = room c.args.form.form g c.args.self.now.end c.requires.in_bounds in
    omega (arith, put.place, put.same_length, end, room, piece_within c.args.form.form.recordsize more)

pub loop-routine-preserved : goal.loop-routine-preserved
loop-routine-preserved c =
    let i = c.loop-routine.routine-index in
    let g = c.args.game in
    let all = all_routines g c.requires.within_limits (search (rules, length_mapped)) in
    let more : i < g.counts.routines - 0 = omega (arith, all, c.loop-routine-test.true) in
    let same = get_or-take (g.counts.routines - 0) g.routines i blank more in
    joined_next _ i c.loop-routine.invariant (rw same at c.put_record.ensures)

pub put_counters-requires : goal.put_counters-requires
put_counters-requires c =
    let f = c.args.form.form in
    let g = c.args.game in
    let l = c.loop-routine in
    let routines = all_routines g c.requires.within_limits (search (rules, length_mapped)) in
    let counters = all_counters g c.requires.within_limits (search (rules, length_mapped)) in
    let put = (to_records f g routines c.put_header.ensures l.invariant l.auto.routine-index-end c.loop-routine-test.false).put in
    let end = records_end c.args.form.usable g g.counts.routines in
    omega (arith, put.place, put.same_length, end, room f g c.args.self.now.end c.requires.in_bounds, counters)

pub put_line-requires : goal.put_line-requires
put_line-requires c =
    let f = c.args.form.form in
    let g = c.args.game in
    let l = c.loop-routine in
    let routines = all_routines g c.requires.within_limits (search (rules, length_mapped)) in
    let counters = all_counters g c.requires.within_limits (search (rules, length_mapped)) in
    let records = to_records f g routines c.put_header.ensures l.invariant l.auto.routine-index-end c.loop-routine-test.false in
    let put = (to_counters f g counters records c.put_counters.ensures).put in
    let end = counters_end c.args.form.usable g in
    omega (arith, put.place, put.same_length, end, room f g c.args.self.now.end c.requires.in_bounds)

pub put_line-requires-2 : goal.put_line-requires-2
put_line-requires-2 c =
    let f = c.args.form.form in
    let g = c.args.game in
    let l = c.loop-routine in
    let listed : length g.listed.items ≡ most_entries = search (rules, length_mapped) in
    let routines = all_routines g c.requires.within_limits (search (rules, length_mapped)) in
    let counters = all_counters g c.requires.within_limits (search (rules, length_mapped)) in
    let records = to_records f g routines c.put_header.ensures l.invariant l.auto.routine-index-end c.loop-routine-test.false in
    let put = (writes_then (to_counters f g counters records c.put_counters.ensures) c.put_line.ensures).put in
    let end = listed_end c.args.form.usable g listed in
    omega (arith, put.place, put.same_length, end, room f g c.args.self.now.end c.requires.in_bounds)

pub put_set-requires : goal.put_set-requires
put_set-requires c =
    let f = c.args.form.form in
    let g = c.args.game in
    let l = c.loop-routine in
    let listed : length g.listed.items ≡ most_entries = search (rules, length_mapped) in
    let starting : length g.starting.items ≡ most_entries = search (rules, length_mapped) in
    let broadcast : length g.broadcast ≡ most_signals = search (rules, length_mapped) in
    let routines = all_routines g c.requires.within_limits (search (rules, length_mapped)) in
    let counters = all_counters g c.requires.within_limits (search (rules, length_mapped)) in
    let records = to_records f g routines c.put_header.ensures l.invariant l.auto.routine-index-end c.loop-routine-test.false in
    let to-listed = writes_then (to_counters f g counters records c.put_counters.ensures) c.put_line.ensures in
    let put = (writes_then to-listed c.put_line-2.ensures).put in
    let end = starting_end c.args.form.usable g listed starting in
    (broadcast, omega (arith, put.place, put.same_length, end, room f g c.args.self.now.end c.requires.in_bounds))

pub returns : goal.returns
unfolding stored
returns c =
    let f = c.args.form.form in
    let g = c.args.game in
    let l = c.loop-routine in
    let routines = all_routines g c.requires.within_limits (search (rules, length_mapped)) in
    let counters = all_counters g c.requires.within_limits (search (rules, length_mapped)) in
    let records = to_records f g routines c.put_header.ensures l.invariant l.auto.routine-index-end c.loop-routine-test.false in
    writes_then (writes_then (writes_then (to_counters f g counters records c.put_counters.ensures) c.put_line.ensures) c.put_line-2.ensures) c.put_set.ensures
