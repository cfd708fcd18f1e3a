-- `formed::StoredBytes::game` meets its contract: each part of the game is what its call reads. Bytes of the form have counts and lists that
-- the arrays hold, and all their records.
use Prim.Native.Nat.{ℕ, ◌+◌, ◌*◌, ◌≤◌, ◌<◌}
use mathlib.Core.List.{List}
use mathlib.Core.Path.{◌≡◌}
use mathlib.Core.Bool.{true}
use native.Mathlib.Omega.{arith}
use borrow.Author.Rules.{rules}
use lib.ListN.{length}
use Rattle.numbers.specs.Numbers.{half_limit, signed}
use Rattle.numbers.specs.Bytes.{word_at}
use Rattle.layout.specs.Layout.{most_routines, most_signals, most_counters}
use Rattle.stored_games.specs.declared.Form.{Form}
use Rattle.stored_games.specs.Stored.{game_header_bytes, counter_bytes}
use Rattle.stored_games.specs.Reading.{record_at, routine_by_record, signal_in, game_in, is_formed}
use Rattle.stored_games.specs.Formed.{Formed}
use Rattle.stored_games.proofs.Decides.{formed_decides}
use Rattle.stored_games.proofs.Lengths.{piece_within}
use Rattle.loading.specs.Places.{place_limit}
use Rattle.loading.proofs.Inside.{Inside, inside}
use Rattle.loading.proofs.formed.StoredBytes.game.Goals as goal

-- the bytes have the form, so their parts are within them
formed : {f : Form} {s : List ℕ} → is_formed f s ≡ true → Formed f s
formed h = (formed_decides _ _).0 h

within : {f : Form} {s : List ℕ} → is_formed f s ≡ true → Inside f s
within h = inside _ _ (formed h).size

pub in_slots-routines-requires : goal.in_slots-routines-requires
in_slots-routines-requires c =
    let a = c.args.self.now in
    let n = c.counts-counts.result.routines in
    let few : n ≤ most_routines = rw c.counts-counts.ensures.0 (formed c.requires).few_routines in
    let all : game_header_bytes + a.form.form.recordsize * n ≤ length a.bytes.now =
    rw c.counts-counts.ensures.0 (within c.requires).records
    in
    let small : (i : ℕ) → i < n → i < half_limit = λ i h. omega (arith, h, few) in
    let inside : (i : ℕ) → i < n → game_header_bytes + a.form.form.recordsize * i + a.form.form.recordsize ≤ length a.bytes.now =
    λ i h. omega (arith, piece_within a.form.form.recordsize h, all)
    in
    search (rules, few, small, inside)

pub in_slots-counters-requires : goal.in_slots-counters-requires
in_slots-counters-requires c =
    let a = c.args.self.now in
    let n = c.counts-counts.result.counters in
    let few : n ≤ most_counters = rw c.counts-counts.ensures.0 (formed c.requires).few_counters in
    let all : c.parts-parts.result.counters + counter_bytes * n ≤ length a.bytes.now =
    rw (c.counts-counts.ensures.0, c.parts-parts.ensures.0) (within c.requires).counters
    in
    let inside : (i : ℕ) → i < n → c.parts-parts.result.counters + counter_bytes * i + counter_bytes ≤ length a.bytes.now =
    λ i h. omega (arith, all, h)
    in
    search (rules, few, inside)

pub in_slots-broadcast-requires : goal.in_slots-broadcast-requires
in_slots-broadcast-requires c =
    let n = c.counts-counts.result.signals in
    let few : n ≤ most_signals =
    rw c.counts-counts.ensures.0 (omega (arith, (formed c.requires).few_signals, c.args.self.now.form.usable.signals_kept))
    in
    let small : (i : ℕ) → i < n → i < place_limit = λ i h. omega (arith, h, few) in
    let near = c.parts-parts.ensures.1.broadcast in
    search (rules, few, small, near)

pub line-requires : goal.line-requires
line-requires c = rw c.parts-parts.ensures.0 ((formed c.requires).few_listed, (within c.requires).listed)

pub line-requires-2 : goal.line-requires-2
line-requires-2 c = rw c.parts-parts.ensures.0 ((formed c.requires).few_starting, (within c.requires).starting)

pub returns : goal.returns
unfolding game_in
returns c =
    let a = c.args.self.now in
    let routines = c.in_slots-routines.ensures (λ r. routine_by_record (record_at a.form.form a.bytes.now r)) (λ i r l post. search rules) in
    let counters =
    c.in_slots-counters.ensures (λ k. signed (word_at a.bytes.now (c.parts-parts.result.counters + counter_bytes * k))) (λ i r l post. search rules)
    in
    let broadcast = c.in_slots-broadcast.ensures (signal_in a.bytes.now c.parts-parts.result.broadcast) (λ i r l post. search rules) in
    rw (
      broadcast,
      c.line-2.ensures,
      c.line.ensures,
      counters,
      routines,
      c.blank_routine.ensures,
      c.parts-parts.ensures.0,
      c.counts-counts.ensures.0,
    )
