-- A game that fits still does once a routine, a counter or those to start give way to ones that are right, or a signal is to be broadcast.
-- One law for each of these parts: what fitting asks of the others is asked of what is as it was.
use Prim.Native.Nat.{ℕ, ◌<◌, ◌≤◌}
use mathlib.Core.Path.{◌≡◌, ◌∙◌}
use mathlib.Core.Bool.{true, false}
use mathlib.Core.List.{List}
use native.Mathlib.Omega.{arith}
use lib.ListN.{length, get_or, set, length-set}
use lib.IntN.{ℤ, pos}
use Rattle.numbers.specs.Numbers.{CounterInRange}
use Rattle.layout.specs.Layout.{routines_of, signals_of, counters_of}
use Rattle.book.specs.Accepted.{CountsInRange}
use Rattle.game.specs.declared.Routine.{Routine}
use Rattle.lines.specs.declared.Line.{Line}
use Rattle.game.specs.declared.Game.{Game}
use Rattle.lines.specs.Lines.{most_entries}
use Rattle.game.specs.Game.{not_started, blank, routine_at, with_routine, with_counter, with_starting, with_broadcast}
use Rattle.fitting.specs.Fits.{In, Fits}
use Rattle.fitting.proofs.Lists.{LineRight}
use Rattle.fitting.proofs.Decides.{CounterRight, OneRight, SlotRight, parts_fit, fit_lists, fit_parts}
use Rattle.orders.proofs.Stores.{set_each}

-- what the clauses ask of those to start
pub record Starts (s : List ℕ) (g : Game) (l : Line) : Type 0 where
  pub sized : length l.items ≡ most_entries
  pub line : LineRight l (routines_of s)
  pub starting : (r : ℕ) → In l r → (routine_at g r).stage ≡ not_started

pub same_starts : {s : List ℕ} {g : Game} → Fits s g → Starts s g g.starting
same_starts {s} {g} f = record { sized = f.sized.starting; line = (fit_lists s g f).1; starting = f.start_stages }

-- an array all of whose entries are right, once a right one is put in place n
stored :
    {A : Type 0} (P : ℕ → A → Type 0) (l : List A) (n : ℕ) (y d : A) {size : ℕ} → length l ≡ size → n < size → P n y →
    ((i : ℕ) → i < size → P i (get_or l i d)) → (length (set l n y) ≡ size) × ((i : ℕ) → i < size → P i (get_or (set l n y) i d))
stored P l n y d {size} z h right all =
    (length-set l n y ∙ z, set_each l n y d (λ i a. i < size → P i a) (omega arith) (λ k. right) (λ i m. all i))

module _ {s : List ℕ} {g : Game} (range : CountsInRange s) (f : Fits s g) where
  pub routine_fits_lem : (n : ℕ) (x : Routine) → n < routines_of s → OneRight s g n x → Fits s (with_routine g n x)
  routine_fits_lem n x below right =
      let z = f.sized in
      let (others, all) = fit_parts s g f in
      let slot : SlotRight s g (routines_of s) n x = (λ h. right, λ out. absurd (omega arith)) in
      let (size, routines) = stored (SlotRight s g (routines_of s)) g.routines n x blank z.routines (omega arith) slot all in
      parts_fit s (with_routine g n x) range (others, routines)
      (record { routines = size; counters = z.counters; listed = z.listed; starting = z.starting; broadcast = z.broadcast })

  pub counter_fits_lem : (c : ℕ) (v : ℤ) → c < counters_of s → CounterInRange v → Fits s (with_counter g c v)
  counter_fits_lem c v below right =
      let z = f.sized in
      let (((lists, all), signals), routines) = fit_parts s g f in
      let slot : CounterRight (counters_of s) c v = (λ h. right, λ out. absurd (omega arith)) in
      let (size, counters) = stored (CounterRight (counters_of s)) g.counters c v (pos 0) z.counters (omega arith) slot all in
      parts_fit s (with_counter g c v) range (((lists, counters), signals), routines)
      (record { routines = z.routines; counters = size; listed = z.listed; starting = z.starting; broadcast = z.broadcast })

  pub broadcast_fits : (e : ℕ) → e < signals_of s → Fits s (with_broadcast g (set g.broadcast e true))
  broadcast_fits e below =
      let z = f.sized in
      let ((others, all), routines) = fit_parts s g f in
      let (size, signals) =
      stored (λ i b. signals_of s ≤ i → b ≡ false) g.broadcast e true false z.broadcast (omega arith) (λ out. absurd (omega arith)) all
      in
      parts_fit s (with_broadcast g (set g.broadcast e true)) range ((others, signals), routines)
      (record { routines = z.routines; counters = z.counters; listed = z.listed; starting = z.starting; broadcast = size })

  pub starting_fits_lem : (l : Line) → Starts s g l → Fits s (with_starting g l)
  starting_fits_lem l t =
      let z = f.sized in
      let ((((listed, starting), counters), signals), all) = fit_parts s g f in
      parts_fit s (with_starting g l) range
      ((((listed, t.line), counters), signals), λ r k. (λ h. (((all r k).0 h).0, t.starting r), (all r k).1))
      (record { routines = z.routines; counters = z.counters; listed = z.listed; starting = t.sized; broadcast = z.broadcast })
