-- The numbers that an order may name, kind by kind: signals for kind 0, routines for the others,
-- and those that an order for an accepted book may name lie below the most that there can be of their kind.
use Prim.Native.Nat.{ℕ, zero, suc, ◌≤◌, ◌<◌, zero-le}
use mathlib.Core.Path.{◌≡◌, refl}
use mathlib.Core.List.{List}
use native.Mathlib.Nat.{lt_of_lt_of_le}
use native.Mathlib.Omega.{arith}
use Rattle.kinds.specs.declared.Counts.{Counts}
use Rattle.layout.specs.Layout.{most_routines, most_signals, most_counters, counts_of}
use Rattle.book.specs.Accepted.{CountsInRange}
use Rattle.game.specs.declared.Game.{Game}
use Rattle.orders.specs.Orders.{order_count, order_verdict}
use Rattle.orders.proofs.Reasons.{order_clauses, order_reason}

-- the most routines, signals and counters that there can be: an accepted order names a number below these, whatever the book
abbrev pub most_counts : Counts
most_counts = record { routines = most_routines; signals = most_signals; counters = most_counters }

at_most : (s : List ℕ) → CountsInRange s → (kind : ℕ) → order_count (counts_of s) kind ≤ order_count most_counts kind
at_most s c zero = c.few_signals
at_most s c (suc zero) = c.few_routines
at_most s c (suc (suc zero)) = c.few_routines
at_most s c (suc (suc (suc zero))) = c.few_routines
at_most s c (suc (suc (suc (suc zero)))) = c.few_routines
at_most s c (suc (suc (suc (suc (suc kind))))) = zero-le

-- an order to broadcast names a signal, and one of any other kind a routine
pub in_signals : (kind n : ℕ) → kind ≡ 0 → n < order_count most_counts kind → n < most_signals
in_signals kind n e h = rw e at h

pub in_routines : (kind n : ℕ) → (kind ≡ 0 → ⊥) → n < order_count most_counts kind → n < most_routines
in_routines zero n e h = absurd (e refl)
in_routines (suc zero) n e h = h
in_routines (suc (suc zero)) n e h = h
in_routines (suc (suc (suc zero))) n e h = h
in_routines (suc (suc (suc (suc zero)))) n e h = h
in_routines (suc (suc (suc (suc (suc kind))))) n e h = absurd (omega arith)

pub nameable : (s : List ℕ) (g : Game) (kind n : ℕ) → (order_verdict s g kind n).number ≡ 0 → n < order_count most_counts kind
nameable s g kind n e =
    let (a, f, h) = order_clauses (order_reason s g kind n) e in
    lt_of_lt_of_le h (at_most s a.laid.counts kind)
