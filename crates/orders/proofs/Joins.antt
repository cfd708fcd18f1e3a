-- An accepted order joins its list or set. By kind: its number is a place in the arrays of a game that fits,
-- and the list of those to start has room for a routine that is not in it. A start of a routine that is not in stage 0 adds nothing.
use Prim.Native.Nat.{ℕ, zero, suc, ◌<◌}
use mathlib.Core.Path.{◌≡◌, refl, ◌∙◌, ap}
use mathlib.Core.Bool.{Bool, true, false}
use mathlib.Core.List.{List}
use native.Mathlib.Omega.{arith}
use lib.Seq.{get_or-set_same}
use Rattle.verdicts.specs.Verdicts.{accepted}
use Rattle.layout.specs.Layout.{routines_of, counts_of}
use Rattle.book.specs.Accepted.{CountsInRange}
use Rattle.game.specs.declared.Routine.{Routine}
use Rattle.game.specs.declared.Game.{Game}
use Rattle.game.specs.Game.{not_started, blank, routine_at, with_routine}
use Rattle.fitting.specs.Fits.{Fits}
use Rattle.fitting.proofs.Room.{start_joins}
use Rattle.orders.specs.Orders.{order_count, obeyed, ordered}
use Rattle.orders.specs.Joined.{Joined}
use Rattle.orders.proofs.Reasons.{order_clauses, order_reason}

module _ (s : List ℕ) (g : Game) (range : CountsInRange s) (f : Fits s g) where
  flagged : (n : ℕ) (x : Routine) (flag : Routine → Bool) → flag x ≡ true → n < routines_of s → flag (routine_at (with_routine g n x) n) ≡ true
  flagged n x flag e h =
      let there = get_or-set_same g.routines n x blank (omega (arith, range.few_routines, f.sized.routines)) in ap flag there ∙ e

  obeyed_joins :
      (kind n : ℕ) → n < order_count (counts_of s) kind → (kind ≡ 1 → (routine_at g n).stage ≡ not_started) →
      Joined kind (obeyed g kind n) n
  unfolding obeyed Joined
  obeyed_joins zero n h new = get_or-set_same g.broadcast n true false (omega (arith, range.few_signals, f.sized.broadcast))
  obeyed_joins (suc zero) n h new = start_joins s g n range f h (new refl)
  obeyed_joins (suc (suc zero)) n h new = flagged n _ (λ x. x.stopping) refl h
  obeyed_joins (suc (suc (suc zero))) n h new = flagged n _ (λ x. x.suspending) refl h
  obeyed_joins (suc (suc (suc (suc zero)))) n h new = flagged n _ (λ x. x.resuming) refl h
  obeyed_joins (suc (suc (suc (suc (suc kind))))) n h new = absurd (omega arith)

pub order_joins :
    (s : List ℕ) (g : Game) (kind n : ℕ) → (ordered s g kind n).verdict ≡ accepted →
    (kind ≡ 1 → (routine_at g n).stage ≡ not_started) → Joined kind (ordered s g kind n).game n
unfolding ordered
order_joins s g kind n e new =
    let (a, f, h) = order_clauses (order_reason s g kind n) (ap (λ v. v.number) e) in
    rw e (obeyed_joins s g a.laid.counts f kind n h new)
