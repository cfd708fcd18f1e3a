-- What a play without an order to start keeps: a chain of start steps leads to each routine that has left stage 0 and to each that is to
-- start. A store of a routine to which a chain leads keeps it, and so does a change that leaves the stages as they are.
use Prim.Native.Nat.{ℕ}
use mathlib.Core.Path.{◌≡◌, ◌∙◌}
use mathlib.Core.List.{List, [], ◌∷◌}
use mathlib.Core.Logic.{◌≢◌}
use lib.ListN.{get_or, set}
use Rattle.numbers.specs.Counting.{All}
use Rattle.game.specs.declared.Routine.{Routine}
use Rattle.game.specs.declared.Game.{Game}
use Rattle.game.specs.Game.{not_started, blank, routine_at}
use Rattle.fitting.specs.Fits.{In}
use Rattle.orders.proofs.Stores.{entry_set}
use Rattle.round.specs.Actions.{each}
use Rattle.unstarted.specs.Chains.{Chain}

module _ (book : List ℕ) where
  -- a chain leads to each of these routines that has left stage 0
  abbrev pub Started : List Routine → Type 0
  Started xs = (r : ℕ) → (get_or xs r blank).stage ≢ not_started → Chain book r

  pub record Reached (g : Game) : Type 0 where
    pub started : Started g.routines
    pub starting : (r : ℕ) → In g.starting r → Chain book r

  pub set_started : (xs : List Routine) (r : ℕ) (x : Routine) → Chain book r → Started xs → Started (set xs r x)
  set_started xs r x chain h q = entry_set (λ y. y.stage ≢ not_started → Chain book q) xs r x blank q (λ e n. rw e chain) (h q)

  pub each_started :
      (change : Routine → Routine) (rs : List ℕ) → All (Chain book) rs → (xs : List Routine) → Started xs → Started (each change rs xs)
  unfolding each
  each_started change [] chains xs h = h
  each_started change (r ∷ rs) chains xs h =
      let x = change (get_or xs r blank) in
      each_started change rs chains.1 (set xs r x) (set_started xs r x chains.0 h)

  -- with the stages as they were
  pub same_started :
      (g h : Game) → ((r : ℕ) → (routine_at h r).stage ≡ (routine_at g r).stage) → Started g.routines → Started h.routines
  same_started g h same k r n = k r (λ e. n (same r ∙ e))
