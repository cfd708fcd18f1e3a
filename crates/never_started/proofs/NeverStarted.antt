-- A routine that is named as never started is in stage 0 in every play without an order to start. By induction on what is done, chains lead
-- to all routines that have left stage 0 or are to start: set-up has routine 0 alone to start, rounds keep it, and orders of other kinds
-- change neither the stages nor those to start.
use Prim.Native.Nat.{ℕ, zero, suc}
use mathlib.Core.Path.{◌≡◌, refl, sym, subst, ◌∙◌}
use mathlib.Core.List.{List}
use mathlib.Core.Logic.{◌≢◌}
use native.Mathlib.Decide.{ℕ_discrete}
use Rattle.layout.specs.Layout.{counts_of}
use Rattle.book.proofs.Reasons.{accepted_exactly}
use Rattle.game.specs.declared.Routine.{Routine}
use Rattle.game.specs.declared.Game.{Game}
use Rattle.game.specs.Game.{not_started, blank, routine_at, with_routine}
use Rattle.setup.specs.SetUp.{new_game, set_up}
use Rattle.setup.proofs.SetUp.{item_first, stage_new}
use Rattle.orders.specs.Orders.{order_verdict, obeyed, ordered}
use Rattle.orders.proofs.Stores.{same_set}
use Rattle.plays.specs.Plays.{PlayCall, PlayFrom, Play}
use Rattle.unstarted.specs.Chains.{Chain}
use Rattle.unstarted.proofs.Names.{names_unstarted}
use Rattle.game.proofs.Outcomes.{game_either}
use Rattle.never_started.specs.NeverStarted.{start_order, NoStarts, NeverStarted, NamedNeverStarted}
use Rattle.never_started.proofs.Reached.{Reached, same_started}
use Rattle.never_started.proofs.Rounds.{answer_reached}

module _ (book : List ℕ) where
  new_game_reached : Reached book (new_game (counts_of book))
  unfolding new_game
  new_game_reached =
      record {
        started = λ r n. absurd (n (stage_new (counts_of book) r));
        starting = λ r (i, inside, e). subst (Chain book) (sym (item_first i) ∙ e) Chain.empty;
      }

  module _ (g : Game) (h : Reached book g) where
    -- a routine that is replaced by one in the same stage
    routine_reached : (n : ℕ) (x : Routine) → x.stage ≡ (routine_at g n).stage → Reached book (with_routine g n x)
    routine_reached n x e =
        record {
          started = same_started book g (with_routine g n x) (same_set (λ y. y.stage) g.routines n x blank e) h.started;
          starting = h.starting;
        }

    obeyed_reached : (kind n : ℕ) → kind ≢ start_order → Reached book (obeyed g kind n)
    unfolding obeyed
    obeyed_reached zero n other = record { started = h.started; starting = h.starting }
    obeyed_reached (suc zero) n other = absurd (other refl)
    obeyed_reached (suc (suc zero)) n other = routine_reached n _ refl
    obeyed_reached (suc (suc (suc zero))) n other = routine_reached n _ refl
    obeyed_reached (suc (suc (suc (suc zero)))) n other = routine_reached n _ refl
    obeyed_reached (suc (suc (suc (suc (suc kind))))) n other = h

    order_reached : (kind n : ℕ) → kind ≢ start_order → Reached book (ordered book g kind n).game
    unfolding ordered
    order_reached kind n other =
        game_either (order_verdict book g kind n) (obeyed g kind n) g (Reached book) (λ e. obeyed_reached kind n other) h

  from_reached : {g h : Game} {calls : List PlayCall} → PlayFrom book g calls h → NoStarts calls → Reached book g → Reached book h
  from_reached PlayFrom.here none k = k
  from_reached {g} (PlayFrom.plays buffer e l) none k = from_reached l none (answer_reached book g buffer e k)
  from_reached {g} (PlayFrom.orders kind n l) (other, none) k = from_reached l none (order_reached g k kind n other)

  play_reached : {g : Game} {calls : List PlayCall} → Play book calls g → NoStarts calls → Reached book g
  unfolding set_up
  play_reached p none = from_reached p.from none (rw p.accepts new_game_reached)

  -- a routine to which no chain leads
  unreached_never_started : (r : ℕ) → (Chain book r → ⊥) → NeverStarted book r
  unreached_never_started r unreached calls g p none =
      elim (ℕ_discrete (routine_at g r).stage not_started) [
        | yes e ↦ e
        | no n ↦ absurd (unreached ((play_reached p none).started r n))
      ]

  -- one that the call names
  pub never_started : NamedNeverStarted book
  unfolding set_up
  never_started r named calls g p none =
      let accepted = (accepted_exactly book).0 p.accepts in
      unreached_never_started r (((names_unstarted book accepted).named r).0 named).1 calls g p none
