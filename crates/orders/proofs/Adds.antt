-- An order adds its number to its list or set and nothing else: what was there stays. By kind: another entry of an array is as it was.
-- A start that document 01 says adds nothing gives the very same game, since those to start are as they were.
use Prim.Native.Nat.{ℕ, zero, suc}
use mathlib.Core.Path.{◌≡◌, refl, ap}
use mathlib.Core.Bool.{Bool, true, false}
use mathlib.Core.List.{List}
use mathlib.Core.Logic.{◌⊎◌, inl, inr, ⊎_elim}
use lib.ListN.{get_or, set}
use Rattle.game.specs.declared.Routine.{Routine}
use Rattle.game.specs.declared.Game.{Game}
use Rattle.game.specs.Game.{not_started, blank, routine_at, with_starting, with_routine}
use Rattle.lines.specs.Lines.{is_in}
use Rattle.game.proofs.Outcomes.{game_either}
use Rattle.fitting.specs.Fits.{In, Fits}
use Rattle.fitting.proofs.Lists.{is_in_lem}
use Rattle.orders.specs.Orders.{order_verdict, obeyed, ordered}
use Rattle.orders.specs.Joined.{Joined, OnlyAdds}
use Rattle.orders.proofs.Stores.{entry_set}
use Rattle.orders.proofs.Starts.{nothing_added, start_nothing, start_adds}
use Rattle.orders.proofs.Reasons.{order_clauses, order_reason}

-- an entry whose flag is set, put in place n
flag_adds :
    {A : Type 0} (flag : A → Bool) (l : List A) (n : ℕ) (y d : A) → flag y ≡ true →
    OnlyAdds n (λ m. flag (get_or l m d) ≡ true) (λ m. flag (get_or (set l n y) m d) ≡ true)
flag_adds flag l n y d e =
    record {
      stays = λ m. entry_set (λ x. flag x ≡ true) l n y d m (λ at. e);
      only = λ m. entry_set (λ x. flag x ≡ true → (flag (get_or l m d) ≡ true) ⊎ (m ≡ n)) l n y d m (λ at h. inr at) inl;
    }

module _ {s : List ℕ} {g : Game} (f : Fits s g) where
  routine_adds :
      (flag : Routine → Bool) (n : ℕ) (x : Routine) → flag x ≡ true →
      OnlyAdds n (λ m. flag (routine_at g m) ≡ true) (λ m. flag (routine_at (with_routine g n x) m) ≡ true)
  routine_adds flag n x = flag_adds flag g.routines n x blank

  obeyed_adds : (kind n : ℕ) → OnlyAdds n (Joined kind g) (Joined kind (obeyed g kind n))
  unfolding obeyed Joined
  obeyed_adds zero n = flag_adds (λ b. b) g.broadcast n true false refl
  obeyed_adds (suc zero) n = start_adds g.starting n f.sized.starting (routine_at g n).stage
  obeyed_adds (suc (suc zero)) n = routine_adds (λ x. x.stopping) n _ refl
  obeyed_adds (suc (suc (suc zero))) n = routine_adds (λ x. x.suspending) n _ refl
  obeyed_adds (suc (suc (suc (suc zero)))) n = routine_adds (λ x. x.resuming) n _ refl
  obeyed_adds (suc (suc (suc (suc (suc kind))))) n = nothing_added

-- one law for all kinds, after a refusal too
pub order_adds : (s : List ℕ) (g : Game) (kind n : ℕ) → OnlyAdds n (Joined kind g) (Joined kind (ordered s g kind n).game)
unfolding ordered
order_adds s g kind n =
    let P : Game → Type 0 = λ h. OnlyAdds n (Joined kind g) (Joined kind h) in
    game_either (order_verdict s g kind n) (obeyed g kind n) g P
    (λ e. obeyed_adds (order_clauses (order_reason s g kind n) e).1 kind n) nothing_added

-- "A start of a routine that isn't in stage 0, or is already to start, adds nothing."
module _ (s : List ℕ) (g : Game) (n : ℕ) where
  known : Fits s g → In g.starting n → is_in g.starting n ≡ true
  known f = (is_in_lem g.starting f.lengths_in_range.1 n).1

  pub start_adds_nothing : ((routine_at g n).stage ≡ not_started → ⊥) ⊎ In g.starting n → (ordered s g 1 n).game ≡ g
  unfolding ordered obeyed
  start_adds_nothing why =
      game_either (order_verdict s g 1 n) (obeyed g 1 n) g (λ h. h ≡ g)
      (λ e.
      let (a, f, h) = order_clauses (order_reason s g 1 n) e in
      ap (with_starting g) (start_nothing g.starting n (routine_at g n).stage (⊎_elim inl (λ i. inr (known f i)) why)))
      refl
