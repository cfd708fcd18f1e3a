-- A routine that joins those to start: the list is as it was, or has the routine behind its last entry.
-- Both fit, what was in it is still there, and a second start of the same routine adds nothing.
use Prim.Native.Nat.{ℕ, ◌+◌, ◌<◌, ◌≤◌}
use mathlib.Core.Path.{◌≡◌, refl, sym, ◌∙◌}
use mathlib.Core.Bool.{true, false, ◌&&◌, not, and-false}
use mathlib.Core.List.{List}
use mathlib.Core.Logic.{◌⊎◌, inl, inr, ⊎_elim}
use native.Mathlib.Omega.{arith}
use borrow.Author.Tests.{ltb-true, eqb-true, ne_eqb, not-true}
use lib.Dec.{ltb, eqb}
use lib.ListN.{length, length-set}
use lib.Seq.{get_or-set_same, get_or-set_other}
use Rattle.numbers.proofs.Tests.{clash, and_both, by_test}
use Rattle.layout.specs.Layout.{routines_of}
use Rattle.lines.specs.declared.Line.{Line}
use Rattle.game.specs.declared.Game.{Game}
use Rattle.lines.specs.Lines.{most_entries, item_at, is_in}
use Rattle.game.specs.Game.{not_started, routine_at, with_start}
use Rattle.fitting.specs.Fits.{In}
use Rattle.fitting.proofs.Lists.{joined, LineRight, is_in_lem}
use Rattle.orders.specs.Joined.{OnlyAdds}
use Rattle.orders.proofs.Changed.{Starts}
use Rattle.orders.proofs.Stores.{set_each}

pub nothing_added : {n : ℕ} {P : ℕ → Type 0} → OnlyAdds n P P
nothing_added = record { stays = λ m h. h; only = λ m h. inl h }

module _ (l : Line) (r stage : ℕ) where
  -- a claim on the list after a start: nothing was added, or a routine in stage 0 that was not in it
  start_either :
      (P : Line → Type 0) → (with_start l r stage ≡ l → P l) →
      (l.len < most_entries → stage ≡ not_started → is_in l r ≡ false → P (joined l r)) → P (with_start l r stage)
  unfolding with_start
  start_either P same added =
      by_test (λ m. with_start l r stage ≡ m → P m) (eqb stage not_started && not (is_in l r))
      (λ new.
      let both = and_both (eqb stage not_started) (not (is_in l r)) new in
      by_test (λ m. with_start l r stage ≡ m → P m) (ltb l.len most_entries)
      (λ room e. added (ltb-true _ _ room) (eqb-true _ _ both.0) (not-true _ both.1))
      (λ full. same))
      (λ old. same)
      refl

  -- "A start of a routine that isn't in stage 0, or is already to start, adds nothing."
  pub start_nothing : (stage ≡ not_started → ⊥) ⊎ (is_in l r ≡ true) → with_start l r stage ≡ l
  unfolding with_start
  start_nothing (inl n) = rw (ne_eqb stage not_started n)
  start_nothing (inr e) = rw (e, and-false)

module _ (l : Line) (r : ℕ) (z : length l.items ≡ most_entries) where
  module _ (room : l.len < most_entries) where
    inside : l.len < length l.items
    inside = omega arith

    joined_last : item_at (joined l r) l.len ≡ r
    joined_last = get_or-set_same l.items l.len r 0 inside

    joined_before : (i : ℕ) → (i ≡ l.len → ⊥) → item_at (joined l r) i ≡ item_at l i
    joined_before i n = get_or-set_other l.items l.len i r 0 n

    joined_in : is_in (joined l r) r ≡ true
    joined_in = (is_in_lem (joined l r) (omega arith) r).1 (l.len, omega arith, joined_last)

    pub joined_right : {routines : ℕ} → LineRight l routines → r < routines → (In l r → ⊥) → LineRight (joined l r) routines
    joined_right {routines} t below new =
        record {
          short = omega arith;
          entries =
              set_each l.items l.len r 0 (λ i v. i < l.len + 1 → v < routines) inside (λ a. below)
              (λ i n a. t.entries i (omega arith));
          beyond =
              set_each l.items l.len r 0 (λ i v. l.len + 1 ≤ i → i < most_entries → v ≡ 0) inside (λ a b. absurd (omega arith))
              (λ i n a. t.beyond i (omega arith));
          once =
              λ i.
              set_each l.items l.len r 0 (λ j v. i < j → j < l.len + 1 → item_at (joined l r) i ≡ v → ⊥) inside
              (λ a b e. new (i, a, sym (joined_before i (λ k. omega arith)) ∙ e))
              (λ j n a b e. t.once i j a (omega arith) (sym (joined_before i (λ k. omega arith)) ∙ e));
        }

    -- what was in the list stays, and r is all that comes to it
    pub joined_adds : OnlyAdds r (In l) (In (joined l r))
    joined_adds =
        record {
          stays = λ m (i, h, e). (i, omega arith, joined_before i (λ k. omega arith) ∙ e);
          only =
              λ m (i, h, e).
              set_each l.items l.len r 0 (λ i v. i < l.len + 1 → v ≡ m → In l m ⊎ (m ≡ r)) inside
              (λ a e. inr (sym e)) (λ i n a e. inl (i, omega arith, e)) i h e;
        }

  pub starts_start : {s : List ℕ} {g : Game} → Starts s g l → r < routines_of s → Starts s g (with_start l r (routine_at g r).stage)
  starts_start {s} {g} t below =
      start_either l r (routine_at g r).stage (Starts s g) (λ e. t) (λ room stage new.
      record {
        sized = length-set l.items l.len r ∙ z;
        line = joined_right room t.line below (λ h. clash ((is_in_lem l t.line.short r).1 h) new);
        starting = λ k h. ⊎_elim (t.starting k) (λ e. rw e stage) ((joined_adds room).only k h);
      })

  pub start_adds : (stage : ℕ) → OnlyAdds r (In l) (In (with_start l r stage))
  start_adds stage =
      start_either l r stage (λ k. OnlyAdds r (In l) (In k)) (λ e. nothing_added) (λ room e new. joined_adds room)

  pub start_again : (stage : ℕ) → with_start (with_start l r stage) r stage ≡ with_start l r stage
  unfolding with_start
  start_again stage =
      start_either l r stage (λ m. with_start m r stage ≡ m) (λ e. e) (λ room e new. rw (joined_in room, and-false))
