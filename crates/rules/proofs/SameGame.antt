-- Two games that fit one book, and have one scheduler and one position for each routine, are one game: a scheduler leaves out no more
-- than the positions. Field by field; lists that are equally long are the same if they are at each place, and behind its R routines, and
-- behind the entries of a list of routines, a game that fits has nothing but 0.
use Prim.Native.Nat.{ℕ, zero, suc, ◌<◌, ◌≤◌}
use mathlib.Core.Path.{◌≡◌, sym, ap, ◌∙◌}
use mathlib.Core.List.{List, map}
use native.Mathlib.Decide.{dec_lt}
use native.Mathlib.Omega.{arith}
use lib.IntN.{ℤ}
use lib.ListN.{length, get_or}
use lib.Seq.{get_or-take, ext_get_or}
use Rattle.layout.specs.Layout.{most_routines, routines_of}
use Rattle.lines.specs.declared.Line.{Line}
use Rattle.lines.specs.Lines.{most_entries, item_at, entries_of}
use Rattle.game.specs.declared.Routine.{Routine}
use Rattle.game.specs.declared.Game.{Game}
use Rattle.game.specs.Game.{stopped, blank, routine_at}
use Rattle.fitting.specs.Fits.{Fits}
use Rattle.fitting.proofs.Lists.{used_all}
use Rattle.orders.proofs.Stores.{same_at_lem}
use Rattle.round.specs.Actions.{position_of}
use Rattle.round.proofs.Entries.{SizedRight, entries_length}
use Rattle.round.proofs.Listing.{lists_right}
use Rattle.rules.specs.Scheduled.{stage_of, scheduler_of}

-- a claim on each stage
each_stage : (P : ℕ → Type 0) → P 0 → P 1 → P 2 → P 3 → P 4 → (k : ℕ) → k ≤ stopped → P k
each_stage P a b c d e zero h = a
each_stage P a b c d e (suc zero) h = b
each_stage P a b c d e (suc (suc zero)) h = c
each_stage P a b c d e (suc (suc (suc zero))) h = d
each_stage P a b c d e (suc (suc (suc (suc zero)))) h = e
each_stage P a b c d e (suc (suc (suc (suc (suc k))))) h = absurd (omega arith)

-- their statuses tell the stages apart
abbrev Apart : ℕ → ℕ → Type 0
Apart j k = stage_of j ≡ stage_of k → j ≡ k

stages_apart : (j : ℕ) → j ≤ stopped → (k : ℕ) → k ≤ stopped → Apart j k
stages_apart =
    each_stage (λ j. (k : ℕ) → k ≤ stopped → Apart j k)
    (each_stage (Apart 0) (λ e. cc) (λ e. cc) (λ e. cc) (λ e. cc) (λ e. cc))
    (each_stage (Apart 1) (λ e. cc) (λ e. cc) (λ e. cc) (λ e. cc) (λ e. cc))
    (each_stage (Apart 2) (λ e. cc) (λ e. cc) (λ e. cc) (λ e. cc) (λ e. cc))
    (each_stage (Apart 3) (λ e. cc) (λ e. cc) (λ e. cc) (λ e. cc) (λ e. cc))
    (each_stage (Apart 4) (λ e. cc) (λ e. cc) (λ e. cc) (λ e. cc) (λ e. cc))

-- two lists of routines with the same entries
module _ {l m : Line} {routines : ℕ} (p : SizedRight routines l) (q : SizedRight routines m) (e : entries_of l ≡ entries_of m) where
  same_len : l.len ≡ m.len
  same_len = sym (entries_length p) ∙ ap length e ∙ entries_length q

  same_item : (i : ℕ) → i < most_entries → item_at l i ≡ item_at m i
  same_item i h =
      elim (dec_lt i l.len) [
        | yes k ↦
            let used : i < m.len = omega (arith, same_len) in
            sym (rw (used_all l p.0.short) (get_or-take l.len l.items i 0 k)) ∙
            ap (λ es. get_or es i 0) e ∙
            rw (used_all m q.0.short) (get_or-take m.len m.items i 0 used)
        | no n ↦ p.0.beyond i (omega arith) h ∙ sym (q.0.beyond i (omega (arith, same_len)) h)
      ]

  same_line : l ≡ m
  same_line =
      let items = ext_get_or 0 l.items m.items (p.1 ∙ sym q.1) (λ i h. same_item i (omega (arith, p.1))) in
      λ i. record { items = items i; len = same_len i }

module _
    (book : List ℕ) (h k : Game) (ms : List (ℕ × ℤ)) (lost : ℕ) (f : Fits book h) (g : Fits book k)
    (e : scheduler_of h ms lost ≡ scheduler_of k ms lost)
    (p : (r : ℕ) → r < routines_of book → position_of (routine_at h r) ≡ position_of (routine_at k r)) where
  -- a list of the scheduler has the same of each routine
  same_of :
      {A : Type 0} (of : Routine → A) → map of h.routines ≡ map of k.routines →
      (r : ℕ) → of (routine_at h r) ≡ of (routine_at k r)
  same_of of = same_at_lem of h.routines k.routines blank

  same_routine : (r : ℕ) → r < most_routines → routine_at h r ≡ routine_at k r
  same_routine r below =
      elim (dec_lt r (routines_of book)) [
        | yes l ↦
            let status = same_of (λ x. stage_of x.stage) (ap (λ σ. σ.threads.status) e) r in
            let stage = stages_apart _ (f.stages_in_range r l) _ (g.stages_in_range r l) status in
            λ i.
            record {
              stage = stage i;
              place = (p r l i).place;
              left = (p r l i).left;
              suspended = same_of (λ x. x.suspended) (ap (λ σ. σ.threads.susp) e) r i;
              begun = (p r l i).begun;
              stopping = same_of (λ x. x.stopping) (ap (λ σ. σ.orders.to_stop) e) r i;
              suspending = same_of (λ x. x.suspending) (ap (λ σ. σ.orders.to_suspend) e) r i;
              resuming = same_of (λ x. x.resuming) (ap (λ σ. σ.orders.to_resume) e) r i;
            }
        | no n ↦ f.routines_beyond r (omega arith) below ∙ sym (g.routines_beyond r (omega arith) below)
      ]

  pub same_game : h ≡ k
  same_game =
      let (listed, starting) = lists_right book h f in
      let (listed', starting') = lists_right book k g in
      let counts = f.numbers ∙ sym g.numbers in
      let size = f.sized.routines in
      let routines =
      ext_get_or blank h.routines k.routines (size ∙ sym g.sized.routines) (λ r l. same_routine r (omega (arith, size)))
      in
      λ i.
      record {
        counts = counts i;
        routines = routines i;
        counters = (e i).env.counters;
        listed = same_line listed listed' (ap (λ σ. σ.actual) e) i;
        starting = same_line starting starting' (ap (λ σ. σ.orders.to_start) e) i;
        broadcast = (e i).orders.to_broadcast;
      }
