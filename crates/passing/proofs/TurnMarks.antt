-- The steps of a turn with the marks in their buffer are the steps of the definition, and the marks are those of the trace: of each step
-- the marks of its effect, one step after the other.
use Prim.Native.Nat.{ℕ, zero, suc}
use mathlib.Core.Path.{◌≡◌, refl, ap, ◌∙◌}
use mathlib.Core.List.{List, [], ◌∷◌, ◌++◌}
use lib.IntN.{ℤ}
use Rattle.kinds.specs.declared.Counts.{Counts}
use Rattle.round.specs.declared.Position.{Position}
use Rattle.round.specs.declared.Act.{Act}
use Rattle.round.specs.declared.Act.TheVariants.{Goes, Halts}
use Rattle.round.specs.State.{State, Event}
use Rattle.round.specs.Ticks.{Tick, fresh, tick, effect_on}
use Rattle.round.specs.Rounds.{Ticks, follow, ticks}
use Rattle.round.specs.Answers.{marks_in}
use Rattle.round.proofs.Marks as trace
use Rattle.ticking.specs.Acts.{act_at, Decodes}
use Rattle.ticking.proofs.StepMarks.{marks_by, marks_in_events, act_same}
use Rattle.passing.specs.Effects.{Marks, marks_put, marked_by}
use Rattle.passing.specs.Turns.{Run, runs, follow_run, run_of, marks_after}

-- marks one behind the other
put_append : (a b : List (ℕ × ℤ)) (m : Marks) → marks_put (a ++ b) m ≡ marks_put b (marks_put a m)
unfolding marks_put
put_append [] b m = refl
put_append (x ∷ a) b m = put_append a b _

pub marks_append : (a b : List Event) (m : Marks) → marks_after (a ++ b) m ≡ marks_after b (marks_after a m)
marks_append a b m = rw (trace.marks_append a b) (put_append (marks_in a) (marks_in b) m)

-- a tick of routine r comes to this, and its events have the marks of it
record Comes (r : ℕ) (t : Tick) (a : Act) : Type 0 where
  act : t.act ≡ a
  marks : marks_in t.events ≡ marks_by r a

-- steps as defined, with the marks that they leave
abbrev pub held_by : Ticks → Marks → Run
held_by t m = runs t.ending t.position t.state (marks_after t.trace m)

-- the steps of a turn
module _ (counts : Counts) (r : ℕ) (steps : List ℕ) (h : Decodes counts steps) where
  follow_same :
      (p : ℕ) (t : Tick) (a : Act) (s : State) (m : Marks) (next : ℕ → State → Ticks) (run : ℕ → State → Marks → Run) → Comes r t a →
      ((q : ℕ) (u : State) (k : Marks) → run q u k ≡ held_by (next q u) k) →
      follow_run r a s m run ≡ held_by (follow r p t.act t.events s next) m
  unfolding marks_in marks_put
  follow_same p t (Goes q e) s m next run same on =
      let events = marks_append t.events (next q (effect_on e s)).trace m in
      rw (same.act, on q (effect_on e s) (marked_by r e m), events, same.marks)
  follow_same p t (Halts how y) s m next run same on = rw (same.act, same.marks)

  comes : (x : Position) (s : State) → Comes r (tick counts r steps x s) (act_at steps x s)
  comes x s =
      let same = act_same r steps x s counts h in record { act = same; marks = marks_in_events r steps x s counts ∙ ap (marks_by r) same }

  pub run_ticks : (n : ℕ) (x : Position) (s : State) (m : Marks) → run_of n r steps x s m ≡ held_by (ticks n counts r steps x s) m
  unfolding run_of ticks marks_in marks_put
  run_ticks zero x s m = refl
  run_ticks (suc n) x s m =
      follow_same x.place (tick counts r steps x s) (act_at steps x s) s m (λ p u. ticks n counts r steps (fresh p) u)
      (λ p u k. run_of n r steps (fresh p) u k) (comes x s) (λ q u k. run_ticks n (fresh q) u k)
