-- The 21 kinds sorted: at any position of any bytes, a step goes on along an edge, with a right effect and its events, or it halts
-- the turn at a position where fitting lets a routine stand. By the kind of the step, its form, its op and its fields.
use Prim.Native.Nat.{ℕ, zero, suc, ◌+◌, ◌-◌, ◌≤◌}
use mathlib.Core.Path.{◌≡◌, refl, ap, ◌∙◌}
use mathlib.Core.Bool.{Bool, true, false}
use mathlib.Core.List.{List, [], ◌∷◌}
use native.Mathlib.Omega.{arith}
use native.Mathlib.Decide.{ℕ_discrete}
use borrow.Author.Tests.{eq-eqb, ne_eqb, eqb-true}
use lib.Dec.{eqb}
use lib.ListN.{get_or}
use lib.IntN.{ℤ, pos}
use lib.Signed.{le_z_yes}
use Rattle.std.specs.Prelude.{if◌then◌else◌, Option, Some, None}
use Rattle.numbers.specs.Numbers.{CounterInRange, sum_of, relation_of}
use Rattle.numbers.specs.Sums.{AddsUp, within, above, below}
use Rattle.numbers.proofs.Sums.{adds_up, most_lost_by_one, lost_by_one}
use Rattle.numbers.proofs.Tests.{by_test}
use Rattle.kinds.specs.declared.Kind.{Kind}
use Rattle.kinds.specs.declared.Kind.TheVariants as kind
use Rattle.kinds.specs.declared.Counts.{Counts}
use Rattle.forms.specs.declared.Form.TheVariants.{Plain, IfOpening, ElseMarker, WhileOpening, EndMarker}
use Rattle.kinds.specs.Steps.{op_at, step_at, steps_in}
use Rattle.forms.specs.Forms.{form_of}
use Rattle.forms.specs.Timed as timed
use Rattle.kinds.proofs.Readable.{step_below}
use Rattle.blocks.specs.Blocks.{View, stands, seen}
use Rattle.blocks.proofs.Views.{view_seen}
use Rattle.game.specs.Game.{counter_at}
use Rattle.round.specs.declared.Position.{Position}
use Rattle.round.specs.declared.Effect.TheVariants.{Put}
use Rattle.round.specs.State.{State, signal, end, number, numbers_with, number_at}
use Rattle.round.specs.Ticks.{fresh, count_at, tick_of, tick_at, tick}
use Rattle.round.specs.claims.Demand.{wait, wait_for, join, join_for, read}
use Rattle.round.specs.claims.Sound.{NumbersRight}
use Rattle.round.proofs.Forms.{op_of, step_op}
use Rattle.round.proofs.Leads.{is_halt, next_by, form_at, Leaves, leads, rest_over}
use Rattle.round.proofs.Acts.{Ranged, Sorted, SortedTick}
use Rattle.round.proofs.Acts.{nothing, mark, put, add, give, give_number, start, stop, suspend, resume}
use Rattle.round.proofs.Acts.{silent, marks, gives, gives_number, ends, rests}
use Rattle.round.proofs.Fields.{FieldsRight, fields_right}
use Rattle.round.proofs.Tries.{some_left, fresh_stands, begun_stands, tries_sorted, waits_sorted, waits_for_sorted}

-- "An addition beyond an end gives that end."
sum_in_range : {v n z : ℤ} {k : ℕ} → AddsUp v n z k → CounterInRange z
sum_in_range (within inside) = inside
sum_in_range (above h e) = (le_z_yes tt, le_z_yes tt)
sum_in_range (below h e) = (le_z_yes tt, le_z_yes tt)

-- a number given with signal e, or 0 where there is none
number_in_range : (e : ℕ) (xs : List (ℕ × ℤ)) (i : ℕ) → NumbersRight xs → CounterInRange (get_or (numbers_with e xs) i (pos 0))
unfolding numbers_with
number_in_range e [] i h = (le_z_yes tt, le_z_yes tt)
number_in_range e (x ∷ xs) zero h =
    by_test (λ (l : List ℤ). CounterInRange (get_or l 0 (pos 0))) (eqb x.0 e) (λ own. h.0) (λ other. number_in_range e xs zero h.1)
number_in_range e (x ∷ xs) (suc i) h =
    by_test (λ (l : List ℤ). CounterInRange (get_or l (suc i) (pos 0))) (eqb x.0 e) (λ own. number_in_range e xs i h.1)
    (λ other. number_in_range e xs (suc i) h.1)

-- a count that is none though n is some was begun
begun_by : (b : Bool) (left n : ℕ) → (n ≡ 0 → ⊥) → (if b then left else n) ≡ 0 → b ≡ true
begun_by true left n some none = refl
begun_by false left n some none = absurd (some none)

-- routine r stands at position x
module _ (counts : Counts) (r : ℕ) (steps : List ℕ) (x : Position) (s : State) where
  abbrev There : Kind → Type 0
  There k = step_at counts steps x.place ≡ Some k

  form_there : {k : Kind} → There k → form_at counts steps x.place ≡ stands (form_of k)
  form_there e = view_seen counts steps (steps_in steps) x.place (step_below counts steps x.place e) ∙ ap seen e

  -- the op of a step is its kind's, so the kind says whether it is a signal or a mark step
  op_there : {k : Kind} → There k → op_at steps x.place ≡ op_of k
  op_there e = step_op counts steps x.place e

  -- the edge from a form at which a turn goes on
  edge :
      (v : View) → form_at counts steps x.place ≡ v → is_halt v ≡ false → (t : Bool) →
      Leaves counts steps x (next_by steps v x.place t)
  edge v h on t = leads {q = next_by steps v x.place t} (record { goes_on = rw h on; test = t; to = rw h })

  behind : form_at counts steps x.place ≡ stands Plain → Leaves counts steps x (x.place + 1)
  behind h = edge (stands Plain) h refl true

  -- a timed rest with none left: its n is 0, or it was begun
  rest_over_lem : (n : ℕ) → There (kind.RestFor n) → count_at x n ≡ 0 → Leaves counts steps x (x.place + 1)
  rest_over_lem n e none =
      elim (ℕ_discrete n 0) [
        | yes z ↦ behind (form_there e ∙ rw (eq-eqb n 0 z))
        | no some ↦ rest_over (begun_by x.begun x.left n some none) (form_there e ∙ rw (ne_eqb n 0 some))
      ]

  kind_sorted : (k : Kind) → There k → FieldsRight counts k → SortedTick counts r steps x s (tick_of r steps x s k)
  unfolding tick_of
  kind_sorted (kind.Mark n) e f = (behind (form_there e), mark, marks (op_there e))
  kind_sorted (kind.Set c n) e f = (behind (form_there e), put f.0 (λ ranged. f.1), silent refl (rw (op_there e)))
  kind_sorted (kind.Add c n) e f =
      let v = counter_at s.game c in
      let few : Ranged s → (sum_of v n).lost ≤ most_lost_by_one = λ ranged. lost_by_one v n (ranged.counters c) f.1 in
      (behind (form_there e), add f.0 (sum_in_range (adds_up v n)) few, silent refl (rw (op_there e)))
  kind_sorted (kind.Take c d) e f =
      let v = counter_at s.game c in
      let n = counter_at s.game d in
      let few : Ranged s → (sum_of v n).lost ≤ most_lost_by_one = λ ranged. lost_by_one v n (ranged.counters c) (ranged.counters d) in
      (behind (form_there e), add f.0 (sum_in_range (adds_up v n)) few, silent refl (rw (op_there e)))
  kind_sorted (kind.Signal a) e f = (behind (form_there e), give f, gives (rw (op_there e)))
  kind_sorted (kind.SignalNumber a c) e f =
      (behind (form_there e), give_number f.0 (λ ranged. ranged.counters c), gives_number (rw (op_there e)))
  kind_sorted kind.Rest e f = (λ h. fresh_stands counts steps (x.place + 1) (omega (arith, step_below counts steps x.place e)), rests)
  kind_sorted (kind.RestFor n) e f =
      by_test (λ a. Sorted counts r steps x s a []) (eqb (count_at x n) 0)
      (λ h. (rest_over_lem n e (eqb-true (count_at x n) 0 h), nothing, silent refl (rw (op_there e))))
      (λ h. (begun_stands counts steps x n (rw e timed.rest_for) (some_left (count_at x n) h), rests))
  kind_sorted (kind.Wait a) e f = waits_sorted counts r steps x s (behind (form_there e)) (rw (op_there e)) (signal a) (rw e (wait, tt))
  kind_sorted (kind.WaitFor a n) e f =
      waits_for_sorted counts r steps x s (behind (form_there e)) (rw (op_there e)) (signal a) (count_at x n) (rw e wait_for)
      (λ some. (rw e (wait_for, some), begun_stands counts steps x n (rw e timed.wait_for) some))
  kind_sorted (kind.Join t) e f = waits_sorted counts r steps x s (behind (form_there e)) (rw (op_there e)) (end t) (rw e (join, tt))
  kind_sorted (kind.JoinFor t n) e f =
      waits_for_sorted counts r steps x s (behind (form_there e)) (rw (op_there e)) (end t) (count_at x n) (rw e join_for)
      (λ some. (rw e (join_for, some), begun_stands counts steps x n (rw e timed.join_for) some))
  kind_sorted (kind.Read a c k) e f =
      tries_sorted counts r steps x s (behind (form_there e)) (rw (op_there e)) (number a k) (Put c (number_at s a k)) (fresh (x.place + 1))
      (rw e read) (put f.1 (λ ranged. number_in_range a s.numbers (k - 1) ranged.numbers)) refl
      (λ h. (rw e (read, tt), λ stood. fresh_stands counts steps (x.place + 1) (omega (arith, step_below counts steps x.place e))))
  kind_sorted (kind.Start t) e f = (behind (form_there e), start f, silent refl (rw (op_there e)))
  kind_sorted (kind.Stop t) e f = (behind (form_there e), stop f, silent refl (rw (op_there e)))
  kind_sorted (kind.Suspend t) e f = (behind (form_there e), suspend f, silent refl (rw (op_there e)))
  kind_sorted (kind.Resume t) e f = (behind (form_there e), resume f, silent refl (rw (op_there e)))
  kind_sorted (kind.If c relation n) e f =
      let test = eqb (relation_of relation (counter_at s.game c) n) 1 in
      (edge (stands IfOpening) (form_there e) refl test, nothing, silent refl (rw (op_there e)))
  kind_sorted kind.Else e f = (edge (stands ElseMarker) (form_there e) refl true, nothing, silent refl (rw (op_there e)))
  kind_sorted (kind.While c relation n) e f =
      let test = eqb (relation_of relation (counter_at s.game c) n) 1 in
      (edge (stands WhileOpening) (form_there e) refl test, nothing, silent refl (rw (op_there e)))
  kind_sorted kind.End e f = (edge (stands EndMarker) (form_there e) refl true, nothing, silent refl (rw (op_there e)))

  step_sorted : (st : Option Kind) → step_at counts steps x.place ≡ st → SortedTick counts r steps x s (tick_at r steps x s st)
  step_sorted (Some k) e = kind_sorted k e (fields_right counts steps x.place k e)
  step_sorted None e = (λ h. fresh_stands counts steps (steps_in steps) (omega arith), ends)

pub sorted :
    (counts : Counts) (r : ℕ) (steps : List ℕ) (x : Position) (s : State) → SortedTick counts r steps x s (tick counts r steps x s)
unfolding tick
sorted counts r steps x s = step_sorted counts r steps x s (step_at counts steps x.place) refl
