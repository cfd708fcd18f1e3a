-- The turns of a routine of an accepted book, by the rules: the parse of its steps that the book's acceptance gives, over its part of the
-- book, is one over its own steps, so what is shown of any parse holds of what is left of the routine.
use Prim.Native.Nat.{ℕ, ◌<◌, ◌≤◌}
use mathlib.Core.Path.{◌≡◌, refl, sym, subst}
use mathlib.Core.List.{List}
use Rattle.std.specs.Prelude.{Option}
use Rattle.kinds.specs.declared.Kind.{Kind}
use Rattle.kinds.specs.Steps.{step_at, steps_in}
use Rattle.blocks.specs.Blocks.{View, view_at, deepest}
use Rattle.blocks.specs.Parse.{ParsedBlock}
use Rattle.layout.specs.Layout.{routines_of, counts_of}
use Rattle.directory.specs.Directory.{routine_steps}
use Rattle.book.specs.Accepted.{Accepted}
use Rattle.book.proofs.Routines.{own_places}
use Rattle.round.specs.declared.Ending.{Ending}
use Rattle.round.specs.declared.Position.{Position}
use Rattle.round.specs.State.{State}
use Rattle.round.proofs.Parsed.{size_same}
use Rattle.rules.specs.Instructions.{Instruction}
use Rattle.rules.specs.Residual.{left_of_block, residual, ◌⇝◌}
use Rattle.rules.specs.Scheduled.{scheduler_in}
use Rattle.rules.proofs.Walks.{Marks, Ends}
use Rattle.rules.proofs.Turns.{RunsTo, steps_by_rules}

module _ (book : List ℕ) (a : Accepted book) (r : ℕ) (h : r < routines_of book) where
  abbrev steps : List ℕ
  steps = routine_steps book r

  abbrev step_of : ℕ → Option Kind
  step_of = step_at (counts_of book) steps

  -- a parse of the same places that leaves the same everywhere
  abbrev Alike : (ℕ → View) → ℕ → Type 0
  Alike at e = (b : ParsedBlock at deepest 0 e) × ((x : Position) → residual book a r h x ≡ left_of_block r step_of b x)

  parse : Alike (view_at (counts_of book) steps (steps_in steps)) (steps_in steps)
  parse = own_places book r refl (size_same book a r h) Alike (a.nesting r h, λ x. refl)

  pub routine_by_rules :
      {how : Ending} {y : Position} {u : State} {us : Marks} (n : ℕ) (x : Position) (s : State) (ms : Marks) (i : Instruction) →
      x.place ≤ steps_in steps → i ⇝ residual book a r h x → Ends (counts_of book) r steps how y u us n x s ms →
      RunsTo (steps_in (routine_steps book r)) how y i (scheduler_in s ms) (scheduler_in u us) (residual book a r h y)
  routine_by_rules {how} {y} {u} {us} n x s ms i l w t =
      let (b, alike) = parse in
      subst (RunsTo (steps_in steps) how y i (scheduler_in s ms) (scheduler_in u us)) (sym (alike y))
      (steps_by_rules (counts_of book) r steps a.laid.counts.few_routines b n x s ms i l
      (subst (λ (j : Instruction). i ⇝ j) (alike x) w) t)
