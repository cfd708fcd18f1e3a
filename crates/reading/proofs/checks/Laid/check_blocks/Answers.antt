-- `reading::checks::Laid::check_blocks` meets its contract. The invariant: what is left to find, a 6 first and else the 7 that is kept or
-- the next one, is what the whole search finds.
use Prim.Native.Nat.{ℕ, ◌+◌, ◌<◌, ◌≤◌}
use mathlib.Core.Path.{◌≡◌, refl, sym, ap, ◌∙◌}
use mathlib.Core.List.{List}
use Rattle.std.specs.Prelude.{Option, Some, None}
use Rattle.std.specs.Option.{option_or}
use Rattle.std.proofs.lemmas.Result.{err_from_is_err_and}
use Rattle.verdicts.specs.declared.Refusal.{Refusal}
use Rattle.verdicts.specs.Verdicts.{accepted, told, ◌or_else◌, first_refusal}
use Rattle.layout.specs.Layout.{routines_of}
use Rattle.book.specs.Book.{nesting_at, pausing_at, nesting_verdict, pausing_verdict}
use Rattle.verdicts.proofs.First.{or_else_refused, or_else_assoc, first_begins, first_stops, first_goes, first_ends, first_next}
use Rattle.verdicts.proofs.Answers.{refuses}
use Rattle.reading.specs.Found.{unpaused_verdict}
use Rattle.reading.proofs.checks.Laid.check_blocks.Invariants.{left_to_find}
use Rattle.reading.proofs.checks.Laid.check_blocks.Goals as goal

-- the 7 that is kept, or else the one that is found
kept_or : (k f : Option ℕ) → unpaused_verdict (option_or k f) ≡ (unpaused_verdict k or_else unpaused_verdict f)
kept_or (Some p) f = refl
kept_or None f = refl

-- it is what is left where nothing is left to search
kept_last : (k : Option ℕ) → (unpaused_verdict k or_else accepted) ≡ unpaused_verdict k
kept_last (Some p) = refl
kept_last None = refl

whole :
    (s : List ℕ) →
    (first_refusal (nesting_at s) (routines_of s) 0 or_else first_refusal (pausing_at s) (routines_of s) 0)
    ≡ (nesting_verdict s or_else pausing_verdict s)
unfolding nesting_verdict pausing_verdict
whole s = refl

module _ (s : List ℕ) (all r : ℕ) (kept : Option ℕ) where
  -- a routine that is told 5 or 6 is the answer
  stops : (e : Refusal) → r < all → told e ≡ nesting_at s r → told e ≡ left_to_find s all r (unpaused_verdict kept)
  stops e h n =
      let some : (nesting_at s r).number ≡ 0 → ⊥ = λ z. refuses e (ap (λ v. v.number) n ∙ z) in
      n ∙ rw (first_stops (nesting_at s) all r h some) (sym (or_else_refused (nesting_at s r) _ some))

  goes :
      (found : Option ℕ) → r < all → accepted ≡ nesting_at s r → unpaused_verdict found ≡ pausing_at s r →
      left_to_find s all (r + 1) (unpaused_verdict (option_or kept found)) ≡ left_to_find s all r (unpaused_verdict kept)
  goes found h n p =
      rw (
        first_goes (nesting_at s) all r h (ap (λ v. v.number) (sym n)),
        first_next (pausing_at s) all r h,
        kept_or kept found,
        or_else_assoc (unpaused_verdict kept) (unpaused_verdict found),
        p,
      )

  ends : all ≤ r → left_to_find s all r (unpaused_verdict kept) ≡ unpaused_verdict kept
  ends h = rw (first_ends (nesting_at s) all r h, first_ends (pausing_at s) all r h) (kept_last kept)

pub loop-routine-init : goal.loop-routine-init
loop-routine-init c = rw (first_begins (nesting_at _) _, first_begins (pausing_at _) _)

pub returns-in_err-found : goal.returns-in_err-found
returns-in_err-found c =
    let fault = err_from_is_err_and c.from_residual.result c.from_residual.ensures.1 in
    let here = rw c.routines-routine-end.ensures.0 at c.loop-routine-test.true in
    let told = stops _ _ _ c.loop-routine.unpaused _ here c.in_err-found.ensures.nesting in
    rw (fault.1, fault.2) (told ∙ c.loop-routine.invariant ∙ whole _)

pub loop-routine-preserved : goal.loop-routine-preserved
loop-routine-preserved c =
    let here = rw c.routines-routine-end.ensures.0 at c.loop-routine-test.true in
    let found = c.in_ok-found.ensures in
    rw c.or-unpaused.ensures (goes _ _ _ c.loop-routine.unpaused _ here found.nesting found.pausing ∙ c.loop-routine.invariant)

pub returns-in-Some : goal.returns-in-Some
returns-in-Some c =
    let end = rw c.routines-routine-end.ensures.0 at c.loop-routine-test.false in
    sym (ap unpaused_verdict c.in-Some.is) ∙ sym (ends _ _ _ c.loop-routine.unpaused end) ∙ c.loop-routine.invariant ∙ whole _

pub returns-in-None : goal.returns-in-None
returns-in-None c =
    let end = rw c.routines-routine-end.ensures.0 at c.loop-routine-test.false in
    sym (ap unpaused_verdict c.in-None.is) ∙ sym (ends _ _ _ c.loop-routine.unpaused end) ∙ c.loop-routine.invariant ∙ whole _
