-- A try of a thing, by the rules: what the definitions test is what the rules ask, so that a thing that is there, one that is missing while
-- the round goes on and one that is missing when it is being closed each meet the conditions of a rule.
use Prim.Native.Nat.{ℕ, ◌-◌, ◌≤◌, ◌<◌}
use mathlib.Core.Path.{◌≡◌, refl, sym, ◌∙◌}
use mathlib.Core.Bool.{Bool, true, false, ◌||◌, true≢false}
use mathlib.Core.List.{List, [], ◌∷◌}
use mathlib.Core.Logic.{◌≢◌, ◌⊎◌, inl, inr}
use borrow.Author.Tests.{leb-true, leb-false}
use lib.Dec.{leb}
use lib.ListN.{length}
use lib.IntN.{ℤ}
use Rattle.numbers.proofs.Tests.{neither, first_or_second}
use Rattle.round.specs.State.{State, end, number, numbers_with, is_end_there, is_there}
use Rattle.round.specs.State as thing
use Rattle.rules.specs.Instructions.{Pause, misses, misses_for, Status, TERM, COOP, CONT, Signal, signal, term, Instruction, nothing}
use Rattle.rules.specs.Instructions.{await, join, await_n, join_n}
use Rattle.rules.specs.Schedulers.{is_present, values_from, values_of, status_of, counts_as_ended}
use Rattle.rules.specs.Rules.{Present, Absent, CountsAsEnded, NotCountedAsEnded, ⟨◌&◌⟩⟶[◌]⟨◌&◌⟩, rule14, rule15, rule16, rule17}
use Rattle.rules.specs.Rules.{rule18, rule18_again, rule25, rule26, rule27, rule28, rule29, rule29_again}
use Rattle.rules.specs.Scheduled.{scheduler_in}
use Rattle.rules.proofs.Walks.{Marks}
use Rattle.rules.proofs.Stages.{counts_view}

pub coop_term : {w : Pause} → COOP w ≢ TERM
coop_term e = true≢false (cc)

pub cont_term : CONT ≢ TERM
cont_term e = true≢false (cc)

pub values_numbers : (e : ℕ) (l : List (ℕ × ℤ)) → numbers_with e l ≡ values_from l e
unfolding numbers_with values_from
values_numbers e [] = refl
values_numbers e ((f, v) ∷ l) = rw (values_numbers e l)

module _ (s : State) (ms : Marks) where
  signal_there_lem : (e : ℕ) → is_there s (thing.signal e) ≡ is_present (signal e) (scheduler_in s ms)
  unfolding is_there scheduler_in
  signal_there_lem e = refl

  end_there : (t : ℕ) → is_there s (end t) ≡ (counts_as_ended (status_of (scheduler_in s ms) t) || is_present (term t) (scheduler_in s ms))
  unfolding is_there is_end_there
  end_there t = rw (counts_view s ms t) (unfold scheduler_in in refl)

  end_found :
      (t : ℕ) → is_there s (end t) ≡ true →
      CountsAsEnded t (scheduler_in s ms) ⊎ (NotCountedAsEnded t (scheduler_in s ms) × Present (term t) (scheduler_in s ms))
  end_found t h =
      first_or_second (counts_as_ended (status_of (scheduler_in s ms) t)) (is_present (term t) (scheduler_in s ms)) (sym (end_there t) ∙ h)

  end_missing : (t : ℕ) → is_there s (end t) ≡ false → NotCountedAsEnded t (scheduler_in s ms) × Absent (term t) (scheduler_in s ms)
  end_missing t h = neither (counts_as_ended (status_of (scheduler_in s ms) t)) (is_present (term t) (scheduler_in s ms)) (sym (end_there t) ∙ h)

  number_there_lem : (e k : ℕ) → is_there s (number e k) ≡ leb k (length (values_of (scheduler_in s ms) e))
  unfolding is_there scheduler_in
  number_there_lem e k = rw (values_numbers e s.numbers)

  pub number_given_lem : (e k : ℕ) → is_there s (number e k) ≡ true → k ≤ length (values_of (scheduler_in s ms) e)
  number_given_lem e k h = leb-true _ _ (sym (number_there_lem e k) ∙ h)

  pub number_missing : (e k : ℕ) → is_there s (number e k) ≡ false → length (values_of (scheduler_in s ms) e) < k
  number_missing e k h = leb-false _ _ (sym (number_there_lem e k) ∙ h)

  -- a rule that leaves the scheduler as it is
  abbrev pub Idle : Instruction → Status → Instruction → Type 0
  Idle i α j = ⟨ i & scheduler_in s ms ⟩⟶[ α ]⟨ j & scheduler_in s ms ⟩

  -- what a try comes to where what it asks for is there, is missing when the round is being closed, and is missing before
  pub record Tried (there : Bool) (i later : Instruction) (w : Pause) : Type 0 where
    pub found : there ≡ true → Idle i TERM nothing
    pub rests : there ≡ false → s.eoi ≡ true → Idle i (COOP w) later
    pub again : there ≡ false → s.eoi ≡ false → Idle i CONT i

  tried_await : (p : ℕ) (e : Signal) → Tried (is_present e (scheduler_in s ms)) (await p e) (await p e) (misses p)
  unfolding scheduler_in
  tried_await p e = record { found = λ p. rule14 p; rests = λ p o. rule16 p o; again = λ p o. rule15 p o }

  tried_await_n :
      (p : ℕ) (e : Signal) (k : ℕ) → 0 < k →
      Tried (is_present e (scheduler_in s ms)) (await_n p e k) (await_n p e (k - 1)) (misses_for p (k - 1))
  unfolding scheduler_in
  tried_await_n p e k h = record { found = λ p. rule25 (inl p); rests = λ p o. rule27 p h o; again = λ p o. rule26 p h o }

  -- a join of t, by what an await of term(t) comes to
  tried_end :
      (t : ℕ) {i later j after : Instruction} {w : Pause} → Tried (is_present (term t) (scheduler_in s ms)) i later w →
      (CountsAsEnded t (scheduler_in s ms) → Idle j TERM nothing) →
      (NotCountedAsEnded t (scheduler_in s ms) → Idle i TERM nothing → Idle j TERM nothing) →
      (NotCountedAsEnded t (scheduler_in s ms) → Idle i (COOP w) later → Idle j (COOP w) after) →
      (NotCountedAsEnded t (scheduler_in s ms) → Idle i CONT i → Idle j CONT j) →
      Tried (is_there s (end t)) j after w
  tried_end t w over found rests again =
      record {
        found = λ h. elim (end_found t h) [ inl e ↦ over e | inr e ↦ found e.0 (w.found e.1) ];
        rests = λ h o. let e = end_missing t h in rests e.0 (w.rests e.1 o);
        again = λ h o. let e = end_missing t h in again e.0 (w.again e.1 o);
      }

  pub tried_wait : (p e : ℕ) → Tried (is_there s (thing.signal e)) (await p (signal e)) (await p (signal e)) (misses p)
  tried_wait p e = rw (signal_there_lem e) (tried_await p (signal e))

  pub tried_wait_for :
      (p e k : ℕ) → 0 < k →
      Tried (is_there s (thing.signal e)) (await_n p (signal e) k) (await_n p (signal e) (k - 1)) (misses_for p (k - 1))
  tried_wait_for p e k h = rw (signal_there_lem e) (tried_await_n p (signal e) k h)

  pub tried_join : (p t : ℕ) → Tried (is_there s (end t)) (join p t) (join p t) (misses p)
  tried_join p t =
      tried_end t (tried_await p (term t))
      (λ e. rule17 e) (λ e a. rule18 e a) (λ e a. rule18_again e a coop_term) (λ e a. rule18_again e a cont_term)

  pub tried_join_for : (p t k : ℕ) → 0 < k → Tried (is_there s (end t)) (join_n p t k) (join_n p t (k - 1)) (misses_for p (k - 1))
  tried_join_for p t k h =
      tried_end t (tried_await_n p (term t) k h)
      (λ e. rule28 (inl e)) (λ e a. rule29 e a) (λ e a. rule29_again e a coop_term) (λ e a. rule29_again e a cont_term)
