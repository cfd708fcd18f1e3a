-- What a round is told is told for the reason that document 01 gives, and nothing else is; with what it hands back either way.
-- A reason settles each check up to its own, so it is enough to find one; the book and the game are checked as an order checks them.
use Prim.Native.Nat.{ℕ, ◌≤◌}
use mathlib.Core.Path.{◌≡◌, refl, sym, ap, ◌∙◌}
use mathlib.Core.List.{List}
use native.Mathlib.Omega.{arith}
use native.Mathlib.Decide.{dec_lt}
use borrow.Author.Tests.{eq-eqb, ne_eqb, le-leb, lt-leb}
use lib.Dec.{eqb}
use lib.ListN.{length}
use lib.IntN.{ℤ}
use Rattle.numbers.proofs.Tests.{by_test}
use Rattle.verdicts.specs.declared.Verdict.{Verdict}
use Rattle.verdicts.specs.Verdicts.{accepted}
use Rattle.book.specs.Accepted.{Accepted}
use Rattle.verdicts.proofs.First.{or_else_told}
use Rattle.book.proofs.Reasons.{book_reason_only}
use Rattle.game.specs.declared.Game.{Game}
use Rattle.fitting.specs.Fits.{Fits}
use Rattle.fitting.proofs.Checks.{unfit_told, past_fit, by_fit}
use Rattle.round.specs.Rounds.{round}
use Rattle.round.specs.Answers.{space_for, most_numbers, round_verdict, Answer, turned_down, played_out, answer}
use Rattle.round.specs.claims.Reasons.{numbers_given, RoundReason}
use Rattle.round.proofs.Given.{numbers_in_trace}

pub round_reason_only :
    {book : List ℕ} {g : Game} {buffer : List ℤ} {v : Verdict} → RoundReason book g buffer v → round_verdict book g buffer ≡ v
unfolding round_verdict
round_reason_only {book} (RoundReason.book t) = or_else_told _ _ (book_reason_only book t)
round_reason_only {book} {g} (RoundReason.unfit a m) = unfit_told book g _ a m
round_reason_only {book} {g} (RoundReason.short a f h) = past_fit book g _ a f ∙ rw (lt-leb _ _ h)
round_reason_only {book} {g} (RoundReason.too_many a f h m) =
    past_fit book g _ a f ∙ rw (le-leb _ _ h, numbers_in_trace book g, lt-leb _ _ m)
round_reason_only {book} {g} (RoundReason.nothing a f h m) =
    past_fit book g _ a f ∙ rw (le-leb _ _ h, numbers_in_trace book g, le-leb _ _ m)

module _ (book : List ℕ) (g : Game) (buffer : List ℤ) where
  events : {v : Verdict} → RoundReason book g buffer v → RoundReason book g buffer (round_verdict book g buffer)
  events t = rw (round_reason_only t) t

  by_numbers : Accepted book → Fits book g → space_for book ≤ length buffer → RoundReason book g buffer (round_verdict book g buffer)
  by_numbers a f h = elim (dec_lt most_numbers (numbers_given (round book g).played.trace)) [
    | yes m ↦ events (RoundReason.too_many a f h m)
    | no m ↦ events (RoundReason.nothing a f h (omega arith))
  ]

  pub round_reason : RoundReason book g buffer (round_verdict book g buffer)
  round_reason =
      by_fit book g (λ k p t. events (RoundReason.book t)) (λ a m. events (RoundReason.unfit a m)) (λ a f.
      elim (dec_lt (length buffer) (space_for book)) [
        | yes h ↦ events (RoundReason.short a f h)
        | no h ↦ by_numbers a f (omega arith)
      ]
      )

  -- "After a refusal game and mark buffer are as lent"
  pub turned_down_lem : ((round_verdict book g buffer).number ≡ 0 → ⊥) → answer book g buffer ≡ turned_down (round_verdict book g buffer) g buffer
  unfolding answer
  turned_down_lem h = rw (ne_eqb _ 0 h)

  -- "An accepted round gives the game, the passes, the count of marks, and the marks"
  pub played_out_lem :
      (round_verdict book g buffer).number ≡ 0 → answer book g buffer ≡ played_out (round_verdict book g buffer) (round book g) buffer
  unfolding answer
  played_out_lem h = rw (eq-eqb _ 0 h)

  -- either way the answer tells the verdict
  pub answer_verdict : (answer book g buffer).verdict ≡ round_verdict book g buffer
  unfolding answer
  answer_verdict =
      by_test (λ (a : Answer). a.verdict ≡ round_verdict book g buffer) (eqb (round_verdict book g buffer).number 0) (λ h. refl) (λ h. refl)

-- what an accepted round is accepted for
abbrev pub Playable : List ℕ → Game → List ℤ → Type 0
Playable book g buffer = Accepted book × Fits book g × (space_for book ≤ length buffer)

pub round_clauses :
    {book : List ℕ} {g : Game} {buffer : List ℤ} {v : Verdict} → RoundReason book g buffer v → v.number ≡ 0 → Playable book g buffer
round_clauses (RoundReason.book t) e = absurd (omega arith)
round_clauses (RoundReason.unfit a m) e = absurd (omega arith)
round_clauses (RoundReason.short a f h) e = absurd (omega arith)
round_clauses (RoundReason.too_many a f h m) e = absurd (omega arith)
round_clauses (RoundReason.nothing a f h m) e = (a, f, h)

-- an accepted round was playable and has been played
pub accepted_played :
    (book : List ℕ) (g : Game) (buffer : List ℤ) → (answer book g buffer).verdict ≡ accepted →
    Playable book g buffer × (answer book g buffer ≡ played_out (round_verdict book g buffer) (round book g) buffer)
accepted_played book g buffer e =
    let h = ap (λ (v : Verdict). v.number) (sym (answer_verdict book g buffer) ∙ e) in
    (round_clauses (round_reason book g buffer) h, played_out_lem book g buffer h)
