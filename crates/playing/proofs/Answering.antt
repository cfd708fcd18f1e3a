-- What playing a round answers, check by check: the refusal of the first check that turns the round down, or the round as played.
-- What is promised of an accepted answer holds of the definition's, and so of whatever equals it.
use Prim.Native.Nat.{ℕ, suc, ◌≤◌, ◌<◌}
use mathlib.Core.Path.{◌≡◌, refl, sym, subst, ◌∙◌, ap}
use mathlib.Core.List.{List}
use mathlib.Core.Bool.{false}
use native.Mathlib.Omega.{arith}
use lib.ListN.{length}
use lib.IntN.{ℤ}
use Rattle.numbers.proofs.Tests.{clash}
use Rattle.verdicts.specs.declared.Verdict.{Verdict}
use Rattle.verdicts.specs.Verdicts.{accepted, refused}
use Rattle.verdicts.proofs.First.{or_else_refused}
use Rattle.book.specs.Book.{book_verdict}
use Rattle.book.specs.Accepted.{Accepted}
use Rattle.game.specs.declared.Game.{Game}
use Rattle.fitting.specs.Fitting.{fits_book}
use Rattle.fitting.specs.Fits.{Fits}
use Rattle.fitting.proofs.Decides.{fits_decides}
use Rattle.round.specs.Rounds.{round}
use Rattle.round.specs.Answers.{most_lost, Answer, space_for, round_verdict, turned_down, played_out, answer}
use Rattle.round.specs.claims.Reasons.{RoundReason}
use Rattle.round.specs.claims.Demand.{Demand3}
use Rattle.round.proofs.Reasons.{round_reason_only, turned_down_lem, played_out_lem, answer_verdict}
use Rattle.round.proofs.Demand.{round_accepted, answer_demand_3}
use Rattle.round.proofs.Lost.{answer_lost}
use Rattle.rules.specs.Claims.{ByTheRules}
use Rattle.rules.proofs.Adequacy.{round_by_the_rules}

module _ (book : List ℕ) (g : Game) (buffer : List ℤ) where
  module _ (v : Verdict) where
    -- this verdict turns the round down
    abbrev Refuses : Type 0
    Refuses = turned_down v g buffer ≡ answer book g buffer

    refuses : v ≡ round_verdict book g buffer → (v.number ≡ 0 → ⊥) → Refuses
    refuses e n = rw e (sym (turned_down_lem book g buffer (rw (← e) n)))

    -- 1 to 7
    pub book_refuses : v ≡ book_verdict book → (v.number ≡ 0 → ⊥) → Refuses
    unfolding round_verdict
    book_refuses e n = refuses (e ∙ sym (or_else_refused (book_verdict book) _ (rw (← e) n))) n

    -- the others
    reason_refuses : {k : ℕ} → v ≡ refused (suc k) 0 → RoundReason book g buffer (refused (suc k) 0) → Refuses
    reason_refuses {k} e t = refuses (e ∙ sym (round_reason_only t)) (λ z. omega (arith, ap (λ (w : Verdict). w.number) e, z))

    pub unfit_refuses : v ≡ refused 9 0 → Accepted book → fits_book book g ≡ false → Refuses
    unfit_refuses e a h = reason_refuses e (RoundReason.unfit a (λ f. clash ((fits_decides book a.laid.counts g).1 f) h))

    pub short_refuses : v ≡ refused 10 0 → Accepted book → Fits book g → length buffer < space_for book → Refuses
    short_refuses e a f h = reason_refuses e (RoundReason.short a f h)

  -- 11 is never told
  pub plays : Accepted book → Fits book g → space_for book ≤ length buffer → played_out accepted (round book g) buffer ≡ answer book g buffer
  plays a f h =
      let e : round_verdict book g buffer ≡ accepted = sym (answer_verdict book g buffer) ∙ round_accepted book a g f buffer h in
      rw e at (sym (played_out_lem book g buffer (ap (λ (v : Verdict). v.number) e)))

  -- an answer that is the definition's, with what is promised of it, and of it where it is accepted
  abbrev Promised : Answer → Type 0
  Promised r =
      (r ≡ answer book g buffer)
      × ((r.lost ≤ most_lost)
      × ((r.verdict ≡ accepted → Demand3 book g r.passes r.game)
      × (r.verdict ≡ accepted → ByTheRules book g buffer r)))

  pub promised : {r : Answer} → r ≡ answer book g buffer → Promised r
  promised {r} e =
      subst Promised (sym e) (refl, (answer_lost book g buffer, (answer_demand_3 book g buffer, round_by_the_rules book g buffer)))
