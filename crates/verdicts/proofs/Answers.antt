-- A refusal has a number other than 0, and an answer that is not `WrongNesting` another than 6: by cases.
use Prim.Native.Nat.{ℕ}
use mathlib.Core.Path.{◌≡◌, refl, sym, ap, ◌∙◌}
use native.Mathlib.Omega.{arith}
use Rattle.std.specs.Prelude.{Result, Ok, Err}
use Rattle.verdicts.specs.declared.Refusal.{Refusal}
use Rattle.verdicts.specs.declared.Refusal.TheVariants.{TooShort, WrongCount, WrongLayout, WrongEntry, WrongStep}
use Rattle.verdicts.specs.declared.Refusal.TheVariants.{WrongNesting, WithoutPause, WrongOrder, Unfit, ShortMarks, ShortNames, WrongForm, ShortBuffer}
use Rattle.verdicts.specs.declared.Verdict.{Verdict}
use Rattle.verdicts.specs.Verdicts.{told, verdict_of, ◌or_else◌}
use Rattle.verdicts.proofs.First.{or_else_refused}

pub refuses : (e : Refusal) → (told e).number ≡ 0 → ⊥
refuses TooShort z = omega arith
refuses WrongCount z = omega arith
refuses WrongLayout z = omega arith
refuses (WrongEntry r) z = omega arith
refuses (WrongStep i) z = omega arith
refuses (WrongNesting i) z = omega arith
refuses (WithoutPause i) z = omega arith
refuses WrongOrder z = omega arith
refuses Unfit z = omega arith
refuses ShortMarks z = omega arith
refuses ShortNames z = omega arith
refuses WrongForm z = omega arith
refuses ShortBuffer z = omega arith

pub told_six : (e : Refusal) → ((i : ℕ) → e ≡ WrongNesting i → ⊥) → (told e).number ≡ 6 → ⊥
told_six TooShort n z = omega arith
told_six WrongCount n z = omega arith
told_six WrongLayout n z = omega arith
told_six (WrongEntry r) n z = omega arith
told_six (WrongStep i) n z = omega arith
told_six (WrongNesting i) n z = n i refl
told_six (WithoutPause i) n z = omega arith
told_six WrongOrder n z = omega arith
told_six Unfit n z = omega arith
told_six ShortMarks n z = omega arith
told_six ShortNames n z = omega arith
told_six WrongForm n z = omega arith
told_six ShortBuffer n z = omega arith

pub not_six :
    {T : Type 0} (a : Result T Refusal) → ((i : ℕ) → a ≡ Err (WrongNesting i) → ⊥) → (verdict_of a).number ≡ 6 → ⊥
not_six (Ok x) n z = omega arith
not_six (Err e) n z = told_six e (λ i h. n i (ap Err h)) z

-- so it is what is told where it comes first
pub told_first : (e : Refusal) {v : Verdict} (w : Verdict) → told e ≡ v → told e ≡ (v or_else w)
told_first e {v} w h = h ∙ sym (or_else_refused v w (λ z. refuses e (ap (λ u. u.number) h ∙ z)))
