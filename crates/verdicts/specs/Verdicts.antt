-- What a call tells: document 01, "Turned down because of the input" and "Turned down because of the state".
use Rattle.std.specs.Prelude.{ℕ, zero, suc, ◌+◌, Bool, eqb, if◌then◌else◌, Result, Ok, Err}
use Rattle.verdicts.specs.declared.Verdict.{Verdict}
use Rattle.verdicts.specs.declared.Refusal.{Refusal}
use Rattle.verdicts.specs.declared.Refusal.TheVariants.{TooShort, WrongCount, WrongLayout, WrongEntry, WrongStep}
use Rattle.verdicts.specs.declared.Refusal.TheVariants.{WrongNesting, WithoutPause, WrongOrder, Unfit, ShortMarks, ShortNames, WrongForm, ShortBuffer}

-- "both 0 where nothing is turned down"
abbrev pub accepted : Verdict
accepted = record { number = 0; place = 0 }

abbrev pub refused : ℕ → ℕ → Verdict
refused k p = record { number = k; place = p }

-- what each refusal is told as, by its number in document 01, and 12 to 14 by document 02's
abbrev pub told : Refusal → Verdict
-- "Fewer than 12 bytes (place 0)."
told TooShort = refused 1 0
-- "A count outside its range (place 0)."
told WrongCount = refused 2 0
-- "An offset or the length is wrong (place 0)."
told WrongLayout = refused 3 0
-- "The directory breaks its rule", at a routine
told (WrongEntry r) = refused 4 r
-- "A step has an unknown op, a field out of range or a stray field", at a step of the book
told (WrongStep i) = refused 5 i
-- "Wrong nesting"
told (WrongNesting i) = refused 6 i
-- "A while's body doesn't pause"
told (WithoutPause i) = refused 7 i
-- "An order of unknown kind, or a number not below its count."
told WrongOrder = refused 8 0
-- "The game doesn't fit the book."
told Unfit = refused 9 0
-- "The mark buffer .. is shorter than twice the book's mark steps."
told ShortMarks = refused 10 0
-- "12, after 1 to 7, where the buffer is shorter than R."
told ShortNames = refused 12 0
-- "13, after 1 to 7 and before 9, where the bytes have not this form"
told WrongForm = refused 13 0
-- "14, last, where the buffer for storing is shorter than the stored game"
told ShortBuffer = refused 14 0

-- "The answer is the number and the place (.. both 0 where nothing is turned down)"
abbrev pub verdict_of : {T : Type 0} → Result T Refusal → Verdict
verdict_of (Ok x) = accepted
verdict_of (Err r) = told r

-- "Checked in this order .. the first that applies is told."
infixr 2 ◌or_else◌
abbrev pub ◌or_else◌ : Verdict → Verdict → Verdict
v or_else w = if eqb v.number 0 then w else v

-- a refusal, unless a test holds
abbrev pub unless : Bool → Verdict → Verdict
unless fine v = if fine then accepted else v

-- the first refusal among those of n places from i on
unfoldable pub first_refusal : (ℕ → Verdict) → ℕ → ℕ → Verdict
first_refusal at zero i = accepted
first_refusal at (suc n) i = at i or_else first_refusal at n (i + 1)
