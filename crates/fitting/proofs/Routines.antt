-- A routine passes its test exactly where its stage, its place and its count left are those that document 01 allows.
-- By cases on the stage; only a timed step has a count that something may be left of.
use Prim.Native.Nat.{ℕ, zero, suc, ◌≤◌}
use mathlib.Core.Path.{◌≡◌, refl}
use mathlib.Core.Bool.{Bool, true, false, ◌||◌, not}
use mathlib.Core.List.{List}
use mathlib.Core.Logic.Iff
use mathlib.Core.Logic.{◌↔◌, ◌⊎◌, inl, inr, ⊎_elim}
use native.Mathlib.Omega.{arith}
use Rattle.numbers.proofs.Tests.{clash}
use Rattle.forms.specs.Timed.{timed_count}
use Rattle.forms.specs.Timed.{MayBeLeft}
use Rattle.forms.proofs.Timed.{timed}
use Rattle.directory.specs.Directory.{step_count, routine_step}
use Rattle.game.specs.declared.Routine.{Routine}
use Rattle.game.specs.Game.{not_started, continuing, rested, ended, stopped, blank}
use Rattle.fitting.specs.Routines.{is_blank, stage_fits, routine_fits}
use Rattle.fitting.proofs.Tests.{less, at_most, equal, fails, refuted, denied, both, choice}

-- stages 1 and 2, and stages 0 and 4
abbrev pub UnderWay : ℕ → Type 0
UnderWay k = (k ≡ continuing) ⊎ (k ≡ rested)

abbrev pub NotUnderWay : ℕ → Type 0
NotUnderWay k = (k ≡ not_started) ⊎ (k ≡ stopped)

-- what the test of routine r says of its stage k, its place p, its flag b for begun and its count left n; it is listed if L
pub record StandsRight (s : List ℕ) (r k p : ℕ) (b : Bool) (n : ℕ) (L : Type 0) : Type 0 where
  pub stage : k ≤ stopped
  pub place : p ≤ step_count s r
  pub listed : UnderWay k → L
  pub unlisted : NotUnderWay k → L → ⊥
  pub begun : b ≡ true → MayBeLeft (routine_step s r p) n
  pub not_begun : b ≡ false → n ≡ 0

-- and of the whole routine, which is to start if S
abbrev pub RoutineRight : List ℕ → ℕ → Routine → Type 0 → Type 0 → Type 0
RoutineRight s r x L S = StandsRight s r x.stage x.place x.begun x.left L × (S → x.stage ≡ not_started)

apart : (k : ℕ) → UnderWay k → NotUnderWay k → ⊥
apart k (inl p) (inl i) = omega arith
apart k (inl p) (inr i) = omega arith
apart k (inr p) (inl i) = omega arith
apart k (inr p) (inr i) = omega arith

-- the stage of a routine that is listed if L
module _ {L : Type 0} (listed : Bool) (l : (listed ≡ true) ↔ L) where
  abbrev StageRight : ℕ → Type 0
  StageRight k = (k ≤ stopped) × (UnderWay k → L) × (NotUnderWay k → L → ⊥)

  under_way : (k : ℕ) → k ≤ stopped → UnderWay k → (listed ≡ true) ↔ StageRight k
  under_way k h p = (λ e. (h, λ _. l.0 e, λ i. absurd (apart k p i)), λ v. l.1 (v.1 p))

  not_under_way : (k : ℕ) → k ≤ stopped → NotUnderWay k → (not listed ≡ true) ↔ StageRight k
  not_under_way k h i = Iff.trans (denied listed l) (λ n. (h, λ p. absurd (apart k p i), λ _. n), λ v. v.2 i)

  ended_right : StageRight ended
  ended_right = (
    omega arith,
    ⊎_elim (λ e. absurd (omega (arith, e))) (λ e. absurd (omega (arith, e))),
    ⊎_elim (λ e. absurd (omega (arith, e))) (λ e. absurd (omega (arith, e))),
  )

  stage_right : (k : ℕ) → (stage_fits k listed ≡ true) ↔ StageRight k
  stage_right zero = not_under_way not_started (omega arith) (inl refl)
  stage_right (suc zero) = under_way continuing (omega arith) (inl refl)
  stage_right (suc (suc zero)) = under_way rested (omega arith) (inr refl)
  stage_right (suc (suc (suc zero))) = (λ _. ended_right, λ _. refl)
  stage_right (suc (suc (suc (suc zero)))) = not_under_way stopped (omega arith) (inr refl)
  stage_right (suc (suc (suc (suc (suc k))))) = (λ h. clash h refl, λ v. absurd (omega (arith, v.0)))

module _ (s : List ℕ) (r : ℕ) (x : Routine) where
  pub routine_right :
      {L S : Type 0} (listed starting : Bool) → (listed ≡ true) ↔ L → (starting ≡ true) ↔ S →
      (routine_fits s r x listed starting ≡ true) ↔ RoutineRight s r x L S
  unfolding routine_fits
  routine_right listed starting l t =
      let here = routine_step s r x.place in
      let stage = both (at_most x.place (step_count s r)) (stage_right listed l x.stage) in
      let start = both stage (choice starting t (refuted t) (equal x.stage not_started) Iff.rfl) in
      let begun = Iff.trans (less x.left (timed_count here)) (timed here x.left) in
      let all = both start (choice x.begun Iff.rfl Iff.rfl begun (equal x.left 0)) in
      Iff.trans all (
        λ (((place, (stage, listed, unlisted)), (start, _)), (begun, not_begun)).
            (record { stage = stage; place = place; listed = listed; unlisted = unlisted; begun = begun; not_begun = not_begun }, start),
        λ (h, start). (((h.place, (h.stage, h.listed, h.unlisted)), (start, λ _. refl)), (h.begun, h.not_begun)),
      )

-- no flag is set
all_off :
    (a b c d e : Bool) → (a || b || c || d || e) ≡ false → (a ≡ false) × (b ≡ false) × (c ≡ false) × (d ≡ false) × (e ≡ false)
all_off true b c d e h = clash refl h
all_off false true c d e h = clash refl h
all_off false false true d e h = clash refl h
all_off false false false true e h = clash refl h
all_off false false false false e h = (refl, refl, refl, refl, h)

pub is_blank_lem : (x : Routine) → (is_blank x ≡ true) ↔ (x ≡ blank)
is_blank_lem x =
    let numbers = both (both (equal x.stage not_started) (equal x.place 0)) (equal x.left 0) in (
      λ h.
          let (zeros, none) = (both numbers (fails _)).0 h in
          let flags = all_off x.suspended x.begun x.stopping x.suspending x.resuming none in
          λ i.
          record {
            stage = zeros.0.0 i;
            place = zeros.0.1 i;
            left = zeros.1 i;
            suspended = flags.0 i;
            begun = flags.1 i;
            stopping = flags.2 i;
            suspending = flags.3 i;
            resuming = flags.4 i;
          },
      λ e. rw e,
    )
