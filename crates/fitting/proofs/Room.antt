-- In a game that fits, a start of a routine in stage 0 joins those to start: a list that the routine is not in has room for it.
-- By counting: different numbers below a bound are no more than the bound.
use Prim.Native.Nat.{ℕ, zero, suc, ◌+◌, ◌<◌, ◌≤◌}
use mathlib.Core.Path.{◌≡◌, sym, ◌∙◌}
use mathlib.Core.Bool.{and-false}
use mathlib.Core.List.{List}
use native.Mathlib.Omega.{arith}
use borrow.Author.Tests.{eqb-true, eqb-false, eq-eqb, lt-ltb}
use lib.Dec.{eqb}
use lib.Seq.{get_or-set_same}
use Rattle.std.specs.Prelude.{if◌then◌else◌}
use Rattle.numbers.proofs.Tests.{clash, by_test, by_flag}
use Rattle.layout.specs.Layout.{routines_of}
use Rattle.book.specs.Accepted.{CountsInRange}
use Rattle.lines.specs.declared.Line.{Line}
use Rattle.game.specs.declared.Game.{Game}
use Rattle.lines.specs.Lines.{most_entries, item_at, is_in}
use Rattle.game.specs.Game.{not_started, routine_at, with_start}
use Rattle.fitting.specs.Fits.{In, Fits}
use Rattle.fitting.proofs.Lists.{LineRight, is_in_lem}
use Rattle.fitting.proofs.Decides.{fit_lists}

-- a claim on both sides of a choice by whether two numbers are equal
either : {A : Type 0} (P : A → Type 0) (a b : ℕ) {x y : A} → (a ≡ b → P x) → ((a ≡ b → ⊥) → P y) → P (if eqb a b then x else y)
either P a b same other = by_test P (eqb a b) (λ e. same (eqb-true a b e)) (λ e. other (eqb-false a b e))

-- Different numbers below k are at most k: the last one takes the place of k - 1 among the others, which then lie below k - 1.
pub few : (k m : ℕ) (f : ℕ → ℕ) → ((i : ℕ) → i < m → f i < k) → ((i j : ℕ) → i < j → j < m → f i ≡ f j → ⊥) → m ≤ k
few k zero f below once = omega arith
few zero (suc m) f below once = absurd (omega (arith, below 0 (omega arith)))
few (suc k) (suc m) f below once =
    let last = f m in
    let others : ℕ → ℕ = λ i. if eqb (f i) k then last else f i in
    let rest =
    few k m others
    (λ i l.
    either (λ v. v < k) (f i) k
    (λ e. omega (arith, below m (omega arith), once i m l (omega arith), e))
    (λ n. omega (arith, below i (omega arith), n)))
    (λ i j l h.
    either (λ v. v ≡ others j → ⊥) (f i) k
    (λ e.
    either (λ w. last ≡ w → ⊥) (f j) k
    (λ d x. once i j l (omega arith) (e ∙ sym d))
    (λ d x. once j m h (omega arith) (sym x)))
    (λ n.
    either (λ w. f i ≡ w → ⊥) (f j) k
    (λ d x. once i m (omega arith) (omega arith) x)
    (λ d x. once i j l (omega arith) x)))
    in
    omega (arith, rest)

-- the entries of a list, and n behind them
abbrev behind : Line → ℕ → ℕ → ℕ
behind l n i = if eqb i l.len then n else item_at l i

-- a list of routines that n is not in is shorter than there are routines
pub room : (l : Line) (n : ℕ) {routines : ℕ} → LineRight l routines → n < routines → (In l n → ⊥) → l.len < routines
room l n {routines} t below new =
    let all =
    few routines (l.len + 1) (behind l n)
    (λ i h. either (λ v. v < routines) i l.len (λ e. below) (λ m. t.entries i (omega arith)))
    (λ i j h k.
    either (λ v. v ≡ behind l n j → ⊥) i l.len (λ e. absurd (omega arith)) (λ m.
    either (λ w. item_at l i ≡ w → ⊥) j l.len (λ e x. new (i, omega arith, x)) (λ d. t.once i j h (omega arith))))
    in
    omega (arith, all)

pub start_joins :
    (s : List ℕ) (g : Game) (n : ℕ) → CountsInRange s → Fits s g → n < routines_of s →
    (routine_at g n).stage ≡ not_started → In (with_start g.starting n (routine_at g n).stage) n
unfolding with_start
start_joins s g n range f h stage =
    let l = g.starting in
    let t = (fit_lists s g f).1 in
    let known = is_in_lem l t.short n in
    by_flag (is_in l n) (λ old. rw (old, and-false) (known.0 old)) (λ new.
    let space : l.len < most_entries = omega (arith, room l n t h (λ v. clash (known.1 v) new), range.few_routines) in
    rw (eq-eqb _ _ stage, new, lt-ltb l.len most_entries space)
    (l.len, omega arith, get_or-set_same l.items l.len n 0 (omega (arith, f.sized.starting))))
