-- The rules derive nothing else: from one start, two derivations by rules 1 to 32 have the same status, instruction left and scheduler, and
-- a thread, an execution step or an instant by rules 33 to 38 the same log and end. By induction over both derivations, from starts that
-- are equal: where two rules are for one instruction, their conditions exclude each other, or they agree.
use Prim.Native.Nat.{ℕ, ◌≤◌}
use mathlib.Core.Path.{◌≡◌, refl}
use mathlib.Core.List.{List, ◌∷◌}
use mathlib.Core.Logic.{inl, inr}
use native.Mathlib.Omega.{arith}
use Rattle.numbers.proofs.Sums.{adds_up_once}
use Rattle.rules.specs.Instructions.{Status, TERM, Signal, Call, Instruction, await_n}
use Rattle.rules.specs.Schedulers.{Scheduler, Called, writes, becomes, adds, takes}
use Rattle.rules.specs.Rules.{⟨◌&◌⟩⟶[◌]⟨◌&◌⟩, rule1, rule2, rule3, rule4, rule5, rule6, rule7, rule8, rule9, rule10, rule11, rule12}
use Rattle.rules.specs.Rules.{rule13, rule14, rule15, rule16, rule17, rule18, rule18_again, rule19, rule20, rule21, rule22, rule23}
use Rattle.rules.specs.Rules.{rule24, rule25, rule26, rule27, rule28, rule29, rule29_again, rule30, rule31, rule32}
use Rattle.rules.specs.Instants.{Execution, Thread, rule33, rule34, StepLog, InTurn, none, next, ExecutionStep, rule35, rule36, Log}
use Rattle.rules.specs.Instants.{Instant, rule37, rule38}
use Rattle.rules.proofs.Naming.{given}

-- what a derivation comes to, as one value: what is above the arrow, the instructions left, the scheduler
data Result (A B : Type 0) : Type 0 where
  gives : A → B → Scheduler → Result A B

-- a wait with no instant left terminates
expired :
    {p k : ℕ} {e : Signal} {i : Instruction} {σ τ : Scheduler} {α : Status} →
    ⟨ await_n p e k & σ ⟩⟶[ α ]⟨ i & τ ⟩ → k ≤ 0 →
    α ≡ TERM
expired (rule25 x) h = refl
expired (rule26 x u v) h = absurd (omega arith)
expired (rule27 x u v) h = absurd (omega arith)

-- a call leads to one scheduler, since a sum, and what it cuts off, is one number
same_call : {c : Call} {σ τ υ ω : Scheduler} → Called c σ τ → Called c υ ω → σ ≡ υ → τ ≡ ω
same_call writes writes e = cc
same_call becomes becomes e = cc
same_call (adds a) (adds b) e = let h = adds_up_once a in let g = adds_up_once b in cc
same_call (takes a) (takes b) e = let h = adds_up_once a in let g = adds_up_once b in cc

same_result :
    {i j k : Instruction} {σ τ υ ω : Scheduler} {α β : Status} →
    ⟨ i & σ ⟩⟶[ α ]⟨ j & τ ⟩ → ⟨ i & υ ⟩⟶[ β ]⟨ k & ω ⟩ → σ ≡ υ →
    gives α j τ ≡ gives β k ω
same_result (rule1 a) (rule1 b) e = let h = same_call a b e in cc
same_result rule2 rule2 e = cc
same_result (rule3 a c) (rule3 b d) e = given (same_result a b e) (λ h. same_result c d (cc))
same_result (rule3 a c) (rule4 b m) e = given (same_result a b e) (λ h. absurd (m (cc)))
same_result (rule4 a n) (rule3 b d) e = given (same_result a b e) (λ h. absurd (n (cc)))
same_result (rule4 a n) (rule4 b m) e = given (same_result a b e) (λ h. cc)
same_result (rule5 x) (rule5 y) e = cc
same_result (rule5 x) (rule6 y b) e = absurd (x (rw (← e) at y))
same_result (rule6 x a) (rule5 y) e = absurd (y (rw e at x))
same_result (rule6 x a) (rule6 y b) e = same_result a b e
same_result (rule7 a c) (rule7 b d) e = given (same_result a b e) (λ h. same_result c d (cc))
same_result (rule7 a c) (rule8 b m) e = given (same_result a b e) (λ h. absurd (m (cc)))
same_result (rule8 a n) (rule7 b d) e = given (same_result a b e) (λ h. absurd (n (cc)))
same_result (rule8 a n) (rule8 b m) e = given (same_result a b e) (λ h. cc)
same_result (rule9 x a) (rule9 y b) e = same_result a b e
same_result (rule9 x a) (rule10 y b) e = absurd (y (rw e at x))
same_result (rule10 x a) (rule9 y b) e = absurd (x (rw (← e) at y))
same_result (rule10 x a) (rule10 y b) e = same_result a b e
same_result rule11 rule11 e = cc
same_result rule12 rule12 e = cc
same_result rule13 rule13 e = cc
same_result (rule14 x) (rule14 y) e = cc
same_result (rule14 x) (rule15 y w) e = cc
same_result (rule14 x) (rule16 y w) e = cc
same_result (rule15 x u) (rule14 y) e = cc
same_result (rule15 x u) (rule15 y w) e = cc
same_result (rule15 x u) (rule16 y w) e = cc
same_result (rule16 x u) (rule14 y) e = cc
same_result (rule16 x u) (rule15 y w) e = cc
same_result (rule16 x u) (rule16 y w) e = cc
same_result (rule17 x) (rule17 y) e = cc
same_result (rule17 x) (rule18 y b) e = cc
same_result (rule17 x) (rule18_again y b m) e = cc
same_result (rule18 x a) (rule17 y) e = cc
same_result (rule18 x a) (rule18 y b) e = same_result a b e
same_result (rule18 x a) (rule18_again y b m) e = given (same_result a b e) (λ h. absurd (m (cc)))
same_result (rule18_again x a n) (rule17 y) e = cc
same_result (rule18_again x a n) (rule18 y b) e = given (same_result a b e) (λ h. absurd (n (cc)))
same_result (rule18_again x a n) (rule18_again y b m) e = given (same_result a b e) (λ h. cc)
same_result rule19 rule19 e = cc
same_result rule20 rule20 e = cc
same_result rule21 rule21 e = cc
same_result rule22 rule22 e = cc
same_result (rule23 x) (rule23 y) e = cc
same_result (rule23 x) (rule24 y) e = absurd (omega arith)
same_result (rule24 x) (rule23 y) e = absurd (omega arith)
same_result (rule24 x) (rule24 y) e = cc
same_result (rule25 x) (rule25 y) e = cc
same_result (rule25 (inl x)) (rule26 y w z) e = cc
same_result (rule25 (inr x)) (rule26 y w z) e = absurd (omega arith)
same_result (rule25 (inl x)) (rule27 y w z) e = cc
same_result (rule25 (inr x)) (rule27 y w z) e = absurd (omega arith)
same_result (rule26 x u v) (rule25 (inl y)) e = cc
same_result (rule26 x u v) (rule25 (inr y)) e = absurd (omega arith)
same_result (rule26 x u v) (rule26 y w z) e = cc
same_result (rule26 x u v) (rule27 y w z) e = cc
same_result (rule27 x u v) (rule25 (inl y)) e = cc
same_result (rule27 x u v) (rule25 (inr y)) e = absurd (omega arith)
same_result (rule27 x u v) (rule26 y w z) e = cc
same_result (rule27 x u v) (rule27 y w z) e = cc
same_result (rule28 x) (rule28 y) e = cc
same_result (rule28 x) (rule29 y (rule25 w)) e = cc
same_result (rule28 (inl x)) (rule29_again y b m) e = cc
same_result (rule28 (inr x)) (rule29_again y b m) e = absurd (m (expired b x))
same_result (rule29 x (rule25 u)) (rule28 y) e = cc
same_result (rule29 x a) (rule29 y b) e = same_result a b e
same_result (rule29 x a) (rule29_again y b m) e = given (same_result a b e) (λ h. absurd (m (cc)))
same_result (rule29_again x a n) (rule28 (inl y)) e = cc
same_result (rule29_again x a n) (rule28 (inr y)) e = absurd (n (expired a y))
same_result (rule29_again x a n) (rule29 y b) e = given (same_result a b e) (λ h. absurd (n (cc)))
same_result (rule29_again x a n) (rule29_again y b m) e = given (same_result a b e) (λ h. cc)
same_result (rule30 x) (rule30 y) e = cc
same_result (rule30 x) (rule31 y w) e = absurd (omega (arith, rw e at x))
same_result (rule30 x) (rule32 y w) e = absurd (omega (arith, rw e at x))
same_result (rule31 x u) (rule30 y) e = absurd (omega (arith, rw e at x))
same_result (rule31 x u) (rule31 y w) e = cc
same_result (rule31 x u) (rule32 y w) e = cc
same_result (rule32 x u) (rule30 y) e = absurd (omega (arith, rw e at x))
same_result (rule32 x u) (rule31 y w) e = cc
same_result (rule32 x u) (rule32 y w) e = cc

pub determined :
    {i j k : Instruction} {σ τ υ : Scheduler} {α β : Status} →
    ⟨ i & σ ⟩⟶[ α ]⟨ j & τ ⟩ → ⟨ i & σ ⟩⟶[ β ]⟨ k & υ ⟩ →
    (α ≡ β) × (j ≡ k) × (τ ≡ υ)
determined a b = let h = same_result a b refl in (cc, cc, cc)

same_thread :
    {t : ℕ} {run run' other other' : ℕ → Instruction} {σ τ υ ω : Scheduler} {b c : Execution} →
    Thread t run σ b run' τ → Thread t other υ c other' ω → run ≡ other → σ ≡ υ →
    gives b run' τ ≡ gives c other' ω
same_thread (rule33 x) (rule33 y) f e = cc
same_thread (rule33 (inl x)) (rule34 y w b) f e = cc
same_thread (rule33 (inr x)) (rule34 y w b) f e = absurd (x (cc))
same_thread (rule34 x u a) (rule33 (inl y)) f e = cc
same_thread (rule34 x u a) (rule33 (inr y)) f e = absurd (y (cc))
same_thread (rule34 x u a) (rule34 y w b) f e = given (same_result a (rw (← f) at b) e) (λ h. cc)

pub thread_determined :
    {t : ℕ} {run run' run'' : ℕ → Instruction} {σ τ υ : Scheduler} {b c : Execution} →
    Thread t run σ b run' τ → Thread t run σ c run'' υ →
    (b ≡ c) × (run' ≡ run'') × (τ ≡ υ)
thread_determined a b = let h = same_thread a b refl refl in (cc, cc, cc)

same_turns :
    {ts : List ℕ} {run run' other other' : ℕ → Instruction} {σ τ υ ω : Scheduler} {b c : StepLog} →
    InTurn ts run σ b run' τ → InTurn ts other υ c other' ω → run ≡ other → σ ≡ υ →
    gives b run' τ ≡ gives c other' ω
same_turns none none f e = cc
same_turns (next a c) (next b d) f e = given (same_thread a b f e) (λ h. given (same_turns c d (cc) (cc)) (λ g. cc))

same_step :
    {run run' other other' : ℕ → Instruction} {σ τ υ ω : Scheduler} {b c : StepLog} →
    ExecutionStep run σ b run' τ → ExecutionStep other υ c other' ω → run ≡ other → σ ≡ υ →
    gives b run' τ ≡ gives c other' ω
same_step (rule35 x) (rule35 y) f e = cc
same_step (rule35 x) (rule36 y b) f e = cc
same_step (rule36 x a) (rule35 y) f e = cc
same_step (rule36 {t} {ts} x a) (rule36 {t = u} {ts = us} y b) f e = let h : t ∷ ts ≡ u ∷ us = cc in same_turns a (rw h b) f e

pub step_determined :
    {run run' run'' : ℕ → Instruction} {σ τ υ : Scheduler} {b c : StepLog} →
    ExecutionStep run σ b run' τ → ExecutionStep run σ c run'' υ →
    (b ≡ c) × (run' ≡ run'') × (τ ≡ υ)
step_determined a b = let h = same_step a b refl refl in (cc, cc, cc)

same_instant :
    {n m : Log} {run run' other other' : ℕ → Instruction} {σ τ υ ω : Scheduler} →
    Instant n run σ run' τ → Instant m other υ other' ω → run ≡ other → σ ≡ υ →
    gives n run' τ ≡ gives m other' ω
same_instant (rule37 a x) (rule37 b y) f e = given (same_step a b f e) (λ h. cc)
same_instant (rule37 a x) (rule38 b y d) f e = given (same_step a b f e) (λ h. cc)
same_instant (rule38 a x c) (rule37 b y) f e = given (same_step a b f e) (λ h. cc)
same_instant (rule38 a x c) (rule38 b y d) f e = given (same_step a b f e) (λ h. given (same_instant c d (cc) (cc)) (λ g. cc))

pub instant_determined :
    {n m : Log} {run run' run'' : ℕ → Instruction} {σ τ υ : Scheduler} →
    Instant n run σ run' τ → Instant m run σ run'' υ →
    (n ≡ m) × (run' ≡ run'') × (τ ≡ υ)
instant_determined a b = let h = same_instant a b refl refl in (cc, cc, cc)
