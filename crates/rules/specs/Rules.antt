-- Rules 1 to 32 of the paper: inst, sched, env ⟶ inst', sched', env' with the status α above the arrow; here the scheduler holds the
-- environment. Each constructor has its rule's number. Where document 01 or 02 reads a rule otherwise, its sentence stands beside it.
use Rattle.std.specs.Prelude.{ℕ, ◌-◌, ◌≤◌, ◌<◌, ◌≡◌, true, false, ◌≢◌, ◌⊎◌, length}
use Rattle.numbers.specs.Relations.{Holds}
use Rattle.rules.specs.Instructions.{rests, rests_for, misses, misses_for, unread, Status, TERM, COOP, CONT, Signal, signal, term}
use Rattle.rules.specs.Instructions.{Call, Expression, Instruction, nothing, call}
use Rattle.rules.specs.Instructions.{◌then◌, while, while_inst, if_else, cooperate, await, generate, generate_value, join, create, stop}
use Rattle.rules.specs.Instructions.{suspend, resume, cooperate_n, await_n, join_n, get_value}
use Rattle.rules.specs.Schedulers.{Scheduler, status_of, counts_as_ended, is_present, with_move, with_signal, with_value, values_of, content}
use Rattle.rules.specs.Schedulers.{Called, returned, to_start_plus, to_stop_plus, to_suspend_plus, to_resume_plus}

-- the expression is true in the environment; it changes nothing there
abbrev pub IsTrue : Expression → Scheduler → Type 0
IsTrue x σ = Holds x.relation (content σ x.counter) x.number

abbrev pub Present : Signal → Scheduler → Type 0
Present e σ = is_present e σ ≡ true

abbrev pub Absent : Signal → Scheduler → Type 0
Absent e σ = is_present e σ ≡ false

-- t.status = TERM, and t.status ≠ TERM, where a join asks for it, as document 02 reads it
abbrev pub CountsAsEnded : ℕ → Scheduler → Type 0
CountsAsEnded t σ = counts_as_ended (status_of σ t) ≡ true

abbrev pub NotCountedAsEnded : ℕ → Scheduler → Type 0
NotCountedAsEnded t σ = counts_as_ended (status_of σ t) ≡ false

infix 1 ⟨◌&◌⟩⟶[◌]⟨◌&◌⟩
pub data ⟨◌&◌⟩⟶[◌]⟨◌&◌⟩ : Instruction → Scheduler → Status → Instruction → Scheduler → Type 0 where
  -- 4.1 Call
  rule1 : {c : Call} {σ σ' : Scheduler} → Called c σ σ' → ⟨ call c & σ ⟩⟶[ TERM ]⟨ nothing & σ' ⟩
  rule2 : {σ : Scheduler} → ⟨ nothing & σ ⟩⟶[ TERM ]⟨ nothing & σ ⟩
  -- 4.2 Sequence
  rule3 :
      {i i' j j' : Instruction} {σ σ' σ'' : Scheduler} {α : Status} →
      ⟨ i & σ ⟩⟶[ TERM ]⟨ i' & σ' ⟩ → ⟨ j & σ' ⟩⟶[ α ]⟨ j' & σ'' ⟩ →
      ⟨ i then j & σ ⟩⟶[ α ]⟨ j' & σ'' ⟩
  rule4 :
      {i i' j : Instruction} {σ σ' : Scheduler} {α : Status} →
      ⟨ i & σ ⟩⟶[ α ]⟨ i' & σ' ⟩ → α ≢ TERM →
      ⟨ i then j & σ ⟩⟶[ α ]⟨ i' then j & σ' ⟩
  -- 4.3 While Loop
  rule5 : {x : Expression} {i : Instruction} {σ : Scheduler} → (IsTrue x σ → ⊥) → ⟨ while x i & σ ⟩⟶[ TERM ]⟨ nothing & σ ⟩
  rule6 :
      {x : Expression} {i i' : Instruction} {σ σ' : Scheduler} {α : Status} →
      IsTrue x σ → ⟨ while_inst x i i & σ ⟩⟶[ α ]⟨ i' & σ' ⟩ →
      ⟨ while x i & σ ⟩⟶[ α ]⟨ i' & σ' ⟩
  rule7 :
      {x : Expression} {i i' i'' initial : Instruction} {σ σ' σ'' : Scheduler} {α : Status} →
      ⟨ i & σ ⟩⟶[ TERM ]⟨ i' & σ' ⟩ → ⟨ while x initial & σ' ⟩⟶[ α ]⟨ i'' & σ'' ⟩ →
      ⟨ while_inst x i initial & σ ⟩⟶[ α ]⟨ i'' & σ'' ⟩
  rule8 :
      {x : Expression} {i i' initial : Instruction} {σ σ' : Scheduler} {α : Status} →
      ⟨ i & σ ⟩⟶[ α ]⟨ i' & σ' ⟩ → α ≢ TERM →
      ⟨ while_inst x i initial & σ ⟩⟶[ α ]⟨ while_inst x i' initial & σ' ⟩
  -- 4.4 If
  rule9 :
      {x : Expression} {i i' j : Instruction} {σ σ' : Scheduler} {α : Status} →
      IsTrue x σ → ⟨ i & σ ⟩⟶[ α ]⟨ i' & σ' ⟩ →
      ⟨ if_else x i j & σ ⟩⟶[ α ]⟨ i' & σ' ⟩
  rule10 :
      {x : Expression} {i j j' : Instruction} {σ σ' : Scheduler} {α : Status} →
      (IsTrue x σ → ⊥) → ⟨ j & σ ⟩⟶[ α ]⟨ j' & σ' ⟩ →
      ⟨ if_else x i j & σ ⟩⟶[ α ]⟨ j' & σ' ⟩
  -- 4.5 Cooperate
  rule11 : {p : ℕ} {σ : Scheduler} → ⟨ cooperate p & σ ⟩⟶[ COOP (rests p) ]⟨ nothing & σ ⟩
  -- 4.6 Generate
  rule12 : {e : ℕ} {σ : Scheduler} → ⟨ generate e & σ ⟩⟶[ TERM ]⟨ nothing & with_move (with_signal (signal e) σ) ⟩
  rule13 :
      {e c : ℕ} {σ : Scheduler} →
      ⟨ generate_value e c & σ ⟩⟶[ TERM ]⟨ nothing & with_value e (content σ c) (with_move (with_signal (signal e) σ)) ⟩
  -- 4.7 Await
  rule14 : {p : ℕ} {e : Signal} {σ : Scheduler} → Present e σ → ⟨ await p e & σ ⟩⟶[ TERM ]⟨ nothing & σ ⟩
  rule15 :
      {p : ℕ} {e : Signal} {σ : Scheduler} →
      Absent e σ → σ.current.eoi ≡ false →
      ⟨ await p e & σ ⟩⟶[ CONT ]⟨ await p e & σ ⟩
  rule16 :
      {p : ℕ} {e : Signal} {σ : Scheduler} →
      Absent e σ → σ.current.eoi ≡ true →
      ⟨ await p e & σ ⟩⟶[ COOP (misses p) ]⟨ await p e & σ ⟩
  -- 4.8 Join. Rule 18 is in two parts, since document 01 reads it otherwise where the wait goes on: "A join left waiting asks again at
  -- every try, by rules 17 and 28, whether the routine has ended. Rules 18 and 29 taken literally would leave only the wait for the end
  -- signal". Rules 17, 18, 28 and 29 ask as document 02 reads them: "a routine that was stopped counts as ended for joins, at any later
  -- time."
  rule17 : {p t : ℕ} {σ : Scheduler} → CountsAsEnded t σ → ⟨ join p t & σ ⟩⟶[ TERM ]⟨ nothing & σ ⟩
  rule18 :
      {p t : ℕ} {i : Instruction} {σ σ' : Scheduler} →
      NotCountedAsEnded t σ → ⟨ await p (term t) & σ ⟩⟶[ TERM ]⟨ i & σ' ⟩ →
      ⟨ join p t & σ ⟩⟶[ TERM ]⟨ i & σ' ⟩
  rule18_again :
      {p t : ℕ} {i : Instruction} {σ σ' : Scheduler} {α : Status} →
      NotCountedAsEnded t σ → ⟨ await p (term t) & σ ⟩⟶[ α ]⟨ i & σ' ⟩ → α ≢ TERM →
      ⟨ join p t & σ ⟩⟶[ α ]⟨ join p t & σ' ⟩
  -- 4.9 Create, 4.10 Stop, 4.11 Suspend, 4.12 Resume. Document 01 on rule 19: "A start of a routine that isn't in stage 0, or is already to
  -- start, adds nothing."
  rule19 : {t : ℕ} {σ : Scheduler} → ⟨ create t & σ ⟩⟶[ TERM ]⟨ nothing & to_start_plus t σ ⟩
  rule20 : {t : ℕ} {σ : Scheduler} → ⟨ stop t & σ ⟩⟶[ TERM ]⟨ nothing & to_stop_plus t σ ⟩
  rule21 : {t : ℕ} {σ : Scheduler} → ⟨ suspend t & σ ⟩⟶[ TERM ]⟨ nothing & to_suspend_plus t σ ⟩
  rule22 : {t : ℕ} {σ : Scheduler} → ⟨ resume t & σ ⟩⟶[ TERM ]⟨ nothing & to_resume_plus t σ ⟩
  -- 4.13 Cooperate_n
  rule23 : {p k : ℕ} {σ : Scheduler} → k ≤ 0 → ⟨ cooperate_n p k & σ ⟩⟶[ TERM ]⟨ nothing & σ ⟩
  rule24 : {p k : ℕ} {σ : Scheduler} → 0 < k → ⟨ cooperate_n p k & σ ⟩⟶[ COOP (rests_for p (k - 1)) ]⟨ cooperate_n p (k - 1) & σ ⟩
  -- 4.14 Await_n
  rule25 : {p k : ℕ} {e : Signal} {σ : Scheduler} → Present e σ ⊎ (k ≤ 0) → ⟨ await_n p e k & σ ⟩⟶[ TERM ]⟨ nothing & σ ⟩
  rule26 :
      {p k : ℕ} {e : Signal} {σ : Scheduler} →
      Absent e σ → 0 < k → σ.current.eoi ≡ false →
      ⟨ await_n p e k & σ ⟩⟶[ CONT ]⟨ await_n p e k & σ ⟩
  rule27 :
      {p k : ℕ} {e : Signal} {σ : Scheduler} →
      Absent e σ → 0 < k → σ.current.eoi ≡ true →
      ⟨ await_n p e k & σ ⟩⟶[ COOP (misses_for p (k - 1)) ]⟨ await_n p e (k - 1) & σ ⟩
  -- 4.15 Join_n. Rule 29 is read as rule 18 is.
  rule28 : {p t k : ℕ} {σ : Scheduler} → CountsAsEnded t σ ⊎ (k ≤ 0) → ⟨ join_n p t k & σ ⟩⟶[ TERM ]⟨ nothing & σ ⟩
  rule29 :
      {p t k : ℕ} {i : Instruction} {σ σ' : Scheduler} →
      NotCountedAsEnded t σ → ⟨ await_n p (term t) k & σ ⟩⟶[ TERM ]⟨ i & σ' ⟩ →
      ⟨ join_n p t k & σ ⟩⟶[ TERM ]⟨ i & σ' ⟩
  rule29_again :
      {p t k k' : ℕ} {σ σ' : Scheduler} {α : Status} →
      NotCountedAsEnded t σ → ⟨ await_n p (term t) k & σ ⟩⟶[ α ]⟨ await_n p (term t) k' & σ' ⟩ → α ≢ TERM →
      ⟨ join_n p t k & σ ⟩⟶[ α ]⟨ join_n p t k' & σ' ⟩
  -- 4.16 Generated Values
  rule30 :
      {p e c k : ℕ} {σ : Scheduler} →
      k ≤ length (values_of σ e) →
      ⟨ get_value p e c k & σ ⟩⟶[ TERM ]⟨ nothing & returned e c k σ ⟩
  rule31 :
      {p e c k : ℕ} {σ : Scheduler} →
      length (values_of σ e) < k → σ.current.eoi ≡ false →
      ⟨ get_value p e c k & σ ⟩⟶[ CONT ]⟨ get_value p e c k & σ ⟩
  -- Document 01 on rule 32's place: "a reading that stayed missing, leaves the place on the step that follows it in the book".
  rule32 :
      {p e c k : ℕ} {σ : Scheduler} →
      length (values_of σ e) < k → σ.current.eoi ≡ true →
      ⟨ get_value p e c k & σ ⟩⟶[ COOP (unread p) ]⟨ nothing & σ ⟩
