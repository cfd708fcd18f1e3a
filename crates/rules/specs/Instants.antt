-- Rules 33 to 38 of the paper, and section 5.4: threads, execution steps, instants, and how they follow each other.
use Rattle.std.specs.Prelude.{ℕ, ◌≡◌, Bool, true, false, ◌&&◌, ◌||◌, not, ◌≢◌, ◌⊎◌, eqb, set, if◌then◌else◌}
use mathlib.Core.List.{List, [], ◌∷◌, ◌++◌, map, zip_with}
use Rattle.rules.specs.Instructions.{Status, TERM, COOP, CONT, term, Instruction}
use Rattle.rules.specs.Schedulers.{Stage, not_started, continuing, rested, ended, stopped, stage_by, Scheduler, with_actual}
use Rattle.rules.specs.Schedulers.{with_current, with_orders, with_threads, with_nothing_lost, has, status_of, with_move, with_signal}
use Rattle.rules.specs.Rules.{⟨◌&◌⟩⟶[◌]⟨◌&◌⟩}

-- t[run := inst], for the instructions of all threads
unfoldable pub with_run : (ℕ → Instruction) → ℕ → Instruction → ℕ → Instruction
with_run run t inst u = if eqb u t then inst else run u

-- t[status := α]
abbrev pub with_status : ℕ → Status → Scheduler → Scheduler
with_status t α σ = with_threads σ (record { status = set σ.threads.status t (stage_by α); susp = σ.threads.susp })

-- sched'' of rule 34: sched'[events += term(t)][move := true] if α = TERM, and sched' otherwise
abbrev pub with_termination : Status → ℕ → Scheduler → Scheduler
with_termination TERM t σ = with_move (with_signal (term t) σ)
with_termination (COOP w) t σ = σ
with_termination CONT t σ = σ

-- what a thread does in an execution step: by rule 33 nothing, by rule 34 it runs, with this status
pub data Execution : Type 0 where
  passed_over : Execution
  executed : Status → Execution

-- b of rules 33 and 34: false if α = CONT, and true otherwise
abbrev pub is_finished : Execution → Bool
is_finished passed_over = true
is_finished (executed TERM) = true
is_finished (executed (COOP w)) = true
is_finished (executed CONT) = false

-- 5.1 Thread: what the thread t does, which is above the arrow in place of b; run gives each thread's instruction. The paper's env'' in rule
-- 34 is its env'.
pub data Thread (t : ℕ) : (ℕ → Instruction) → Scheduler → Execution → (ℕ → Instruction) → Scheduler → Type 0 where
  rule33 :
      {run : ℕ → Instruction} {σ : Scheduler} →
      (has σ.threads.susp t ≡ true) ⊎ (status_of σ t ≢ continuing) →
      Thread t run σ passed_over run σ
  rule34 :
      {run : ℕ → Instruction} {inst : Instruction} {σ σ' : Scheduler} {α : Status} →
      has σ.threads.susp t ≡ false → status_of σ t ≡ continuing → ⟨ run t & σ ⟩⟶[ α ]⟨ inst & σ' ⟩ →
      Thread t run σ (executed α) (with_run run t inst) (with_termination α t (with_status t α σ'))

-- what each thread does in an execution step, in turn
abbrev pub StepLog : Type 0
StepLog = List (ℕ × Execution)

-- b of rules 35 and 36: "the boolean b is true if all threads have finished their execution for the current instant"
unfoldable pub all_finished : StepLog → Bool
all_finished [] = true
all_finished ((t, x) ∷ l) = is_finished x && all_finished l

-- threads in turn
pub data InTurn : List ℕ → (ℕ → Instruction) → Scheduler → StepLog → (ℕ → Instruction) → Scheduler → Type 0 where
  none : {run : ℕ → Instruction} {σ : Scheduler} → InTurn [] run σ [] run σ
  next :
      {t : ℕ} {ts : List ℕ} {run run' run'' : ℕ → Instruction} {σ σ' σ'' : Scheduler} {x : Execution} {l : StepLog} →
      Thread t run σ x run' σ' → InTurn ts run' σ' l run'' σ'' →
      InTurn (t ∷ ts) run σ ((t, x) ∷ l) run'' σ''

-- 5.2 Scheduler Execution Step; where rule 36 writes inst, the thread is meant
pub data ExecutionStep : (ℕ → Instruction) → Scheduler → StepLog → (ℕ → Instruction) → Scheduler → Type 0 where
  rule35 : {run : ℕ → Instruction} {σ : Scheduler} → σ.actual ≡ [] → ExecutionStep run σ [] run σ
  rule36 :
      {t : ℕ} {ts : List ℕ} {run run' : ℕ → Instruction} {σ σ' : Scheduler} {l : StepLog} →
      σ.actual ≡ t ∷ ts → InTurn (t ∷ ts) run σ l run' σ' →
      ExecutionStep run σ l run' σ'

-- sched'' of rule 38: move = false; eoi = true if sched'.move = false, and eoi = false otherwise. Document 01: "Section 3.2 speaks of a
-- third cycle for two routines that signal each other; rules 36 and 38 need two."
abbrev pub for_next_step : Scheduler → Scheduler
for_next_step σ =
    with_current σ (
    let c = σ.current in
    record { signals = c.signals; terms = c.terms; values = c.values; eoi = not c.move; move = false }
    )

-- the log of an instant: one for each of its execution steps
abbrev pub Log : Type 0
Log = List StepLog

-- 5.3 Instant
pub data Instant : Log → (ℕ → Instruction) → Scheduler → (ℕ → Instruction) → Scheduler → Type 0 where
  rule37 :
      {l : StepLog} {run run' : ℕ → Instruction} {σ σ' : Scheduler} →
      ExecutionStep run σ l run' σ' → all_finished l ≡ true →
      Instant (l ∷ []) run σ run' σ'
  rule38 :
      {l : StepLog} {log : Log} {run run' run'' : ℕ → Instruction} {σ σ' σ'' : Scheduler} →
      ExecutionStep run σ l run' σ' → all_finished l ≡ false → Instant log run' (for_next_step σ') run'' σ'' →
      Instant (l ∷ log) run σ run'' σ''

-- those of some threads that pass a test
unfoldable pub only : (ℕ → Bool) → List ℕ → List ℕ
only test [] = []
only test (t ∷ ts) = let others = only test ts in if test t then t ∷ others else others

-- some threads at a stage
unfoldable pub all_at : Stage → List ℕ → List Stage → List Stage
all_at x [] l = l
all_at x (t ∷ ts) l = all_at x ts (set l t x)

-- CONT or COOP: document 01's stages 1 and 2
abbrev pub is_under_way : Stage → Bool
is_under_way not_started = false
is_under_way continuing = true
is_under_way rested = true
is_under_way ended = false
is_under_way stopped = false

-- an empty set, with as many flags
abbrev pub no_flags : List Bool → List Bool
no_flags l = map (λ b. false) l

-- t.status of all threads; t.susp of all threads
abbrev pub with_statuses : Scheduler → List Stage → Scheduler
with_statuses σ l = with_threads σ (record { status = l; susp = σ.threads.susp })

abbrev pub with_susp : Scheduler → List Bool → Scheduler
with_susp σ l = with_threads σ (record { status = σ.threads.status; susp = l })

-- 5.4 Chaining Instants, action 1: "concatenate to_start to actual"; document 01: "Starting gives stage 1."
abbrev pub action1 : Scheduler → Scheduler
action1 σ =
    let starts = σ.orders.to_start in
    with_statuses (with_actual σ (σ.actual ++ starts)) (all_at continuing starts σ.threads.status)

-- Action 2: "replace events by to_broadcast"; so term(t) is there for no thread t, one flag for each, whatever an earlier round left
abbrev pub action2 : Scheduler → Scheduler
action2 σ =
    with_current σ (
    let c = σ.current in
    record { signals = σ.orders.to_broadcast; terms = no_flags σ.threads.susp; values = c.values; eoi = c.eoi; move = c.move }
    )

-- Action 3: "remove elements of to_stop from actual; moreover, for each t ∈ to_stop, add event term(t) to events"; document 01: "Stopping
-- gives stage 4 to a listed routine in stage 1 or 2 and to no other. The end signal of each routine in the stop set is present in the new
-- round either way."
abbrev pub action3 : Scheduler → Scheduler
action3 σ =
    let to_stop = σ.orders.to_stop in
    let stops = only (λ t. has to_stop t && is_under_way (status_of σ t)) σ.actual in
    let others = only (λ t. not (has to_stop t)) σ.actual in
    with_current (with_statuses (with_actual σ others) (all_at stopped stops σ.threads.status)) (
    let c = σ.current in
    record { signals = c.signals; terms = zip_with ◌||◌ c.terms to_stop; values = c.values; eoi = c.eoi; move = c.move }
    )

-- Action 4: "for each t ∈ to_resume, set t.susp to false"
abbrev pub action4 : Scheduler → Scheduler
action4 σ = with_susp σ (zip_with (λ s r. s && not r) σ.threads.susp σ.orders.to_resume)

-- Action 5: "for each t ∈ to_suspend, set t.susp to true"
abbrev pub action5 : Scheduler → Scheduler
action5 σ = with_susp σ (zip_with ◌||◌ σ.threads.susp σ.orders.to_suspend)

-- t.status is TERM, as action 6 asks
abbrev pub is_terminated : Stage → Bool
is_terminated not_started = false
is_terminated continuing = false
is_terminated rested = false
is_terminated ended = true
is_terminated stopped = false

-- Action 6: "for each thread t ∈ actual, remove it if t.status is TERM, and otherwise set t.status to CONT"
abbrev pub action6 : Scheduler → Scheduler
action6 σ =
    let others = only (λ t. not (is_terminated (status_of σ t))) σ.actual in
    with_statuses (with_actual σ others) (all_at continuing others σ.threads.status)

-- Action 7: "set the flag eoi to false"
abbrev pub action7 : Scheduler → Scheduler
action7 σ =
    with_current σ (
    let c = σ.current in
    record { signals = c.signals; terms = c.terms; values = c.values; eoi = false; move = c.move }
    )

-- Action 8: "reset to_start, to_broadcast, to_stop, to_resume, to_suspend, and values to empty"
abbrev pub action8 : Scheduler → Scheduler
action8 σ =
    let o = σ.orders in
    let c = σ.current in
    with_orders (with_current σ (record { signals = c.signals; terms = c.terms; values = []; eoi = c.eoi; move = c.move })) (
    record {
      to_broadcast = no_flags o.to_broadcast;
      to_start = [];
      to_stop = no_flags o.to_stop;
      to_suspend = no_flags o.to_suspend;
      to_resume = no_flags o.to_resume;
    }
    )

-- Next(sched): "the scheduler obtained from sched by performing the following actions in sequence"; document 01: "so a resume comes
-- before a suspend"
unfoldable pub chained : Scheduler → Scheduler
chained σ = action8 (action7 (action6 (action5 (action4 (action3 (action2 (action1 σ)))))))

-- Document 01: "The move flag is clear when a round's first pass begins, as section 3.2 says; rules 37 and 38 alone would carry it over. A
-- signal given by a step and a routine's end in a pass each set it, and nothing else does, the eight actions included."
abbrev pub with_move_clear : Scheduler → Scheduler
with_move_clear σ =
    with_current σ (
    let c = σ.current in
    record { signals = c.signals; terms = c.terms; values = c.values; eoi = c.eoi; move = false }
    )

-- "round = one chaining step and then one instant"; document 02 has the total "over all additions of the round"
abbrev pub Round : Log → (ℕ → Instruction) → Scheduler → (ℕ → Instruction) → Scheduler → Type 0
Round log run σ run' σ' = Instant log run (with_nothing_lost (with_move_clear (chained σ))) run' σ'
