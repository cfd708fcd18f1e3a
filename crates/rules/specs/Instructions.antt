-- Section 2.2 of the paper: the syntax of instructions.
use Rattle.std.specs.Prelude.{ℕ, ℤ}

-- How a thread pauses: document 01's ways to rest, each with the place of its step in the routine and, if timed, what is left of its count.
pub data Pause : Type 0 where
  -- "6 rest" and "7 rest n"
  rests : ℕ → Pause
  rests_for : ℕ → ℕ → Pause
  -- what a wait or join, a timed one or a reading asks for is missing when the round is being closed
  misses : ℕ → Pause
  misses_for : ℕ → ℕ → Pause
  unread : ℕ → Pause

-- 2.1: "Status is TERM when the thread is totally terminated; it is COOP when the thread cooperates", and CONT when "execution has to be
-- continued during the current instant". A thread that cooperates does so by a pause.
pub data Status : Type 0 where
  TERM : Status
  COOP : Pause → Status
  CONT : Status

-- the paper's event: a signal of the program, or term(t), "used to signal the total termination of t"
pub data Signal : Type 0 where
  signal : ℕ → Signal
  term : ℕ → Signal

-- "Calls are means to change the environment": document 01's ops 0 to 3. A mark names the routine that leaves it.
pub data Call : Type 0 where
  mark : ℕ → ℤ → Call
  set : ℕ → ℤ → Call
  add : ℕ → ℤ → Call
  take : ℕ → ℕ → Call

-- exp, document 01's test: "counter against n"
pub record Expression : Type 0 where
  pub counter : ℕ
  pub relation : ℕ
  pub number : ℤ

-- An instruction at which a thread may pause has the place of its step in its routine in front.
infixr 5 ◌then◌
pub data Instruction : Type 0 where
  -- "nothing is the instruction that does nothing" (section 4.1)
  nothing : Instruction
  -- basic instructions; a sequence is binary, as in section 4.2
  call : Call → Instruction
  ◌then◌ : Instruction → Instruction → Instruction
  while : Expression → Instruction → Instruction
  -- section 4.3's auxiliary while: the expression, what is left of the body, the initial body
  while_inst : Expression → Instruction → Instruction → Instruction
  if_else : Expression → Instruction → Instruction → Instruction
  -- synchronizing instructions; the value generated is a counter's content
  cooperate : ℕ → Instruction
  await : ℕ → Signal → Instruction
  generate : ℕ → Instruction
  generate_value : ℕ → ℕ → Instruction
  join : ℕ → ℕ → Instruction
  -- control instructions
  create : ℕ → Instruction
  stop : ℕ → Instruction
  suspend : ℕ → Instruction
  resume : ℕ → Instruction
  -- timed instructions; a number of 0 or less is 0
  cooperate_n : ℕ → ℕ → Instruction
  await_n : ℕ → Signal → ℕ → Instruction
  join_n : ℕ → ℕ → ℕ → Instruction
  -- the event, the counter that takes the value, k; the thread, which the paper names too, is the one that runs it
  get_value : ℕ → ℕ → ℕ → ℕ → Instruction
