-- The instruction that a routine stands for, and what is still to be run of it at a position, by the parse of its steps.
-- Document 01: "A place on an else stands for the end of the first block, on a while's end for its next test.", "Op 6, or a reading that
-- stayed missing, leaves the place on the step that follows it in the book; every other pause leaves it on its own step. An ended routine's
-- place is its step count. Begun is set when op 7, 9 or 11 pauses, and cleared when that step is past."
use Rattle.std.specs.Prelude.{ℕ, ◌<◌, List, eqb, ltb, pos, if◌then◌else◌, Option, Some, None}
use Rattle.kinds.specs.declared.Kind.{Kind}
use Rattle.kinds.specs.declared.Kind.TheVariants as kind
use Rattle.kinds.specs.Steps.{step_at}
use Rattle.blocks.specs.Blocks.{View}
use Rattle.blocks.specs.Parse.{ParsedBlock, empty, more, ParsedStep, plain, pausing, if_only, if_else, loop}
use Rattle.layout.specs.Layout.{routines_of, counts_of}
use Rattle.directory.specs.Directory.{routine_steps}
use Rattle.book.specs.Accepted.{Accepted}
use Rattle.round.specs.declared.Position.{Position}
use Rattle.round.specs.Ticks.{fresh, count_at}
use Rattle.rules.specs.Instructions.{signal, mark, set, add, take, Expression, Instruction, nothing, call, ◌then◌, while, while_inst}
use Rattle.rules.specs.Instructions.{cooperate, await, generate, generate_value, join, create, stop, suspend, resume, cooperate_n}
use Rattle.rules.specs.Instructions.{await_n, join_n, get_value}
use Rattle.rules.specs.Instructions as paper

-- document 01's table of kinds, in the paper's words; a step that holds blocks, or a marker, is no instruction by itself
abbrev pub instruction : ℕ → Position → Kind → Instruction
instruction r x (kind.Mark n) = call (mark r n)
instruction r x (kind.Set c n) = call (set c n)
instruction r x (kind.Add c n) = call (add c n)
instruction r x (kind.Take c d) = call (take c d)
instruction r x (kind.Signal e) = generate e
instruction r x (kind.SignalNumber e c) = generate_value e c
instruction r x kind.Rest = cooperate x.place
instruction r x (kind.RestFor n) = cooperate_n x.place (count_at x n)
instruction r x (kind.Wait e) = await x.place (signal e)
instruction r x (kind.WaitFor e n) = await_n x.place (signal e) (count_at x n)
instruction r x (kind.Join t) = join x.place t
instruction r x (kind.JoinFor t n) = join_n x.place t (count_at x n)
instruction r x (kind.Read e c k) = get_value x.place e c k
instruction r x (kind.Start t) = create t
instruction r x (kind.Stop t) = stop t
instruction r x (kind.Suspend t) = suspend t
instruction r x (kind.Resume t) = resume t
instruction r x (kind.If c relation n) = nothing
instruction r x kind.Else = nothing
instruction r x (kind.While c relation n) = nothing
instruction r x kind.End = nothing

abbrev pub instruction_of : ℕ → Position → Option Kind → Instruction
instruction_of r x (Some k) = instruction r x k
instruction_of r x None = nothing

abbrev pub no_test : Expression
no_test = record { counter = 0; relation = 0; number = pos 0 }

-- the test of an if or a while
abbrev pub test : Kind → Expression
test (kind.Mark n) = no_test
test (kind.Set c n) = no_test
test (kind.Add c n) = no_test
test (kind.Take c d) = no_test
test (kind.Signal e) = no_test
test (kind.SignalNumber e c) = no_test
test kind.Rest = no_test
test (kind.RestFor n) = no_test
test (kind.Wait e) = no_test
test (kind.WaitFor e n) = no_test
test (kind.Join t) = no_test
test (kind.JoinFor t n) = no_test
test (kind.Read e c k) = no_test
test (kind.Start t) = no_test
test (kind.Stop t) = no_test
test (kind.Suspend t) = no_test
test (kind.Resume t) = no_test
test (kind.If c relation n) = record { counter = c; relation = relation; number = n }
test kind.Else = no_test
test (kind.While c relation n) = record { counter = c; relation = relation; number = n }
test kind.End = no_test

abbrev pub test_of : Option Kind → Expression
test_of (Some k) = test k
test_of None = no_test

-- routine r, whose step at each place is known
module _ (r : ℕ) (step_of : ℕ → Option Kind) {at : ℕ → View} where
  -- a whole block, a whole step
  abbrev mutual
    pub of_block : {d p e : ℕ} → ParsedBlock at d p e → Instruction
    of_block empty = nothing
    of_block (more a b) = of_step a then of_block b

    pub of_step : {d p e : ℕ} → ParsedStep at d p e → Instruction
    of_step (plain {p = p} h) = instruction_of r (fresh p) (step_of p)
    of_step (pausing {p = p} h) = instruction_of r (fresh p) (step_of p)
    of_step (if_only {p = p} h b k) = paper.if_else (test_of (step_of p)) (of_block b) nothing
    of_step (if_else {p = p} h b k c j) = paper.if_else (test_of (step_of p)) (of_block b) (of_block c)
    of_step (loop {p = p} h b k) = while (test_of (step_of p)) (of_block b)

  -- what is still to be run of a block, or of a step, at a position in it; a block's end is a place of it too
  abbrev mutual
    pub left_of_block : {d p e : ℕ} → ParsedBlock at d p e → Position → Instruction
    left_of_block empty x = nothing
    left_of_block (more {q = q} a b) x = if ltb x.place q then left_of_step a x then of_block b else left_of_block b x

    pub left_of_step : {d p e : ℕ} → ParsedStep at d p e → Position → Instruction
    left_of_step (plain {p = p} h) x = instruction_of r x (step_of p)
    left_of_step (pausing {p = p} h) x = instruction_of r x (step_of p)
    left_of_step (if_only {p = p} h b k) x =
        if eqb x.place p then paper.if_else (test_of (step_of p)) (of_block b) nothing else left_of_block b x
    left_of_step (if_else {p = p} {q = q} h b k c j) x =
        if eqb x.place p then paper.if_else (test_of (step_of p)) (of_block b) (of_block c)
        else if ltb q x.place then left_of_block c x
        else left_of_block b x
    left_of_step (loop {p = p} h b k) x =
        if eqb x.place p then while (test_of (step_of p)) (of_block b)
        else while_inst (test_of (step_of p)) (left_of_block b x) (of_block b)

-- what is still to be run of routine r of an accepted book
abbrev pub residual : (book : List ℕ) → Accepted book → (r : ℕ) → r < routines_of book → Position → Instruction
residual book a r h x = left_of_block r (step_at (counts_of book) (routine_steps book r)) (a.nesting r h) x

-- The first instruction is the second with nothings in front, or is the second: where a routine is past a step, a rule leaves a nothing.
infix 4 ◌⇝◌
pub data ◌⇝◌ : Instruction → Instruction → Type 0 where
  same : {i : Instruction} → i ⇝ i
  drop : {i j k : Instruction} → i ⇝ nothing → j ⇝ k → (i then j) ⇝ k
  first : {i i' j : Instruction} → i ⇝ i' → (i then j) ⇝ (i' then j)
  body : {x : Expression} {i i' initial : Instruction} → i ⇝ i' → while_inst x i initial ⇝ while_inst x i' initial
