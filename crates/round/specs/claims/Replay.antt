-- The trace of a round, carried out again in order by document 01's table: the counters, the numbers given, and where a routine stands.
use Rattle.std.specs.Prelude.{ℕ, ◌+◌, ◌-◌, ◌||◌, List, [], ◌∷◌, ◌++◌, eqb, get_or, set, ℤ, pos, if◌then◌else◌}
use Rattle.kinds.specs.Ops.{op_set, op_add, op_take, op_signal_number, op_rest, op_read, op_if, op_else, op_while, op_end}
use Rattle.numbers.specs.Numbers.{sum_of, relation_of, count_of}
use Rattle.kinds.specs.Steps.{op_at, field_a, field_b, field_n}
use Rattle.directory.specs.Directory.{routine_steps}
use Rattle.round.specs.declared.Position.{Position}
use Rattle.round.specs.State.{Event, gave, ended, missing, past, marked, completed, numbers_with}
use Rattle.round.specs.Jumps.{past_partner, from_end}
use Rattle.round.specs.Ticks.{fresh}

-- the counters, and the numbers given so far, in order, each behind its signal
abbrev pub Contents : Type 0
Contents = List ℤ × List (ℕ × ℤ)

-- what a step with these fields makes of them
unfoldable pub made_by : ℕ → ℕ → ℕ → ℤ → Contents → Contents
made_by op a b n (counters, numbers) =
    let content : ℕ → ℤ = λ c. get_or counters c (pos 0) in
    -- "counter becomes n"
    if eqb op op_set then (set counters a n, numbers)
    -- "n is added"; "An addition beyond an end gives that end."
    else if eqb op op_add then (set counters a (sum_of (content a) n).sum, numbers)
    -- "b's content is added to a"
    else if eqb op op_take then (set counters a (sum_of (content a) (content b)).sum, numbers)
    -- "rule 13, with b's content"
    else if eqb op op_signal_number then (counters, numbers ++ ((a, content b) ∷ []))
    -- "n = k, 1 to 64", "the k-th number goes to b"
    else if eqb op op_read then (set counters b (get_or (numbers_with a numbers) (count_of n - 1) (pos 0)), numbers)
    -- any other step changes neither
    else (counters, numbers)

-- where a step with these fields, at place p of a routine, leads once it is completed, with these counters
unfoldable pub leads_to : List ℕ → ℕ → ℕ → ℕ → ℕ → ℤ → List ℤ → ℕ
leads_to steps p op a b n counters =
    -- "counter against n": into the block where that holds, and otherwise past it
    if eqb op op_if || eqb op op_while
    then (if eqb (relation_of b (get_or counters a (pos 0)) n) 1 then p + 1 else past_partner steps p)
    -- "A place on an else stands for the end of the first block, on a while's end for its next test."
    else if eqb op op_else then past_partner steps p
    else if eqb op op_end then from_end steps p
    -- rule 11: a rest halts the turn, and leads nowhere in the same round
    else if eqb op op_rest then p
    -- any other to the step that follows it
    else p + 1

-- a function of a step's fields, at place p
abbrev pub at_step {ℓ} : {A : Type ℓ} → (ℕ → ℕ → ℕ → ℤ → A) → List ℕ → ℕ → A
at_step f steps p = f (op_at steps p) (field_a steps p) (field_b steps p) (field_n steps p)

module _ (book : List ℕ) where
  -- what one event makes of the contents: only a step that is completed changes them
  abbrev pub made_of : Event → Contents → Contents
  made_of (gave e k) c = c
  made_of (ended r) c = c
  made_of (missing r p t) c = c
  made_of (past r p t) c = c
  made_of (marked r n) c = c
  made_of (completed r p) c = at_step made_by (routine_steps book r) p c

  -- and what all events make of them, in order
  unfoldable pub contents_after : List Event → Contents → Contents
  contents_after [] c = c
  contents_after (h ∷ events) c = contents_after events (made_of h c)

  -- where one event leads routine r from position x, with these contents: only a step of its own that is completed moves it,
  -- by the step there, which is the completed one (`stood`, Trace.antt); begun is "cleared when that step is past"
  abbrev pub led_by : ℕ → Event → Contents → Position → Position
  led_by r (gave e k) c x = x
  led_by r (ended q) c x = x
  led_by r (missing q o t) c x = x
  led_by r (past q o t) c x = x
  led_by r (marked q n) c x = x
  led_by r (completed q o) c x =
      let steps = routine_steps book r in
      if eqb q r then fresh (at_step (leads_to steps x.place) steps x.place c.0) else x

  -- and where all events lead it
  unfoldable pub position_after : ℕ → List Event → Contents → Position → Position
  position_after r [] c x = x
  position_after r (h ∷ events) c x = position_after r events (made_of h c) (led_by r h c x)
