-- Sections 2.1 and 2.3 of the paper: schedulers, with their threads and the environment, and what the rules change in them.
-- A set of events or threads is a list of flags, one for each number there can be; a vector is a list.
use Rattle.std.specs.Prelude.{ℕ, ◌+◌, ◌-◌, Bool, true, false, ◌&&◌, ◌||◌, not, List, [], ◌∷◌, ◌++◌, eqb, get_or, set, ℤ, pos, if◌then◌else◌}
use Rattle.numbers.specs.Sums.{AddsUp}
use Rattle.rules.specs.Instructions.{Status, TERM, COOP, CONT, Signal, signal, term, Call, mark, set as set_to, add, take}

-- t.status, as document 01 has it: "stage (0 not started, 1 continuing, 2 rested, 3 ended, 4 stopped)"
pub data Stage : Type 0 where
  not_started continuing rested ended stopped : Stage

-- CONT, COOP and TERM are stages 1 to 3
abbrev pub stage_by : Status → Stage
stage_by TERM = ended
stage_by (COOP w) = rested
stage_by CONT = continuing

-- t.status and t.susp of each thread; t.run is kept apart, by the rules for threads
pub record Threads : Type 0 where
  pub status : List Stage
  pub susp : List Bool

-- what the instant has: the generated events, with term(t) for each thread t apart; the values, each behind its event; the flags
pub record Current : Type 0 where
  pub signals : List Bool
  pub terms : List Bool
  pub values : List (ℕ × ℤ)
  pub eoi : Bool
  pub move : Bool

-- what is to be done at the next instant
pub record Orders : Type 0 where
  pub to_broadcast : List Bool
  pub to_start : List ℕ
  pub to_stop : List Bool
  pub to_suspend : List Bool
  pub to_resume : List Bool

-- the counters, the marks made, and what the additions have cut off, all together
pub record Environment : Type 0 where
  pub counters : List ℤ
  pub marks : List (ℕ × ℤ)
  pub lost : ℕ

pub record Scheduler : Type 0 where
  pub actual : List ℕ
  pub current : Current
  pub orders : Orders
  pub threads : Threads
  pub env : Environment

abbrev pub with_actual : Scheduler → List ℕ → Scheduler
with_actual σ x = record { actual = x; current = σ.current; orders = σ.orders; threads = σ.threads; env = σ.env }

abbrev pub with_current : Scheduler → Current → Scheduler
with_current σ x = record { actual = σ.actual; current = x; orders = σ.orders; threads = σ.threads; env = σ.env }

abbrev pub with_orders : Scheduler → Orders → Scheduler
with_orders σ x = record { actual = σ.actual; current = σ.current; orders = x; threads = σ.threads; env = σ.env }

abbrev pub with_threads : Scheduler → Threads → Scheduler
with_threads σ x = record { actual = σ.actual; current = σ.current; orders = σ.orders; threads = x; env = σ.env }

abbrev pub with_env : Scheduler → Environment → Scheduler
with_env σ x = record { actual = σ.actual; current = σ.current; orders = σ.orders; threads = σ.threads; env = x }

-- x is in a set; a set with x
abbrev pub has : List Bool → ℕ → Bool
has l x = get_or l x false

abbrev pub plus : List Bool → ℕ → List Bool
plus l x = set l x true

-- t is in a vector
unfoldable pub is_among : ℕ → List ℕ → Bool
is_among t [] = false
is_among t (u ∷ us) = eqb t u || is_among t us

-- t.status
abbrev pub status_of : Scheduler → ℕ → Stage
status_of σ t = get_or σ.threads.status t not_started

-- t.status = TERM, where a join asks for it, by rules 17, 18, 28 and 29, as document 02 reads them: "a routine that was stopped counts as
-- ended for joins, at any later time."
abbrev pub counts_as_ended : Stage → Bool
counts_as_ended not_started = false
counts_as_ended continuing = false
counts_as_ended rested = false
counts_as_ended ended = true
counts_as_ended stopped = true

abbrev pub is_not_started : Stage → Bool
is_not_started not_started = true
is_not_started continuing = false
is_not_started rested = false
is_not_started ended = false
is_not_started stopped = false

-- event ∈ sched.events
abbrev pub is_present : Signal → Scheduler → Bool
is_present (signal e) σ = has σ.current.signals e
is_present (term t) σ = has σ.current.terms t

-- sched[move := true]
abbrev pub with_move : Scheduler → Scheduler
with_move σ =
    with_current σ (
    let c = σ.current in
    record { signals = c.signals; terms = c.terms; values = c.values; eoi = c.eoi; move = true }
    )

-- sched[events += event]
abbrev pub with_signal : Signal → Scheduler → Scheduler
with_signal (signal e) σ =
    with_current σ (
    let c = σ.current in
    record { signals = plus c.signals e; terms = c.terms; values = c.values; eoi = c.eoi; move = c.move }
    )
with_signal (term t) σ =
    with_current σ (
    let c = σ.current in
    record { signals = c.signals; terms = plus c.terms t; values = c.values; eoi = c.eoi; move = c.move }
    )

-- sched[values(event) += v]
abbrev pub with_value : ℕ → ℤ → Scheduler → Scheduler
with_value e v σ =
    with_current σ (
    let c = σ.current in
    record { signals = c.signals; terms = c.terms; values = c.values ++ ((e, v) ∷ []); eoi = c.eoi; move = c.move }
    )

-- sched.values(event)
unfoldable pub values_from : List (ℕ × ℤ) → ℕ → List ℤ
values_from [] e = []
values_from ((f, v) ∷ l) e = let others = values_from l e in if eqb f e then v ∷ others else others

abbrev pub values_of : Scheduler → ℕ → List ℤ
values_of σ e = values_from σ.current.values e

-- a counter's content
abbrev pub content : Scheduler → ℕ → ℤ
content σ c = get_or σ.env.counters c (pos 0)

-- a counter with another content
abbrev pub put : ℕ → ℤ → Scheduler → Scheduler
put c v σ = with_env σ (record { counters = set σ.env.counters c v; marks = σ.env.marks; lost = σ.env.lost })

-- one more mark
abbrev pub with_mark : ℕ → ℤ → Scheduler → Scheduler
with_mark r n σ = with_env σ (record { counters = σ.env.counters; marks = σ.env.marks ++ ((r, n) ∷ []); lost = σ.env.lost })

-- so much more cut off, and nothing yet
abbrev pub with_more_lost : ℕ → Scheduler → Scheduler
with_more_lost k σ = with_env σ (record { counters = σ.env.counters; marks = σ.env.marks; lost = σ.env.lost + k })

abbrev pub with_nothing_lost : Scheduler → Scheduler
with_nothing_lost σ = with_env σ (record { counters = σ.env.counters; marks = σ.env.marks; lost = 0 })

-- env and env' of rule 1, for each call; document 02: an addition "tells, besides its sum, the distance between the true sum and the one
-- given", and "the total of these" is kept
pub data Called : Call → Scheduler → Scheduler → Type 0 where
  -- "writes a mark: routine, n"
  writes : {r : ℕ} {n : ℤ} {σ : Scheduler} → Called (mark r n) σ (with_mark r n σ)
  -- "counter becomes n; n is added"
  becomes : {c : ℕ} {n : ℤ} {σ : Scheduler} → Called (set_to c n) σ (put c n σ)
  adds : {c k : ℕ} {n v : ℤ} {σ : Scheduler} → AddsUp (content σ c) n v k → Called (add c n) σ (with_more_lost k (put c v σ))
  -- "b's content is added to a"
  takes : {c d k : ℕ} {v : ℤ} {σ : Scheduler} → AddsUp (content σ c) (content σ d) v k → Called (take c d) σ (with_more_lost k (put c v σ))

-- env' of rule 30, "transformed by the return of the value": "the k-th number goes to b"
abbrev pub returned : ℕ → ℕ → ℕ → Scheduler → Scheduler
returned e c k σ = put c (get_or (values_of σ e) (k - 1) (pos 0)) σ

-- sched[to_start += t], unless t was started or is there already
abbrev pub to_start_plus : ℕ → Scheduler → Scheduler
to_start_plus t σ =
    let o = σ.orders in
    if is_not_started (status_of σ t) && not (is_among t o.to_start)
    then
    with_orders σ (
    record {
      to_broadcast = o.to_broadcast;
      to_start = o.to_start ++ (t ∷ []);
      to_stop = o.to_stop;
      to_suspend = o.to_suspend;
      to_resume = o.to_resume;
    }
    )
    else σ

-- sched[to_stop += t]
abbrev pub to_stop_plus : ℕ → Scheduler → Scheduler
to_stop_plus t σ =
    with_orders σ (
    let o = σ.orders in
    record {
      to_broadcast = o.to_broadcast;
      to_start = o.to_start;
      to_stop = plus o.to_stop t;
      to_suspend = o.to_suspend;
      to_resume = o.to_resume;
    }
    )

-- sched[to_suspend += t]
abbrev pub to_suspend_plus : ℕ → Scheduler → Scheduler
to_suspend_plus t σ =
    with_orders σ (
    let o = σ.orders in
    record {
      to_broadcast = o.to_broadcast;
      to_start = o.to_start;
      to_stop = o.to_stop;
      to_suspend = plus o.to_suspend t;
      to_resume = o.to_resume;
    }
    )

-- sched[to_resume += t]
abbrev pub to_resume_plus : ℕ → Scheduler → Scheduler
to_resume_plus t σ =
    with_orders σ (
    let o = σ.orders in
    record {
      to_broadcast = o.to_broadcast;
      to_start = o.to_start;
      to_stop = o.to_stop;
      to_suspend = o.to_suspend;
      to_resume = plus o.to_resume t;
    }
    )
