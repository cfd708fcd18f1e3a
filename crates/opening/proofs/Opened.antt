-- The tables behind `take` and `open` hold, row by row, the state that `at_start` defines. All but the stage of a routine is as it was
-- taken. The stage is settled in one walk where the definition changes the routines twice, so it is compared routine by routine: by whether
-- the routine is listed, whether it stays and whether it is stopped.
use Prim.Native.Nat.{ℕ, ◌+◌, ◌≤◌, ◌<◌}
use mathlib.Core.Path.{◌≡◌, refl, sym, ap, ◌∙◌}
use mathlib.Core.Logic.{inr, ⊎_elim}
use mathlib.Core.Bool.{Bool, true, false, ◌&&◌, ◌||◌, not}
use mathlib.Core.List.{List, map}
use native.Mathlib.Omega.{arith}
use native.Mathlib.Decide.{dec_lt}
use lib.Dec.{lit≤, eqb}
use lib.IntN.{ℤ}
use lib.ListN.{length, get_or, length-map, get_or-eq_default, get_or-map}
use lib.Seq.{ext_get_or}
use Rattle.numbers.specs.Counting.{Among, list_below}
use Rattle.numbers.proofs.Tests.{by_flag, clash}
use Rattle.layout.specs.Layout.{most_routines, most_signals, routines_of}
use Rattle.kinds.specs.declared.Counts.{Counts}
use Rattle.book.specs.Accepted.{Accepted}
use Rattle.lines.specs.declared.Line.{Line}
use Rattle.lines.specs.Lines.{empty, appended}
use Rattle.game.specs.declared.Routine.{Routine}
use Rattle.game.specs.declared.Game.{Game}
use Rattle.game.specs.Game.{continuing, rested, ended, stopped, blank, routine_at}
use Rattle.fitting.specs.Fits.{Fits}
use Rattle.orders.proofs.Stores.{same_at_lem}
use Rattle.round.specs.Actions.{position_of, placed, in_stage1, in_stage4, without_orders, at_start}
use Rattle.round.proofs.Among.{among_or, among_kept}
use Rattle.round.proofs.Actions.{each_keeps, each_length, each_other, each_given}
use Rattle.round.proofs.Actions.{starts_of, joined_of, first, stops, stays, leaving, staying, halted, last}
use Rattle.tables.specs.declared.Tables.{Tables}
use Rattle.tables.specs.Tables.{field_count, ends_row, stops_row, suspends_row, resumes_row, suspended_row, begun_row, present_row}
use Rattle.tables.specs.Tables.{stages_row, places_row, lefts_row, starting_row, row_at, last_row, put_in, routine_in, state_of}
use Rattle.tables.proofs.Rows.{row_length, row_other, last_other, put_length}
use Rattle.numbers.proofs.Lists.{below_length, below_read}
use Rattle.opening.specs.Actions.{continued, with_signals, settled_stage, stays_at, settled, opened_fields, opened_order}
use Rattle.opening.specs.Games.{no_tally, Opened}
use Rattle.opening.proofs.Taking.{Taken}
use Rattle.opening.proofs.Signals.{signals_length, signals_last, signals_row}
use Rattle.opening.proofs.Settling.{continued_keeps, settled_keeps, Stages, continued_stages, kept_same, kept_among}
use Rattle.opening.proofs.Settling.{line_kept, settled_not, settled_in}

-- 3. and 6. The stage of a listed routine, by whether it stays and whether it is stopped
settle_stays : (e : Bool) (k : ℕ) → (not e && not (eqb k ended)) ≡ true → settled_stage e k ≡ continuing
settle_stays true k h = clash h refl
settle_stays false k h = by_flag (eqb k ended) (λ p. clash h (rw p)) (λ p. rw p)

settle_stops : (e : Bool) (k : ℕ) → (e && (eqb k continuing || eqb k rested)) ≡ true → settled_stage e k ≡ stopped
settle_stops true k h = rw h
settle_stops false k h = clash h refl

settle_neither :
    (e : Bool) (k : ℕ) → (not e && not (eqb k ended)) ≡ false → (e && (eqb k continuing || eqb k rested)) ≡ false → settled_stage e k ≡ k
settle_neither true k h m = rw m
settle_neither false k h m = by_flag (eqb k ended) (λ p. rw p) (λ p. clash (ap not p) h)

-- all but the stage of a routine
abbrev unstaged : Routine → Routine
unstaged x = placed x 0 (position_of x)

module _
    (g : Game) (n : ℕ) (flags₀ : List Bool) (fields₀ : List ℕ) (sized : length g.routines ≡ most_routines)
    (signalled : length g.broadcast ≡ most_signals) (t : Taken g.routines n flags₀ fields₀)
    (beyond : (i : ℕ) → n ≤ i → routine_at g i ≡ blank) where
  abbrev flags : List Bool
  flags = with_signals g.broadcast flags₀

  abbrev fields₁ : List ℕ
  fields₁ = continued (starts_of g) fields₀

  abbrev fields₂ : List ℕ
  fields₂ = settled flags (joined_of g) fields₁

  row : (k : ℕ) → k + most_routines ≤ present_row → row_at k flags ≡ row_at k flags₀
  row = signals_row g.broadcast flags₀

  -- what no store in the row of stages changes
  kept_field : {B : Type 0} (f : List ℕ → B) → ((r v : ℕ) (l : List ℕ) → f (put_in stages_row r v l) ≡ f l) → f fields₂ ≡ f fields₀
  kept_field f apart = settled_keeps f apart flags (joined_of g) fields₁ ∙ continued_keeps f apart (starts_of g) fields₀

  opened_length : length fields₂ ≡ field_count
  opened_length = kept_field length (λ r v l. put_length stages_row r v l) ∙ t.fields_long

  field : (k : ℕ) → most_routines ≤ k → row_at k fields₂ ≡ row_at k fields₀
  field k h = kept_field (λ l. row_at k l) (λ r v l. row_other stages_row r v l k (inr h))

  long₁ : length fields₁ ≡ field_count
  long₁ = continued_keeps length (λ r v l. put_length stages_row r v l) (starts_of g) fields₀ ∙ t.fields_long

  -- the tables before, at each place
  all_taken : (i : ℕ) → routine_in flags₀ fields₀ i ≡ without_orders (routine_at g i)
  all_taken i =
      elim (dec_lt i n) [
        | yes h ↦ t.routine i h
        | no h ↦ t.later i (omega (arith, h)) ∙ sym (ap without_orders (beyond i (omega (arith, h))))
      ]

  all_ends : (i : ℕ) → get_or (row_at ends_row flags) i false ≡ (routine_at g i).stopping
  all_ends i =
      rw (row ends_row (lit≤ tt))
      (elim (dec_lt i n) [
        | yes h ↦ t.ends i h
        | no h ↦ t.later_ends i (omega (arith, h)) ∙ sym (ap (λ (x : Routine). x.stopping) (beyond i (omega (arith, h))))
      ])

  -- once action 1 is done
  stages₁ : Stages fields₁ (first g)
  stages₁ =
      continued_stages (starts_of g) fields₀ g.routines t.fields_long sized (λ i. ap (λ (x : Routine). x.stage) (all_taken i))

  ends₁ : (i : ℕ) → get_or (row_at ends_row flags) i false ≡ (get_or (first g) i blank).stopping
  ends₁ i =
      let stopping : Routine → Bool = λ x. x.stopping in
      all_ends i ∙
      sym (same_at_lem stopping (first g) g.routines blank (each_keeps stopping in_stage1 (λ x. refl) (starts_of g) g.routines) i)

  opened_line : opened_order g.listed g.starting flags fields₀ ≡ (at_start g).game.listed
  unfolding at_start
  opened_line =
      line_kept flags (joined_of g) fields₁ empty long₁ ∙
      ap (λ (rs : List ℕ). appended empty rs)
      (kept_same (stays_at flags fields₁) (stays g) (joined_of g) (λ r. rw (ends₁ r, stages₁ r)))

  -- once actions 3 and 6 are done
  module _ (i : ℕ) (near : i < most_routines) where
    abbrev x : Routine
    x = get_or (first g) i blank

    abbrev stage : ℕ
    stage = get_or (row_at stages_row fields₂) i 0

    abbrev stage_then : List Routine → ℕ
    stage_then l = (get_or l i blank).stage

    inside_first : i < length (first g)
    inside_first = rw (each_length in_stage1 (starts_of g) g.routines, sized) near

    inside_halted : i < length (halted g)
    inside_halted = rw (each_length in_stage4 (leaving g) (first g)) inside_first

    not_staying : (Among i (staying g) → ⊥) → stage_then (last g) ≡ stage_then (halted g)
    not_staying m = ap (λ (y : Routine). y.stage) (each_other in_stage1 (staying g) (halted g) i m)

    not_leaving : (Among i (leaving g) → ⊥) → stage_then (halted g) ≡ x.stage
    not_leaving m = ap (λ (y : Routine). y.stage) (each_other in_stage4 (leaving g) (first g) i m)

    listed_stage : Among i (joined_of g) → settled_stage x.stopping x.stage ≡ stage_then (last g)
    listed_stage a =
        by_flag (stays g i)
        (λ p.
        let in-staying = among_kept (stays g) i (joined_of g) p a in
        settle_stays x.stopping x.stage p ∙
        sym (each_given in_stage1 continuing (λ y. refl) (staying g) (halted g) i inside_halted in-staying))
        (λ p.
        let no_stay : Among i (staying g) → ⊥ = λ b. clash (kept_among (stays g) i (joined_of g) b).1 p in
        by_flag (stops g i)
        (λ q.
        let in-leaving = among_kept (stops g) i (joined_of g) q a in
        settle_stops x.stopping x.stage q ∙
        sym (not_staying no_stay ∙ each_given in_stage4 stopped (λ y. refl) (leaving g) (first g) i inside_first in-leaving))
        (λ q.
        let no_leave : Among i (leaving g) → ⊥ = λ b. clash (kept_among (stops g) i (joined_of g) b).1 q in
        settle_neither x.stopping x.stage p q ∙ sym (not_staying no_stay ∙ not_leaving no_leave)))

    last_stage : stage ≡ stage_then (last g)
    last_stage =
        ⊎_elim
        (λ a. settled_in flags (joined_of g) fields₁ i long₁ near a ∙ (rw (ends₁ i, stages₁ i) (listed_stage a)))
        (λ m.
        let no_stay : Among i (staying g) → ⊥ = λ b. m (kept_among (stays g) i (joined_of g) b).0 in
        let no_leave : Among i (leaving g) → ⊥ = λ b. m (kept_among (stops g) i (joined_of g) b).0 in
        settled_not flags (joined_of g) fields₁ i m ∙ stages₁ i ∙ sym (not_staying no_stay ∙ not_leaving no_leave))
        (among_or i (joined_of g))

    same_unstaged : unstaged (get_or (last g) i blank) ≡ unstaged (routine_at g i)
    same_unstaged =
        same_at_lem unstaged (last g) g.routines blank
        (each_keeps unstaged in_stage1 (λ x. refl) (staying g) (halted g) ∙
        each_keeps unstaged in_stage4 (λ x. refl) (leaving g) (first g) ∙
        each_keeps unstaged in_stage1 (λ x. refl) (starts_of g) g.routines) i

    routine_opened : routine_in flags fields₂ i ≡ without_orders (get_or (last g) i blank)
    routine_opened =
        let now = stage_then (last g) in
        let in_stage_lem : Routine → Routine = λ z. placed z now (position_of z) in
        let one : routine_in flags fields₂ i ≡ in_stage_lem (routine_in flags₀ fields₀ i) =
        rw (
          last_stage,
          field places_row (lit≤ tt),
          field lefts_row (lit≤ tt),
          row suspended_row (lit≤ tt),
          row begun_row (lit≤ tt),
          row stops_row (lit≤ tt),
          row suspends_row (lit≤ tt),
          row resumes_row (lit≤ tt),
        )
        in
        one ∙ ap in_stage_lem (all_taken i) ∙ ap (λ (z : Routine). in_stage_lem (without_orders z)) (sym same_unstaged)

  opened_routines : list_below most_routines (routine_in flags fields₂) ≡ map without_orders (last g)
  opened_routines =
      let routine = routine_in flags fields₂ in
      let size = below_length most_routines routine in
      let wide =
      length-map (last g) without_orders ∙
      each_length in_stage1 (staying g) (halted g) ∙
      each_length in_stage4 (leaving g) (first g) ∙
      each_length in_stage1 (starts_of g) g.routines ∙
      sized
      in
      ext_get_or blank (list_below most_routines routine) (map without_orders (last g)) (size ∙ sym wide)
      (λ i h.
      let near : i < most_routines = omega (arith, size, h) in
      below_read most_routines routine i blank near ∙ routine_opened i near ∙ sym (get_or-map without_orders (last g) i blank))

  opened_ends : row_at ends_row flags ≡ map (λ x. x.stopping) g.routines
  opened_ends =
      let stopping : Routine → Bool = λ x. x.stopping in
      let long = signals_length g.broadcast flags₀ in
      ext_get_or false (row_at ends_row flags) (map stopping g.routines)
      (row_length ends_row flags (omega (arith, long, t.flags_long)) ∙ sym (length-map g.routines stopping ∙ sized))
      (λ i h. all_ends i ∙ sym (get_or-map stopping g.routines i blank))

  opened_state : (given : List ℤ) → state_of (at_start g).game g.counters flags fields₂ given no_tally false ≡ at_start g
  unfolding state_of at_start
  opened_state given =
      let none = kept_field (λ l. last_row starting_row l) (λ r v l. last_other stages_row r v l starting_row (lit≤ tt)) in
      rw (opened_routines, opened_ends, signals_last g.broadcast flags₀ signalled t.flags_long, none, t.starting)

-- the round is opened
module _ (book : List ℕ) (g : Game) (a : Accepted book) (f : Fits book g) where
  pub all_routines : g.counts.routines ≡ routines_of book
  all_routines = ap (λ (c : Counts). c.routines) f.numbers

  pub few_routines_lem : g.counts.routines ≤ most_routines
  few_routines_lem = rw all_routines a.laid.counts.few_routines

  none_beyond : (i : ℕ) → g.counts.routines ≤ i → routine_at g i ≡ blank
  none_beyond i h =
      elim (dec_lt i most_routines) [
        | yes k ↦ f.routines_beyond i (rw all_routines at h) k
        | no k ↦ get_or-eq_default g.routines blank {n = i} (omega (arith, k, f.sized.routines))
      ]

  pub opened :
      (before after : Tables) (order : Line) → Taken g.routines g.counts.routines before.flags before.fields →
      before.counters ≡ g.counters → before.tally ≡ no_tally → order ≡ opened_order g.listed g.starting after.flags before.fields →
      after
      ≡ record before {
        flags = with_signals g.broadcast before.flags;
        fields = opened_fields g.listed g.starting after.flags before.fields;
      } →
      Opened book g order after
  opened before after order t counters tally o same =
      let flags₀ = before.flags in
      let fields₀ = before.fields in
      let e = ap (λ (u : Tables). u.flags) same in
      let k = ap (λ (u : Tables). u.fields) same in
      let counters_then = ap (λ (u : Tables). u.counters) same ∙ counters in
      let tally_then = ap (λ (u : Tables). u.tally) same ∙ tally in
      let n = g.counts.routines in
      let long = f.sized.routines in
      let wide = f.sized.broadcast in
      record {
        accepted = a;
        fits = f;
        listed = (rw e at o) ∙ opened_line g n flags₀ fields₀ long wide t none_beyond;
        flags_long = rw e (signals_length g.broadcast flags₀ ∙ t.flags_long);
        fields_long = rw (k, e) (opened_length g n flags₀ fields₀ long wide t none_beyond);
        uncounted = tally_then;
        holds = λ given. rw (counters_then, tally_then, k, e) (opened_state g n flags₀ fields₀ long wide t none_beyond given);
      }
