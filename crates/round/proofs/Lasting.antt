-- How many places of a set a turn may still pass from a position, and that a turn is over within the steps that it may take.
-- From a timed rest that may be over all of the set is left; behind it, and from elsewhere, what is ahead, which falls with every step.
use Prim.Native.Nat.{ℕ, zero, suc, ◌+◌, ◌<◌, ◌≤◌}
use mathlib.Core.Bool.{Bool, true, ◌&&◌}
use mathlib.Core.List.{List}
use native.Mathlib.Decide.{dec_lt}
use native.Mathlib.Omega.{arith}
use Rattle.std.specs.Prelude.{if◌then◌else◌}
use Rattle.numbers.specs.Counting.{count_below}
use Rattle.numbers.proofs.Tests.{by_test}
use Rattle.numbers.proofs.Counting.{count_all}
use Rattle.kinds.specs.declared.Counts.{Counts}
use Rattle.kinds.specs.Steps.{steps_in}
use Rattle.blocks.specs.Blocks.{deepest}
use Rattle.blocks.specs.Parse.{ParsedBlock, WhilesPause}
use Rattle.layout.specs.Layout.{routines_of, counts_of}
use Rattle.directory.specs.Directory.{step_count, routine_steps}
use Rattle.book.specs.Accepted.{Accepted}
use Rattle.round.specs.declared.Position.{Position}
use Rattle.round.specs.declared.Act.{Act}
use Rattle.round.specs.declared.Act.TheVariants.{Goes, Halts}
use Rattle.round.specs.State.{State, Event}
use Rattle.round.specs.Ticks.{tick, fresh, effect_on}
use Rattle.round.specs.Rounds.{most_ticks}
use Rattle.round.specs.claims.Enough.{IfItGoesOn, InTime}
use Rattle.round.proofs.Counting.{one}
use Rattle.round.proofs.Leads.{is_halt, form_at, Leaves, leads, rest_over}
use Rattle.round.proofs.Acts.{Sorted}
use Rattle.round.proofs.Sorting.{sorted}
use Rattle.round.proofs.Parsed.{size_same, parse_of, parse_pauses}
use Rattle.round.proofs.Ahead.{ahead, ahead_all, ahead_falls, ahead_over}

module _ (counts : Counts) (steps : List ℕ) where
  module _ (b : ParsedBlock (form_at counts steps) deepest 0 (steps_in steps)) (w : WhilesPause (form_at counts steps) b) where
    abbrev ahead_of : (ℕ → Bool) → ℕ → ℕ
    ahead_of = ahead counts steps b w

    -- where a timed step that is a halt is begun, the turn may go past it and come anywhere
    unfoldable left_at : (ℕ → Bool) → Position → ℕ
    left_at P x = if x.begun && is_halt (form_at counts steps x.place) then count_below P (steps_in steps) else ahead_of P x.place

    left_all : (P : ℕ → Bool) (x : Position) → left_at P x ≤ count_below P (steps_in steps)
    unfolding left_at
    left_all P x =
        by_test (λ (n : ℕ). n ≤ count_below P (steps_in steps)) (x.begun && is_halt (form_at counts steps x.place))
        (λ t. omega arith) (λ t. ahead_all counts steps b w P x.place)

    left_falls :
        (P : ℕ → Bool) (x : Position) (q : ℕ) → Leaves counts steps x q → left_at P (fresh q) + one (P x.place) ≤ left_at P x
    unfolding left_at
    left_falls P x q (leads e) =
        let less = ahead_falls counts steps b w P x.place q e in
        by_test (λ (n : ℕ). ahead_of P q + one (P x.place) ≤ n) (x.begun && is_halt (form_at counts steps x.place))
        (λ t. omega (arith, less, ahead_all counts steps b w P x.place)) (λ t. less)
    left_falls P x q (rest_over begun h) = rw (begun, h) (ahead_over counts steps b w P x.place (x.place + 1) h)

    module _ (r : ℕ) where
      -- every place counts
      abbrev places : Position → ℕ
      places = left_at (λ p. true)

      lasts : (n : ℕ) (x : Position) (s : State) → places x < n → InTime n counts r steps x s
      unfolding InTime
      lasts zero x s l = absurd (omega arith)
      lasts (suc n) x s l =
          let t = tick counts r steps x s in
          behind t.act t.events (sorted counts r steps x s) (λ q u. lasts n (fresh q) u)
        where
          behind :
              (act : Act) (events : List Event) → Sorted counts r steps x s act events →
              ((q : ℕ) (u : State) → places (fresh q) < n → InTime n counts r steps (fresh q) u) →
              IfItGoesOn act s (λ y u. InTime n counts r steps y u)
          behind (Goes q e) events goes on = on q (effect_on e s) (omega (arith, left_falls (λ p. true) x q goes.0))
          behind (Halts how y) events goes on = tt

      in_time : (x : Position) (s : State) → InTime (most_ticks steps) counts r steps x s
      in_time x s = lasts (most_ticks steps) x s (omega (arith, left_all (λ p. true) x, count_all (λ p. true) (steps_in steps)))

-- the routines of an accepted book
module _ (book : List ℕ) (a : Accepted book) where
  pub routine_in_time :
      (r : ℕ) → r < routines_of book → (x : Position) (s : State) →
      InTime (most_ticks (routine_steps book r)) (counts_of book) r (routine_steps book r) x s
  routine_in_time r h = in_time (counts_of book) (routine_steps book r) (parse_of book a r h) (parse_pauses book a r h) r

  -- how many steps of a set routine r may still complete from a position
  abbrev left_by : (ℕ → ℕ → Bool) → (r : ℕ) → Position → Dec (r < routines_of book) → ℕ
  left_by set r x (yes h) = left_at (counts_of book) (routine_steps book r) (parse_of book a r h) (parse_pauses book a r h) (set r) x
  left_by set r x (no n) = 0

  pub left : (ℕ → ℕ → Bool) → ℕ → Position → ℕ
  left set r x = left_by set r x (dec_lt r (routines_of book))

  module _ (set : ℕ → ℕ → Bool) (r : ℕ) (h : r < routines_of book) where
    pub left_most : (x : Position) → left set r x ≤ count_below (set r) (step_count book r)
    unfolding left
    left_most x = decided (dec_lt r (routines_of book))
      where
        decided : (d : Dec (r < routines_of book)) → left_by set r x d ≤ count_below (set r) (step_count book r)
        decided (yes l) =
            let all = left_all (counts_of book) (routine_steps book r) (parse_of book a r l) (parse_pauses book a r l) (set r) x in
            rw (size_same book a r l) at all
        decided (no n) = absurd (n h)

    pub left_less :
        (x : Position) (q : ℕ) → Leaves (counts_of book) (routine_steps book r) x q →
        left set r (fresh q) + one (set r x.place) ≤ left set r x
    unfolding left
    left_less x q e = decided (dec_lt r (routines_of book))
      where
        decided :
            (d : Dec (r < routines_of book)) →
            left_by set r (fresh q) d + one (set r x.place) ≤ left_by set r x d
        decided (yes l) = left_falls (counts_of book) (routine_steps book r) (parse_of book a r l) (parse_pauses book a r l) (set r) x q e
        decided (no n) = absurd (n h)
