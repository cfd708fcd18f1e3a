-- The passes of a round, one by one: the last is one with all turns done, and before each other the flags are set as rule 38 says.
use Prim.Native.Nat.{ℕ, zero, suc, ◌+◌, ◌-◌, ◌/◌, ◌<◌, ◌≤◌}
use mathlib.Core.Path.{◌≡◌, refl, sym, ap, ◌∙◌}
use mathlib.Core.Bool.{Bool, true, false, not}
use mathlib.Core.List.{List}
use native.Mathlib.Omega.{arith}
use native.Mathlib.Numerals.{sub-one}
use lib.IntN.{ℤ}
use lib.ListN.{length}
use Rattle.game.specs.declared.Game.{Game}
use Rattle.lines.specs.declared.Line.{Line}
use Rattle.lines.specs.Lines.{entries_of}
use Rattle.round.specs.State.{State}
use Rattle.round.specs.Rounds.{pass_then, all_done, for_next_pass, most_passes, pass, instant}
use Rattle.round.specs.Answers.{marks_in}
use Rattle.tables.specs.declared.Tables.{Tables}
use Rattle.tables.specs.Tables.{state_of, state_in, WholeIn}
use Rattle.passing.specs.Effects.{Marks, marks_of, marks_put}
use Rattle.passing.specs.Turns.{marks_after}
use Rattle.passing.specs.Passes.{PassAsks, PassesAsk, Passing, passing, passed_by, passes as passes_of, passes_by}
use Rattle.passing.proofs.Held.{still_whole}
use Rattle.passing.proofs.TurnMarks.{marks_append}

-- before another pass nothing has moved
abbrev pub unmoved : Tables → Tables
unmoved t = record t { tally = record t.tally { moved = false } }

-- the flags for another pass
next_pass_held :
    (g : Game) (t : Tables) (given : List ℤ) (eoi : Bool) →
    for_next_pass (state_in g t given eoi) ≡ state_in g (unmoved t) given (not t.tally.moved)
unfolding state_of
next_pass_held g t given eoi = refl

module _ (book : List ℕ) (rs : List ℕ) where
  one_more :
      (n : ℕ) (s : State) → 0 < n →
      instant book n rs s ≡ pass_then (pass book rs s) (instant book (n - 1) rs (for_next_pass (pass book rs s).state))
  unfolding instant
  one_more zero s h = absurd (omega arith)
  one_more (suc n) s h = rw (sub-one (suc n))

  last_pass :
      (n : ℕ) (s : State) (m : Marks) (k : ℕ) → 0 < n → all_done (pass book rs s).turns ≡ true →
      passes_by (instant book n rs s) m k ≡ passes_of (pass book rs s).state (marks_after (pass book rs s).trace m) (k + 1)
  last_pass n s m k h done = rw (one_more n s h, done)

  next_pass_lem :
      (n : ℕ) (s : State) (m : Marks) (k : ℕ) → 0 < n → all_done (pass book rs s).turns ≡ false →
      passes_by (instant book n rs s) m k
      ≡ passes_by (instant book (n - 1) rs (for_next_pass (pass book rs s).state)) (marks_after (pass book rs s).trace m) (k + 1)
  next_pass_lem n s m k h done =
      let rest = instant book (n - 1) rs (for_next_pass (pass book rs s).state) in
      let sum : k + (rest.passes + 1) ≡ k + 1 + rest.passes = omega arith in
      rw (one_more n s h, done, marks_append (pass book rs s).trace rest.played.trace m, sum)

  pub no_pass : (s : State) (m : Marks) (k : ℕ) → passes_by (instant book 0 rs s) m k ≡ passes_of s m k
  unfolding instant marks_in marks_put
  no_pass s m k = let z : k + 0 ≡ k = omega arith in rw z

  asks_first : (room n : ℕ) (s : State) → 0 < n → PassesAsk room book n rs s → PassAsks room book rs s
  unfolding PassesAsk
  asks_first room zero s h f = absurd (omega arith)
  asks_first room (suc n) s h f = f.0

  asks_next :
      (room n : ℕ) (s : State) → 0 < n → all_done (pass book rs s).turns ≡ false → PassesAsk room book n rs s →
      PassesAsk room book (n - 1) rs (for_next_pass (pass book rs s).state)
  unfolding PassesAsk
  asks_next room zero s h d f = absurd (omega arith)
  asks_next room (suc n) s h d f = rw (sub-one (suc n)) (f.1 d)

-- the passes so far: the tables, with the passes that are still allowed, lead to what they led to at the start
pub record Among
    (book : List ℕ) (order : Line) (t₀ : Tables) (given₀ marks₀ : List ℤ) (t : Tables) (given marks : List ℤ) (eoi : Bool) (passes : ℕ)
    : Type 0 where
  pub whole : WholeIn (length given₀ / 2) t
  pub given_long : length given ≡ length given₀
  pub marks_long : length marks ≡ length marks₀
  pub few : passes ≤ most_passes
  pub leads :
      (g : Game) →
      passes_by (instant book (most_passes - passes) (entries_of order) (state_in g t given eoi)) (marks_of marks t.tally.marks) passes
      ≡ passes_by (instant book most_passes (entries_of order) (state_in g t₀ given₀ false)) (marks_of marks₀ t₀.tally.marks) 0
  pub asks :
      (g : Game) → PassesAsk (length given₀ / 2) book most_passes (entries_of order) (state_in g t₀ given₀ false) →
      PassesAsk (length given₀ / 2) book (most_passes - passes) (entries_of order) (state_in g t given eoi)

module _
    {book : List ℕ} {order : Line} {t₀ : Tables} {given₀ marks₀ : List ℤ} {t : Tables} {given marks : List ℤ} {eoi : Bool} {passes : ℕ}
    (i : Among book order t₀ given₀ marks₀ t given marks eoi passes) (more : passes < most_passes) where
  abbrev held : Game → State
  held g = state_in g t given eoi

  abbrev started : Game → State
  started g = state_in g t₀ given₀ false

  pub pass_asks :
      (g : Game) → PassesAsk (length given₀ / 2) book most_passes (entries_of order) (started g) →
      PassAsks (length given₀ / 2) book (entries_of order) (held g)
  pass_asks g f = asks_first book (entries_of order) (length given₀ / 2) (most_passes - passes) (held g) (omega arith) (i.asks g f)

  -- behind one more pass
  module _
      (t' : Tables) (given' marks' : List ℤ) (done : Bool)
      (passed :
      (g : Game) →
      passing (state_in g t' given' eoi) (marks_of marks' t'.tally.marks) done
      ≡ passed_by (pass book (entries_of order) (held g)) (marks_of marks t.tally.marks) true) where
    state_passed : (g : Game) → state_in g t' given' eoi ≡ (pass book (entries_of order) (held g)).state
    state_passed g = ap (λ (x : Passing). x.state) (passed g)

    marks_passed :
        (g : Game) → marks_of marks' t'.tally.marks ≡ marks_after (pass book (entries_of order) (held g)).trace (marks_of marks t.tally.marks)
    marks_passed g = ap (λ (x : Passing). x.marks) (passed g)

    all_done_lem : (g : Game) → all_done (pass book (entries_of order) (held g)).turns ≡ done
    all_done_lem g = sym (ap (λ (x : Passing). x.done) (passed g))

    pub ends :
        done ≡ true → (g : Game) →
        passes_of (state_in g t' given' eoi) (marks_of marks' t'.tally.marks) (passes + 1)
        ≡ passes_by (instant book most_passes (entries_of order) (started g)) (marks_of marks₀ t₀.tally.marks) 0
    ends d g =
        let last = last_pass book (entries_of order) (most_passes - passes) (held g) _ passes (omega arith) (all_done_lem g ∙ d) in
        rw (state_passed g, marks_passed g) (sym last ∙ i.leads g)

    pub goes :
        done ≡ false → WholeIn (length given₀ / 2) t' → length given' ≡ length given₀ → length marks' ≡ length marks₀ →
        Among book order t₀ given₀ marks₀ (unmoved t') given' marks' (not t'.tally.moved) (passes + 1)
    goes d whole given_long marks_long =
        let left : most_passes - (passes + 1) ≡ most_passes - passes - 1 = omega arith in
        record {
          whole = still_whole whole refl refl whole.starting_fits whole.given_fits;
          given_long = given_long;
          marks_long = marks_long;
          few = omega arith;
          leads =
              λ g.
              let next = next_pass_lem book (entries_of order) (most_passes - passes) (held g) _ passes (omega arith) (all_done_lem g ∙ d) in
              rw (left, ← (next_pass_held g t' given' eoi), state_passed g, marks_passed g) (sym next ∙ i.leads g);
          asks =
              λ g f.
              rw (left, ← (next_pass_held g t' given' eoi), state_passed g)
              (asks_next book (entries_of order) _ (most_passes - passes) (held g) (omega arith) (all_done_lem g ∙ d) (i.asks g f));
        }
