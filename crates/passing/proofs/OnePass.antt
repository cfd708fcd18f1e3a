-- A pass goes on routine by routine: the tables behind a turn, with the routines still to come, lead to what they led to before it.
use Prim.Native.Nat.{ℕ, ◌+◌, ◌/◌, ◌≤◌, ◌<◌}
use mathlib.Core.Path.{◌≡◌, sym, ap, ◌∙◌}
use mathlib.Core.Bool.{Bool, true, ◌&&◌, and-true, and_assoc}
use mathlib.Core.List.{List, [], ◌∷◌}
use native.Mathlib.Omega.{arith}
use lib.IntN.{ℤ}
use lib.ListN.{length, drop}
use Rattle.std.specs.Prelude.{Option}
use Rattle.lines.specs.declared.Line.{Line}
use Rattle.lines.specs.Lines.{most_entries, item_at, used_of, entries_of}
use Rattle.lines.proofs.Entries.{entries_on}
use Rattle.game.specs.declared.Game.{Game}
use Rattle.round.specs.declared.Ending.{Ending}
use Rattle.round.specs.State.{State}
use Rattle.round.specs.Rounds.{is_done, all_done, turn, pass}
use Rattle.round.specs.Answers.{marks_in}
use Rattle.round.proofs.Waiting.{done_append}
use Rattle.tables.specs.declared.Tables.{Tables}
use Rattle.tables.specs.Tables.{state_in, WholeIn}
use Rattle.passing.specs.Effects.{Marks, marks_of, marks_put}
use Rattle.passing.specs.Turns.{TurnAsks, Behind, turned, turned_by}
use Rattle.passing.specs.Passes.{PassAsks, passing, passed_by}
use Rattle.passing.proofs.TurnMarks.{marks_append}

-- the turn of one routine, and those behind it
pass_on :
    (book : List ℕ) (r : ℕ) (rs : List ℕ) (s : State) (m : Marks) (done : Bool) (b : Behind) → b ≡ turned_by (turn book r s) m →
    passed_by (pass book (r ∷ rs) s) m done ≡ passed_by (pass book rs b.state) b.marks (done && all_done b.turns)
unfolding pass
pass_on book r rs s m done b e =
    let first = turn book r s in
    let rest = pass book rs first.state in
    rw (e, marks_append first.trace, done_append first.turns, ← (and_assoc done (all_done first.turns) (all_done rest.turns)))

pub pass_none : (book : List ℕ) (s : State) (m : Marks) (done : Bool) → passed_by (pass book [] s) m done ≡ passing s m done
unfolding pass marks_in marks_put all_done
pass_none book s m done = rw (and-true done)

-- a pass so far: the tables, with the routines from entry `at` on, lead to what they led to at its start
pub record Between
    (book : List ℕ) (eoi : Bool) (t₀ : Tables) (given₀ marks₀ : List ℤ) (order : Line) (t : Tables) (given marks : List ℤ) (done : Bool) (at : ℕ)
    : Type 0 where
  pub inside : at ≤ used_of order
  pub whole : WholeIn (length given₀ / 2) t
  pub given_long : length given ≡ length given₀
  pub marks_long : length marks ≡ length marks₀
  pub leads :
      (g : Game) →
      passed_by (pass book (drop at (entries_of order)) (state_in g t given eoi)) (marks_of marks t.tally.marks) done
      ≡ passed_by (pass book (entries_of order) (state_in g t₀ given₀ eoi)) (marks_of marks₀ t₀.tally.marks) true
  pub asks :
      (g : Game) → PassAsks (length given₀ / 2) book (entries_of order) (state_in g t₀ given₀ eoi) →
      PassAsks (length given₀ / 2) book (drop at (entries_of order)) (state_in g t given eoi)

module _
    {book : List ℕ} {eoi : Bool} {t₀ : Tables} {given₀ marks₀ : List ℤ} {order : Line} {t : Tables} {given marks : List ℤ} {done : Bool} {at : ℕ}
    (i : Between book eoi t₀ given₀ marks₀ order t given marks done at) (long : length order.items ≡ most_entries) (more : at < used_of order)
    (r : ℕ) (is : r ≡ item_at order at) where
  abbrev rest : List ℕ
  rest = drop (at + 1) (entries_of order)

  split : drop at (entries_of order) ≡ r ∷ rest
  split = rw (is, entries_on order at long more)

  abbrev held : Game → State
  held g = state_in g t given eoi

  abbrev AtStart : Game → Type 0
  AtStart g = PassAsks (length given₀ / 2) book (entries_of order) (state_in g t₀ given₀ eoi)

  asks_now :
      (g : Game) → AtStart g →
      TurnAsks (length given₀ / 2) book r (held g) × PassAsks (length given₀ / 2) book rest (turn book r (held g)).state
  unfolding PassAsks
  asks_now g f = rw split at (i.asks g f)

  -- what the next turn asks
  pub turn_asks : (g : Game) → AtStart g → TurnAsks (length given₀ / 2) book r (held g)
  turn_asks g f = (asks_now g f).0

  -- behind that turn
  pub goes_on_lem :
      (how : Option Ending) (t' : Tables) (given' marks' : List ℤ) →
      ((g : Game) →
      turned (state_in g t' given' eoi) (marks_of marks' t'.tally.marks) how
      ≡ turned_by (turn book r (held g)) (marks_of marks t.tally.marks)) →
      WholeIn (length given₀ / 2) t' → length given' ≡ length given₀ → length marks' ≡ length marks₀ →
      Between book eoi t₀ given₀ marks₀ order t' given' marks' (done && is_done how) (at + 1)
  unfolding all_done
  goes_on_lem how t' given' marks' took whole given_long marks_long =
      record {
        inside = omega arith;
        whole = whole;
        given_long = given_long;
        marks_long = marks_long;
        leads =
            λ g.
            rw (← (and-true (is_done how)))
            (sym (pass_on book r rest (held g) (marks_of marks t.tally.marks) done _ (took g)) ∙ (rw split at (i.leads g)));
        asks = λ g f. rw (ap (λ (b : Behind). b.state) (took g)) (asks_now g f).1;
      }
