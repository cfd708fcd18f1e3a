-- A turn has no event of another routine. So of a routine that takes no turn in a round there are no events, and it stays where it is: one
-- that is not listed is not in stage 1, and turns of others leave it standing as it does.
use Prim.Native.Nat.{ℕ, ◌<◌}
use mathlib.Core.Path.{◌≡◌, refl, sym, ◌∙◌}
use mathlib.Core.Bool.{false}
use mathlib.Core.List.{List, [], ◌∷◌, ◌++◌}
use mathlib.Core.Logic.{inl, ◌≢◌}
use borrow.Author.Tests.{ne_eqb}
use Rattle.numbers.specs.Counting.{how_many}
use Rattle.numbers.proofs.Tests.{by_flag}
use Rattle.layout.specs.Layout.{routines_of, counts_of}
use Rattle.directory.specs.Directory.{routine_steps}
use Rattle.book.specs.Accepted.{Accepted}
use Rattle.game.specs.declared.Game.{Game}
use Rattle.game.specs.Game.{routine_at}
use Rattle.fitting.specs.Fits.{Fits}
use Rattle.round.specs.declared.Effect.{Effect}
use Rattle.round.specs.declared.Position.{Position}
use Rattle.round.specs.State.{State, Event, completed}
use Rattle.round.specs.Actions.{position_of, at_start}
use Rattle.round.specs.Rounds.{turn, trace_of, state_after}
use Rattle.round.specs.claims.Trace.{is_of, Plays}
use Rattle.round.proofs.Acts.{Says}
use Rattle.round.proofs.TurnLaws.{is_going}
use Rattle.round.proofs.Stepping.{ticks_along}
use Rattle.round.proofs.Traces.{none_of_both, says_none, stops_none}
use Rattle.round.proofs.Standings.{SameStanding, same_standing, standing_then}
use Rattle.round.proofs.AfterTurn.{going_parts, turn_by, turn_over}
use Rattle.round.proofs.Actions.{at_start_positions}
use Rattle.round.proofs.StartSound.{at_start_sound, listed_among}
use Rattle.round.proofs.After.{own_and_others}

-- no event is of routine r
abbrev pub NoEvents : ℕ → List Event → Type 0
NoEvents r events = how_many (is_of r) events ≡ 0

module _ (book : List ℕ) (r q : ℕ) (other : q ≢ r) where
  goes_no_events :
      (x : Position) (s : State) (e : Effect) (events : List Event) → Says (counts_of book) q (routine_steps book q) x s e events →
      NoEvents r (completed q x.place ∷ events)
  unfolding how_many
  goes_no_events x s e events says =
      rw (ne_eqb q r other) (says_none (is_of r) (λ n. ne_eqb q r other) (λ a k. refl) (λ t. ne_eqb q r other) says)

  pub turn_no_events : (s : State) → NoEvents r (turn book q s).trace
  unfolding how_many
  turn_no_events s =
      let all =
      ticks_along (counts_of book) q (routine_steps book q) (λ s events u. NoEvents r events) (λ s. refl) (λ s u v. none_of_both (is_of r))
      (λ x s e events right says. goes_no_events x s e events says)
      (λ x s how y events. stops_none (is_of r) (ne_eqb q r other) (λ t. ne_eqb q r other)) in
      turn_by book q s (λ d. NoEvents r d.trace) (λ h. refl) (λ h. all _ _ s)

-- a round from game g
module _ (book : List ℕ) (a : Accepted book) (g : Game) (f : Fits book g) (r : ℕ) where
  -- as long as r takes no turn
  abbrev Aside : State → List Event → State → Type 0
  Aside s events u =
      is_going s r ≡ false →
      (is_going u r ≡ false) × NoEvents r events × SameStanding (routine_at u.game r) (routine_at s.game r)

  aside_none : (s : State) → Aside s [] s
  unfolding how_many
  aside_none s off = (off, refl, same_standing)

  aside_both : (s u v : State) (b c : List Event) → Aside s b u → Aside u c v → Aside s (b ++ c) v
  aside_both s u v b c first second off =
      let (between, one, stays) = first off in
      let (last, two, still) = second between in
      (last, none_of_both (is_of r) b c one two, standing_then stays still)

  aside_always : Aside (at_start g) (trace_of book g) (state_after book g)
  aside_always =
      own_and_others book a g f Aside aside_none aside_both r (λ s l ok off. rw (turn_over book r s off) (aside_none s off))
      (λ q s n turned off.
      let same = turned.standings.others r n in
      (rw (same.suspended, same.stage) off, turn_no_events book r q (λ e. n (sym e)) s, same))
      aside_none

  pub no_events_lem :
      r < routines_of book → (Plays g r → ⊥) →
      NoEvents r (trace_of book g) × (position_of (routine_at (state_after book g).game r) ≡ position_of (routine_at g r))
  no_events_lem below out =
      let x = routine_at (at_start g).game r in
      let off : is_going (at_start g) r ≡ false =
      by_flag (is_going (at_start g) r)
      (λ on.
      let (unsuspended, stage) = going_parts x.suspended x.stage on in
      let listed = (at_start_sound book g a f).fits.listed_stages r below (inl stage) in
      absurd (out (listed_among book g a f r listed, unsuspended)))
      (λ h. h) in
      let (_, none, same) = aside_always off in
      (none, same.position ∙ at_start_positions g r)
