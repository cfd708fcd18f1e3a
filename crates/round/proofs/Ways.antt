-- A routine's way through a round: it stands where the steps of the trace lead it, and its last turn ends where it has come to. A turn of
-- another routine leaves it where it is; its own leads it on, by its steps (Places.antt). A routine that plays takes no turn any more in
-- the end, and so its last one has left it, by the step where it came to (Leaving.antt).
use Prim.Native.Nat.{ℕ, ◌<◌}
use mathlib.Core.Path.{◌≡◌, refl, sym, ◌∙◌, subst}
use mathlib.Core.Bool.{true, false, or-true}
use mathlib.Core.List.{List, [], ◌∷◌, ◌++◌, append_assoc}
use mathlib.Core.Logic.{◌⊎◌, inl, inr, ◌≢◌}
use native.Mathlib.Omega.{arith}
use Rattle.numbers.proofs.Tests.{clash}
use Rattle.layout.specs.Layout.{routines_of}
use Rattle.book.specs.Accepted.{Accepted}
use Rattle.game.specs.declared.Routine.{Routine}
use Rattle.game.specs.declared.Game.{Game}
use Rattle.game.specs.Game.{routine_at}
use Rattle.fitting.specs.Fits.{Fits}
use Rattle.round.specs.declared.Ending.{Ending}
use Rattle.round.specs.declared.Ending.TheVariants.{Ended, Rested, Missed, Continued}
use Rattle.round.specs.declared.Position.{Position}
use Rattle.round.specs.State.{State, Thing, Event, missing, completed}
use Rattle.round.specs.Actions.{position_of, at_start}
use Rattle.round.specs.Rounds.{behind_turn, after_turn, ticks_of, turn, trace_of, state_after}
use Rattle.round.specs.claims.Replay.{position_after}
use Rattle.round.specs.claims.Trace.{LeftAt, Plays}
use Rattle.round.specs.claims.Sound.{Sound}
use Rattle.round.proofs.TurnLaws.{takes_turn, is_going}
use Rattle.round.proofs.Among.{in_first}
use Rattle.round.proofs.Standings.{SameStanding, same_standing}
use Rattle.round.proofs.Parsed.{size_same}
use Rattle.round.proofs.Coming.{turn_untouched}
use Rattle.round.proofs.AfterTurn.{going_parts, turn_by, routine_after}
use Rattle.round.proofs.Actions.{at_start_positions}
use Rattle.round.proofs.After.{own_and_others}
use Rattle.round.proofs.Demand.{none_going_lem}
use Rattle.round.proofs.FirstTurn.{due_first}
use Rattle.round.proofs.Replays.{contents_of, Makes, makes_same, makes_both, turn_makes}
use Rattle.round.proofs.NoEvents.{turn_no_events}
use Rattle.round.proofs.Leaving.{left_as, Halted, halted_later}
use Rattle.round.proofs.Places.{Here, InPlace, in_rest, walked, no_events_still, own_ticks}

-- routine r of the book, in a round from game g
module _ (book : List ℕ) (a : Accepted book) (g : Game) (f : Fits book g) (r : ℕ) where
  -- r, which has come to position x by what is told, takes its next turn there, or no more and is left from there
  abbrev StandsAs : List Event → Position → Routine → Type 0
  StandsAs events x y = (takes_turn y ≡ true → position_of y ≡ x) × (Plays g r → takes_turn y ≡ false → LeftAt book r x events y)

  abbrev Stands : List Event → Position → State → Type 0
  Stands events x s = StandsAs events x (routine_at s.game r)

  -- it stands so when more is told, and where it stands the same
  stands_then : (b c : List Event) {x : Position} {y z : Routine} → SameStanding z y → StandsAs b x y → StandsAs (b ++ c) x z
  stands_then b c {x} {y} {z} same (on, off) =
      let turns : takes_turn z ≡ takes_turn y = rw (same.suspended, same.stage) in (
        λ h. same.position ∙ on (sym turns ∙ h),
        λ d h.
            left_as book r (λ t. in_first (λ k. k ≡ missing r x.place t) b c) same.stage same.position (off d (sym turns ∙ h)),
      )

  -- the events between two states lead r on from where it stands, with the contents there, whatever happened before
  abbrev Walks : State → List Event → State → Type 0
  Walks s events u =
      Makes book s events u ×
      ((before : List Event) (x : Position) → Stands before x s →
      InPlace book r events (contents_of s) x × Stands (before ++ events) (position_after book r events (contents_of s) x) u)

  walks_none : (s : State) → Walks s [] s
  unfolding position_after
  walks_none s = (makes_same book s, λ before x stand. (tt, stands_then before [] same_standing stand))

  walks_both : (s u v : State) (b c : List Event) → Walks s b u → Walks u c v → Walks s (b ++ c) v
  walks_both s u v b c (m, first) (n, second) = (
    makes_both book s u v b c m n,
    λ before x stand.
        let (one, between) = first before x stand in
        let (two, last) = second (before ++ b) (position_after book r b (contents_of s) x) between in
        let (all, to) = walked book r b c (contents_of s) (contents_of u) x _ m refl one two in
        (all, rw (to, ← (append_assoc before b c)) last),
  )

  -- a turn of another routine
  walks_aside :
      (q : ℕ) (s : State) → q ≢ r → SameStanding (routine_at (turn book q s).state.game r) (routine_at s.game r) →
      Walks s (turn book q s).trace (turn book q s).state
  walks_aside q s other same = (
    turn_makes book q s,
    λ before x stand.
        let events = (turn book q s).trace in
        let (in_place, still) = no_events_still book r events (turn_no_events book r q other s) (contents_of s) x in
        (in_place, rw still (stands_then before events same stand)),
  )

  -- a turn of its own
  module _ (below : r < routines_of book) where
    stands_halted :
        (b c : List Event) (how : Ending) (y : Position) (v : Routine) (x : Position) → v.suspended ≡ false →
        Halted book r c x how y → StandsAs (b ++ c) x (behind_turn v how y)
    stands_halted b c how y v x out stop = by how (halted_later book r b c x how y stop)
      where
        by : (how : Ending) → Halted book r (b ++ c) x how y → StandsAs (b ++ c) x (behind_turn v how y)
        by Ended h = (λ t. clash t (rw or-true), λ d t. h _ refl refl)
        by Rested h = (λ t. clash t (rw or-true), λ d t. h _ refl refl)
        by Missed h = (λ t. clash t (rw or-true), λ d t. h _ refl refl)
        by Continued h = (λ t. h, λ d t. clash (rw out) t)

    -- what the steps of its turn come to from position x
    abbrev Came : State → Position → Type 0
    Came s x =
        let t = ticks_of book r s in
        InPlace book r t.trace (contents_of s) x ×
        Halted book r t.trace (position_after book r t.trace (contents_of s) x) t.ending t.position

    -- a turn that it takes
    came_on :
        (s : State) → Sound book s → is_going s r ≡ true → (before : List Event) (x : Position) → Stands before x s →
        let t = ticks_of book r s in
        InPlace book r t.trace (contents_of s) x ×
        Stands (before ++ t.trace) (position_after book r t.trace (contents_of s) x) (after_turn r t)
    came_on s ok going before x (on, off) =
        let y = routine_at s.game r in
        let t = ticks_of book r s in
        let standing = (turn_untouched book r s).standings r in
        let out = standing.suspended ∙ (going_parts y.suspended y.stage going).0 in
        let inside = ok.fits.places_in_range r below in
        let own = (own_ticks book r a below _ (position_of y) s).1 (omega (arith, inside, size_same book a r below)) in
        let (in_place, stop) = subst (Came s) (on going) own in
        let left = stands_halted before t.trace t.ending t.position (routine_at t.state.game r) _ out stop in
        (in_place, rw (routine_after r s t standing going) left)

    walks_own : (s : State) → Sound book s → Walks s (turn book r s).trace (turn book r s).state
    walks_own s ok = (
      turn_makes book r s,
      turn_by book r s
          (λ d.
          (before : List Event) (x : Position) → Stands before x s →
          InPlace book r d.trace (contents_of s) x ×
          Stands (before ++ d.trace) (position_after book r d.trace (contents_of s) x) d.state)
          (λ h. (walks_none s).1) (came_on s ok),
    )

  walks_round : Walks (at_start g) (trace_of book g) (state_after book g)
  walks_round =
      own_and_others book a g f Walks walks_none walks_both r (λ s l. walks_own l s)
      (λ q s n turned. walks_aside q s (λ e. n (sym e)) (turned.standings.others r n)) walks_none

  abbrev first : Position
  first = position_of (routine_at g r)

  starts : Stands [] first (at_start g)
  starts = (
    λ h. at_start_positions g r,
    λ (inside, unsuspended) h. clash (due_first book a g f r inside unsuspended).0 h,
  )

  all :
      InPlace book r (trace_of book g) (g.counters, []) first ×
      Stands (trace_of book g) (position_after book r (trace_of book g) (g.counters, []) first) (state_after book g)
  unfolding at_start
  all = walks_round.1 [] first starts

  at_place :
      (h : Event) (x : Position) (p : ℕ) → (h ≡ completed r p) ⊎ ((t : Thing) × (h ≡ missing r p t)) → Here book r h x → x.place ≡ p
  at_place h x p (inl d) here = let now : Here book r (completed r p) x = subst (λ (k : Event). Here book r k x) d here in now refl
  at_place h x p (inr (t, d)) here =
      let now : Here book r (missing r p t) x = subst (λ (k : Event). Here book r k x) d here in now refl

  pub stood :
      (before after : List Event) (h : Event) (p : ℕ) → trace_of book g ≡ before ++ (h ∷ after) →
      (h ≡ completed r p) ⊎ ((t : Thing) × (h ≡ missing r p t)) →
      (position_after book r before (g.counters, []) (position_of (routine_at g r))).place ≡ p
  stood before after h p e what =
      let events = subst (λ (l : List Event). InPlace book r l (g.counters, []) first) e all.0 in
      let (here, _) = in_rest book r before (h ∷ after) (g.counters, []) first events in
      at_place h _ p what here

  pub left_at_lem :
      Plays g r →
      LeftAt book r (position_after book r (trace_of book g) (g.counters, []) (position_of (routine_at g r))) (trace_of book g)
      (routine_at (state_after book g).game r)
  left_at_lem plays = all.1.1 plays (none_going_lem book a g f r plays.0)
