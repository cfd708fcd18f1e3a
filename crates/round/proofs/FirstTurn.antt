-- A listed routine that is not suspended has a turn in the round where it stood at the start: other turns leave it there, and no round ends
-- with a turn due. So a step that it stands at is tried; and if the step's thing is there at the round's end, the step is past in the
-- round: a try found the thing or, having missed it, caught up.
use Prim.Native.Nat.{ℕ, ◌<◌}
use mathlib.Core.Path.{◌≡◌, refl, sym, ap, ◌∙◌, subst}
use mathlib.Core.Bool.{true, false}
use mathlib.Core.List.{List, [], ◌∷◌, ◌++◌}
use mathlib.Core.Logic.{◌⊎◌, inl, inr, ⊎_elim}
use Rattle.numbers.specs.Counting.{Somewhere, Among}
use Rattle.numbers.proofs.Tests.{clash, by_flag}
use Rattle.kinds.specs.Steps.{step_at}
use Rattle.layout.specs.Layout.{routines_of, counts_of}
use Rattle.directory.specs.Directory.{routine_steps}
use Rattle.book.specs.Accepted.{Accepted}
use Rattle.game.specs.declared.Game.{Game}
use Rattle.game.specs.Game.{routine_at}
use Rattle.fitting.specs.Fits.{Fits}
use Rattle.round.specs.declared.Position.{Position}
use Rattle.round.specs.State.{State, Thing, Event, missing, completed, is_there}
use Rattle.round.specs.Actions.{position_of, at_start}
use Rattle.round.specs.Rounds.{for_next_pass, listed_in, turn, trace_of, state_after}
use Rattle.round.specs.claims.Demand.{Comes, IsPast}
use Rattle.round.specs.claims.Sound.{Sound}
use Rattle.round.proofs.Acts.{Asks}
use Rattle.round.proofs.TurnLaws.{is_going, waits_at}
use Rattle.round.proofs.Among.{somewhere_append, in_first, in_second}
use Rattle.round.proofs.After.{own_and_others}
use Rattle.round.proofs.StartSound.{among_listed, listed_stage}
use Rattle.round.proofs.Standings.{SameStanding, same_standing, StillThere}
use Rattle.round.proofs.Again.{misses_again_lem, goes_past_lem}
use Rattle.round.proofs.Closing.{there_next_pass}
use Rattle.round.proofs.CatchingUp.{never_missing}
use Rattle.round.proofs.Demand.{none_going_lem, demand_3}
use Rattle.round.proofs.TrueTrace.{came, not_found_lem}

-- routine r completes the step at place p
abbrev pub Completes : ℕ → ℕ → List Event → Type 0
Completes r p events = Somewhere (λ h. h ≡ completed r p) events

module _ (P : Event → Type 0) where
  past_event : {r p : ℕ} {t : Thing} {events : List Event} → P (completed r p) → IsPast r p t events → Somewhere P events
  past_event h IsPast.here = inl h
  past_event h (IsPast.later w) = inr (past_event h w)

  -- where the event is
  event_at : (events : List Event) → Somewhere P events → (h : Event) × (b c : List Event) × P h × (events ≡ b ++ (h ∷ c))
  event_at [] w = elim w [ ]
  event_at (h ∷ events) (inl p) = (h, [], events, p, refl)
  event_at (h ∷ events) (inr w) = let (k, b, c, p, e) = event_at events w in (k, h ∷ b, c, p, ap (λ l. h ∷ l) e)

-- routine r, where it stands when the passes begin
module _ (g : Game) (r : ℕ) where
  abbrev pub stands_first : Position
  stands_first = position_of (routine_at (at_start g).game r)

  -- its turn there is still to come
  abbrev pub Due : State → Type 0
  Due s = (is_going s r ≡ true) × (position_of (routine_at s.game r) ≡ stands_first)

  pub due_standing : (s u : State) → SameStanding (routine_at u.game r) (routine_at s.game r) → Due s → Due u
  due_standing s u standing (going, here) = (rw (standing.suspended, standing.stage) going, standing.position ∙ here)

module _ (book : List ℕ) (a : Accepted book) (g : Game) (f : Fits book g) (r : ℕ) where
  -- a claim that holds while others have their turns, that holds of routine r's own turns, and of one stretch after another
  module _
      (Claim : State → List Event → State → Type 0)
      (both : (s u v : State) (b c : List Event) → Claim s b u → Claim u c v → Claim s (b ++ c) v)
      (others :
      (s u : State) (events : List Event) → SameStanding (routine_at u.game r) (routine_at s.game r) → StillThere s u →
      Claim s events u)
      (own : (s : State) → r < routines_of book → Sound book s → Claim s (turn book r s).trace (turn book r s).state)
    where
      pub round_of_one : Claim (at_start g) (trace_of book g) (state_after book g)
      round_of_one =
          own_and_others book a g f Claim (λ s. others s s [] same_standing (λ t h. h)) both r own
          (λ q s n turned. others s _ _ (turned.standings.others r n) turned.keeps)
          (λ s. others s (for_next_pass s) [] same_standing (λ t h. there_next_pass s t ∙ h))

  module _ (inside : Among r (listed_in g)) (unsuspended : (routine_at (at_start g).game r).suspended ≡ false) where
    pub due_first : Due g r (at_start g)
    due_first = (rw (unsuspended, listed_stage book g a f r (among_listed book g a f r inside)), refl)

    pub due_last : Due g r (state_after book g) → ⊥
    due_last due = clash due.0 (none_going_lem book a g f r inside)

    -- an event of each such turn is one of the round
    pub events_then :
        (P : Event → Type 0) → ((s : State) → Due g r s → Somewhere P (turn book r s).trace) → Somewhere P (trace_of book g)
    events_then P tells =
        let all =
        round_of_one (λ s events u. Due g r s → Somewhere P events ⊎ Due g r u)
        (λ s u v b c first second due.
        ⊎_elim (λ w. inl (in_first P b c w)) (λ k. ⊎_elim (λ w. inl (in_second P b c w)) (λ m. inr m) (second k)) (first due))
        (λ s u events standing keeps due. inr (due_standing g r s u standing due)) (λ s l ok due. inl (tells s due)) in
        ⊎_elim (λ w. w) (λ due. absurd (due_last due)) (all due_first)

    -- the step there asks for a thing that is there at the round's end
    module _
        (t : Thing) (asks : Asks (stands_first g r) (step_at (counts_of book) (routine_steps book r) (stands_first g r).place) t)
        (there : is_there (state_after book g) t ≡ true)
      where
        abbrev p : ℕ
        p = (stands_first g r).place

        abbrev Tried : Event → Type 0
        Tried h = (h ≡ completed r p) ⊎ (h ≡ missing r p t)

        tries_event : (s : State) → Due g r s → Somewhere Tried (turn book r s).trace
        tries_event s (going, at) =
            let waits = waits_at book s r at asks in
            by_flag (is_there s t)
            (λ h. past_event Tried (inl refl) (goes_past_lem book r p t s going waits h))
            (λ h. subst (Somewhere Tried) (sym (misses_again_lem book r p t s going waits h)) (inl (inr refl)))

        -- a try that missed it caught up
        caught_up_lem : (b c : List Event) → trace_of book g ≡ b ++ (missing r p t ∷ c) → Completes r p (trace_of book g)
        caught_up_lem b c e =
            let (absent, none) = not_found_lem book a g f b c r p t e in
            let comes = subst (Somewhere (Comes t)) e (came book a g f t absent there) in
            elim (somewhere_append (Comes t) b (missing r p t ∷ c) comes) [
              | inl k ↦ absurd (none k)
              | inr (inl k) ↦ absurd (never_missing k)
              | inr (inr k) ↦
                  let after = past_event (λ h. h ≡ completed r p) refl ((demand_3 book a g f).caught_up b c r p t e k) in
                  subst (Completes r p) (sym e) (in_second (λ h. h ≡ completed r p) b (missing r p t ∷ c) (inr after))
            ]

        pub thing_past : Completes r p (trace_of book g)
        thing_past =
            let (h, b, c, tried, e) = event_at Tried (trace_of book g) (events_then Tried tries_event) in
            ⊎_elim (λ done. subst (Completes r p) (sym e) (in_second (λ m. m ≡ completed r p) b (h ∷ c) (inl done)))
            (λ missed. caught_up_lem b c (e ∙ ap (λ m. b ++ (m ∷ c)) missed)) tried
