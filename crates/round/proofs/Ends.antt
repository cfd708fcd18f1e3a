-- "A routine ended in the round if a pass brought it to stage 3": the ends in a trace are what the stages of its listed routines say
-- behind it. By the claim that the ends in the trace, of one routine or of all, and the listed routines in stage 3 before are together as
-- many as those in stage 3 behind: a turn's last step alone may have an end as its event, and it does where the turn leaves its routine in
-- stage 3.
use Prim.Native.Nat.{ℕ, ◌+◌, ◌<◌}
use mathlib.Core.Path.{◌≡◌, refl, sym, ap, ◌∙◌}
use mathlib.Core.Bool.{Bool, true, false, ◌&&◌, and-true, and-false}
use mathlib.Core.List.{List, [], ◌∷◌, ◌++◌}
use mathlib.Core.Logic.{◌↔◌, inl, inr, ◌≢◌}
use native.Mathlib.Omega.{arith}
use borrow.Author.Tests.{eq-eqb, ne_eqb, eqb-true}
use lib.Dec.{eqb}
use lib.ListN.{length}
use Rattle.std.specs.Prelude.{if◌then◌else◌}
use Rattle.numbers.specs.Counting.{sum_over, how_many, Somewhere, Among}
use Rattle.numbers.proofs.Tests.{clash}
use Rattle.kinds.specs.declared.Counts.{Counts}
use Rattle.layout.specs.Layout.{routines_of}
use Rattle.book.specs.Accepted.{Accepted}
use Rattle.game.specs.declared.Routine.{Routine}
use Rattle.game.specs.declared.Game.{Game}
use Rattle.game.specs.Game.{continuing, routine_at}
use Rattle.game.specs.Game as stage
use Rattle.fitting.specs.Fits.{Fits}
use Rattle.round.specs.declared.Ending.{Ending}
use Rattle.round.specs.declared.Position.{Position}
use Rattle.round.specs.State.{State, Event, gave, ended, missing, past, marked, completed}
use Rattle.round.specs.Actions.{kept, at_start}
use Rattle.round.specs.Rounds.{stage_after, listed_in, ticks_of, turn, trace_of, state_after}
use Rattle.round.specs.claims.Demand.{ends_routine}
use Rattle.round.specs.claims.Sound.{Sound}
use Rattle.round.proofs.Acts.{Stops, ends, rests, misses, continues}
use Rattle.round.proofs.Counting.{one}
use Rattle.round.proofs.Sums.{own_sum, none_sum, alone_sum, kept_sum}
use Rattle.round.proofs.Traces.{none_of_all, many_append, no_event}
use Rattle.round.proofs.After.{round_along}
use Rattle.round.proofs.StartSound.{listed_distinct, among_listed, listed_stage}
use Rattle.round.proofs.Coming.{turn_untouched}
use Rattle.round.proofs.AfterTurn.{going_parts, turn_by, routine_after}
use Rattle.round.proofs.Outcomes.{turn_shape}
use Rattle.round.proofs.Turned.{turn_turned}

-- routine r is in stage 3
abbrev is_ended : State → ℕ → Bool
is_ended s r = eqb (routine_at s.game r).stage stage.ended

-- a test of events that passes ends alone
module _ (test : Event → Bool) (only : (h : Event) → ends_routine h ≡ false → test h ≡ false) where
  no_end_lem : (events : List Event) → how_many ends_routine events ≡ 0 → how_many test events ≡ 0
  unfolding how_many
  no_end_lem [] e = refl
  no_end_lem (h ∷ events) e = let (first, rest) = none_of_all (ends_routine h) _ e in rw (only h first) (no_end_lem events rest)

  -- the end of its routine is an event of a last step if it leads to stage 3
  stops_in_trace :
      {counts : Counts} {r : ℕ} {steps : List ℕ} {x : Position} {s : State} {how : Ending} {y : Position} {events : List Event} →
      Stops counts r steps x s how y events → how_many test events ≡ one (test (ended r) && eqb (stage_after how) stage.ended)
  unfolding how_many
  stops_in_trace {r = r} ends = rw (and-true (test (ended r)))
  stops_in_trace {r = r} rests = rw (and-false (test (ended r)))
  stops_in_trace {r = r} {x = x} (misses {t = t} k h e) = rw (only (missing r x.place t) refl, and-false (test (ended r)))
  stops_in_trace {r = r} {x = x} (continues {t} k h e) = rw (only (missing r x.place t) refl, and-false (test (ended r)))

-- an event passes a test, and is P
some_event :
    (test : Event → Bool) (P : Event → Type 0) → ((h : Event) → test h ≡ true → P h) → (events : List Event) →
    0 < how_many test events → Somewhere P events
unfolding how_many
some_event test P such [] some = absurd (omega arith)
some_event test P such (h ∷ events) some = first (test h) (such h) (some_event test P such events) some
  where
    first :
        (t : Bool) → (t ≡ true → P h) → (0 < how_many test events → Somewhere P events) →
        0 < (if t then how_many test events + 1 else how_many test events) → Somewhere P (h ∷ events)
    first true now later k = inl (now refl)
    first false now later k = inr (later k)

-- an event is an end of routine q
abbrev ends_of : ℕ → Event → Bool
ends_of q (gave e k) = false
ends_of q (ended r) = eqb r q
ends_of q (missing r p t) = false
ends_of q (past r p t) = false
ends_of q (marked r n) = false
ends_of q (completed r p) = false

end_alone_lem : (q : ℕ) (h : Event) → ends_routine h ≡ false → ends_of q h ≡ false
end_alone_lem q (gave e k) n = refl
end_alone_lem q (ended r) n = clash refl n
end_alone_lem q (missing r p t) n = refl
end_alone_lem q (past r p t) n = refl
end_alone_lem q (marked r m) n = refl
end_alone_lem q (completed r p) n = refl

is_end_of : (q : ℕ) (h : Event) → ends_of q h ≡ true → h ≡ ended q
is_end_of q (gave e k) n = clash n refl
is_end_of q (ended r) n = ap ended (eqb-true r q n)
is_end_of q (missing r p t) n = clash n refl
is_end_of q (past r p t) n = clash n refl
is_end_of q (marked r m) n = clash n refl
is_end_of q (completed r p) n = clash n refl

-- routine r counts if it is in stage 3 and its end passes a test
abbrev counted : (Event → Bool) → State → ℕ → ℕ
counted test s r = one (test (ended r) && is_ended s r)

module _ (book : List ℕ) (a : Accepted book) (g : Game) (f : Fits book g) where
  -- the ends in a trace that pass a test are those of the listed routines that come to stage 3
  module _ (test : Event → Bool) (only : (h : Event) → ends_routine h ≡ false → test h ≡ false) where
    -- a turn has its routine's end as an event if it brings it to stage 3
    own_in_trace :
        (r : ℕ) (s : State) → r < routines_of book →
        how_many test (turn book r s).trace + counted test s r ≡ counted test (turn book r s).state r
    unfolding how_many
    own_in_trace r s l =
        let t = ticks_of book r s in
        let shape = turn_shape book a r s l in
        let events = ap (how_many test) shape.trace ∙ many_append test shape.before shape.last_events in
        let none = no_end_lem test only shape.before shape.no_end in
        turn_by book r s (λ p. how_many test p.trace + counted test s r ≡ counted test p.state r) (λ h. omega arith)
        (λ h.
        let now : (routine_at s.game r).stage ≡ continuing = (going_parts (routine_at s.game r).suspended _ h).1 in
        let after = ap (λ (x : Routine). x.stage) (routine_after r s t ((turn_untouched book r s).standings r) h) in
        rw (now, after, and-false (test (ended r))) (omega (arith, stops_in_trace test only shape.stops)))

    abbrev total : State → ℕ
    total s = sum_over (counted test s) (listed_in g)

    abbrev Claim : State → List Event → State → Type 0
    Claim s events u = how_many test events + total s ≡ total u

    claim_none : (s : State) → Claim s [] s
    unfolding how_many
    claim_none s = omega arith

    claim_both : (s u v : State) (b c : List Event) → Claim s b u → Claim u c v → Claim s (b ++ c) v
    claim_both s u v b c one two = omega (arith, many_append test b c)

    claim_turn :
        (r : ℕ) (s : State) → (r < routines_of book) × Among r (listed_in g) → Sound book s →
        Claim s (turn book r s).trace (turn book r s).state
    claim_turn r s (l, inside) ok =
        let u = (turn book r s).state in
        let others : (q : ℕ) → q ≢ r → counted test u q ≡ counted test s q =
        λ q n. ap (λ k. one (test (ended q) && eqb k stage.ended)) ((turn_turned book a r s l ok).standings.others q n).stage in
        own_sum (counted test s) (counted test u) r others _ (own_in_trace r s l) (listed_in g) (listed_distinct book g a f) inside

    -- at the start none of them is in stage 3
    round_in_trace : how_many test (trace_of book g) ≡ total (state_after book g)
    round_in_trace =
        let events = round_along book a g f Claim claim_none claim_both claim_turn claim_none in
        let none =
        none_sum (counted test (at_start g)) (listed_in g)
        (λ r h. rw (listed_stage book g a f r (among_listed book g a f r h), and-false (test (ended r)))) in
        omega (arith, events)

  pub ends_counted :
      how_many ends_routine (trace_of book g)
      ≡ length (kept (λ r. eqb (routine_at (state_after book g).game r).stage stage.ended) (listed_in g))
  ends_counted = round_in_trace ends_routine (λ h e. e) ∙ sym (kept_sum (is_ended (state_after book g)) (listed_in g))

  module _ (r : ℕ) (inside : Among r (listed_in g)) where
    own_counted : how_many (ends_of r) (trace_of book g) ≡ one (is_ended (state_after book g) r)
    own_counted =
        round_in_trace (ends_of r) (end_alone_lem r) ∙
        alone_sum (counted (ends_of r) (state_after book g)) r (λ q n. rw (ne_eqb q r n)) (listed_in g) (listed_distinct book g a f) inside ∙
        rw (eq-eqb r r refl)

    pub ended_in_trace : ((routine_at (state_after book g).game r).stage ≡ stage.ended) ↔ Somewhere (λ h. h ≡ ended r) (trace_of book g)
    ended_in_trace = (
      λ e.
          some_event (ends_of r) (λ h. h ≡ ended r) (is_end_of r) (trace_of book g)
          (rw (own_counted, eq-eqb (routine_at (state_after book g).game r).stage stage.ended e) (omega arith)),
      λ h. eqb-true _ _ (by (is_ended (state_after book g) r) own_counted h),
    )
      where
        by : (t : Bool) → how_many (ends_of r) (trace_of book g) ≡ one t → Somewhere (λ h. h ≡ ended r) (trace_of book g) → t ≡ true
        by true e h = refl
        by false e h = absurd (no_event (ends_of r) (λ h. h ≡ ended r) (λ h k. rw k (eq-eqb r r refl)) (trace_of book g) e h)
