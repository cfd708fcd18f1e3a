-- The steps of a turn lead its routine from position to position (Replays.antt): each is completed, or finds its thing missing, where the
-- routine then stands, and the turn halts where it has come to (Leaving.antt). The events of other routines move it nowhere.
use Prim.Native.Nat.{ℕ, ◌<◌, ◌≤◌}
use mathlib.Core.Path.{◌≡◌, refl, ◌∙◌}
use mathlib.Core.Bool.{false}
use mathlib.Core.List.{List, [], ◌∷◌, ◌++◌}
use borrow.Author.Tests.{eq-eqb}
use Rattle.numbers.specs.Counting.{how_many}
use Rattle.numbers.proofs.Tests.{clash}
use Rattle.kinds.specs.declared.Counts.{Counts}
use Rattle.kinds.specs.Steps.{steps_in}
use Rattle.layout.specs.Layout.{routines_of, counts_of}
use Rattle.directory.specs.Directory.{routine_steps}
use Rattle.book.specs.Accepted.{Accepted}
use Rattle.round.specs.declared.Ending.{Ending}
use Rattle.round.specs.declared.Position.{Position}
use Rattle.round.specs.declared.Effect.{Effect}
use Rattle.round.specs.State.{State, Event, gave, ended, missing, past, marked, completed}
use Rattle.round.specs.Ticks.{fresh, effect_on}
use Rattle.round.specs.Rounds.{Ticks, ticks}
use Rattle.round.specs.claims.Replay.{Contents, at_step, leads_to, made_of, contents_after, led_by, position_after}
use Rattle.round.specs.claims.Trace.{is_of}
use Rattle.round.proofs.Acts.{Says, silent, marks, gives, gives_number, finds, Stops, ends, rests, misses, continues}
use Rattle.round.proofs.Traces.{none_of_all}
use Rattle.round.proofs.Stepping.{ticks_by}
use Rattle.round.proofs.TurnSound.{leaves_inside}
use Rattle.round.proofs.NoEvents.{NoEvents}
use Rattle.round.proofs.Replays.{contents_of, Makes, makes_same, makes_both, tick_agrees}
use Rattle.round.proofs.Leaving.{Halted, halted_later, halted}

-- routine r
module _ (book : List ℕ) (r : ℕ) where
  -- a step that is completed, or whose thing is found missing, is not r's or is where r stands
  abbrev pub Here : Event → Position → Type 0
  Here (gave e k) x = Unit {0}
  Here (ended q) x = Unit {0}
  Here (missing q o t) x = q ≡ r → x.place ≡ o
  Here (past q o t) x = Unit {0}
  Here (marked q n) x = Unit {0}
  Here (completed q o) x = q ≡ r → x.place ≡ o

  abbrev pub InPlace : List Event → Contents → Position → Type 0
  InPlace [] c x = Unit {0}
  InPlace (h ∷ events) c x = Here h x × InPlace events (made_of book h c) (led_by book r h c x)

  -- some events, and then more
  position_append :
      (a b : List Event) (c : Contents) (x : Position) →
      position_after book r (a ++ b) c x ≡ position_after book r b (contents_after book a c) (position_after book r a c x)
  unfolding position_after contents_after
  position_append [] b c x = refl
  position_append (h ∷ a) b c x = position_append a b (made_of book h c) (led_by book r h c x)

  in_both :
      (a b : List Event) (c : Contents) (x : Position) →
      InPlace a c x → InPlace b (contents_after book a c) (position_after book r a c x) → InPlace (a ++ b) c x
  unfolding position_after contents_after
  in_both [] b c x one two = two
  in_both (h ∷ a) b c x one two = (one.0, in_both a b (made_of book h c) (led_by book r h c x) one.1 two)

  pub in_rest :
      (a b : List Event) (c : Contents) (x : Position) → InPlace (a ++ b) c x →
      InPlace b (contents_after book a c) (position_after book r a c x)
  unfolding position_after contents_after
  in_rest [] b c x all = all
  in_rest (h ∷ a) b c x all = in_rest a b (made_of book h c) (led_by book r h c x) all.1

  -- the first leads to position y and contents d, and the rest goes on from there
  pub walked :
      (a b : List Event) (c d : Contents) (x y : Position) → d ≡ contents_after book a c → position_after book r a c x ≡ y →
      InPlace a c x → InPlace b d y → InPlace (a ++ b) c x × (position_after book r (a ++ b) c x ≡ position_after book r b d y)
  walked a b c d x y made led one two = (
    in_both a b c x one (rw (← made, led) two),
    position_append a b c x ∙ rw (← made, led),
  )

  -- the events move r nowhere
  abbrev Still : List Event → Type 0
  Still events = (c : Contents) (x : Position) → InPlace events c x × (position_after book r events c x ≡ x)

  -- the events of a step of any routine beside that it is completed
  says_still :
      {counts : Counts} {q : ℕ} {steps : List ℕ} {z : Position} {s : State} {e : Effect} {events : List Event} →
      Says counts q steps z s e events → Still events
  unfolding position_after
  says_still (silent g o) c x = (tt, refl)
  says_still (marks o) c x = ((tt, tt), refl)
  says_still (gives o) c x = ((tt, tt), refl)
  says_still (gives_number o) c x = ((tt, tt), refl)
  says_still (finds g o k h) c x = ((tt, tt), refl)

  -- events of others alone
  pub no_events_still : (events : List Event) → NoEvents r events → Still events
  unfolding how_many position_after
  no_events_still [] none c x = (tt, refl)
  no_events_still (h ∷ events) none c x =
      let (off, others) = none_of_all (is_of r h) (how_many (is_of r) events) none in
      let (here, stays) = not_of h off in
      let (rest, still) = no_events_still events others (made_of book h c) x in
      rw (stays c x) ((here x, rest), still)
    where
      not_of :
          (h : Event) → is_of r h ≡ false →
          ((x : Position) → Here h x) × ((c : Contents) (x : Position) → led_by book r h c x ≡ x)
      not_of (gave e k) n = (λ x. tt, λ c x. refl)
      not_of (ended q) n = (λ x. tt, λ c x. refl)
      not_of (missing q o t) n = (λ x e. clash (eq-eqb q r e) n, λ c x. refl)
      not_of (past q o t) n = (λ x. tt, λ c x. refl)
      not_of (marked q m) n = (λ x. tt, λ c x. refl)
      not_of (completed q o) n = (λ x e. clash (eq-eqb q r e) n, λ c x. rw n)

  -- the steps of a turn of its own, of an accepted book
  module _ (a : Accepted book) (below : r < routines_of book) where
    abbrev steps : List ℕ
    steps = routine_steps book r

    abbrev Own : Position → State → Ticks → Type 0
    Own x s t =
        Makes book s t.trace t.state ×
        (x.place ≤ steps_in steps →
        InPlace t.trace (contents_of s) x ×
        Halted book r t.trace (position_after book r t.trace (contents_of s) x) t.ending t.position)

    -- one that goes on, and one that halts the turn
    goes_own :
        (x : Position) (s : State) (q : ℕ) (events : List Event) →
        q ≡ at_step (leads_to steps x.place) steps x.place s.game.counters → Still events →
        InPlace (completed r x.place ∷ events) (contents_of s) x ×
        (position_after book r (completed r x.place ∷ events) (contents_of s) x ≡ fresh q)
    unfolding position_after
    goes_own x s q events leads silence =
        let (in_place, still) = silence (made_of book (completed r x.place) (contents_of s)) (fresh q) in
        rw (eq-eqb r r refl, ← leads) (((λ e. refl), in_place), still)

    stops_own :
        (x : Position) (s : State) {how : Ending} {y : Position} {events : List Event} →
        Stops (counts_of book) r steps x s how y events → Halted book r events x how y →
        InPlace events (contents_of s) x × Halted book r events (position_after book r events (contents_of s) x) how y
    unfolding position_after
    stops_own x s ends h = ((tt, tt), h)
    stops_own x s rests h = (tt, h)
    stops_own x s (misses k m e) h = (((λ d. refl), tt), h)
    stops_own x s (continues k m e) h = (((λ d. refl), tt), h)

    pub own_ticks : (n : ℕ) (x : Position) (s : State) → Own x s (ticks n (counts_of book) r steps x s)
    unfolding position_after contents_after
    own_ticks =
        ticks_by (counts_of book) r steps Own
        (λ x s q e events t same leaves right says (makes, later).
        let now = completed r x.place ∷ events in
        let (leads, first) = tick_agrees book r x s same in (
          makes_both book s (effect_on e s) t.state now t.trace first makes,
          λ inside.
              let (others, stop) = later (leaves_inside book a r below x q leaves) in
              let (one, led) = goes_own x s q events leads (says_still says) in
              let (all, to) = walked now t.trace (contents_of s) _ x (fresh q) first led one others in
              (all, rw to (halted_later book r now t.trace _ t.ending t.position stop)),
        ))
        (λ x s how y events same stays stops.
        (tick_agrees book r x s same, λ inside. stops_own x s stops (halted book r x s a below inside same)))
        (λ x s. (makes_same book s, λ inside. (tt, refl)))
