-- A trace is true in its order: a try finds its thing if the thing is known at first or came before the try, and misses it if not. It
-- holds of one stretch after another, of each step, since a step tries in the state that it is taken in, and so of a turn. What a step
-- brings and keeps is what it carries (Coming.antt).
use Prim.Native.Nat.{ℕ}
use mathlib.Core.Path.{◌≡◌, refl, sym, ◌∙◌}
use mathlib.Core.Bool.{Bool, true, false}
use mathlib.Core.List.{List, [], ◌∷◌, ◌++◌}
use mathlib.Core.Logic.Iff
use mathlib.Core.Logic.{◌↔◌, ◌⊎◌, inl, inr, ⊎_map, ⊎_elim}
use Rattle.numbers.specs.Counting.{how_many, Somewhere}
use Rattle.numbers.proofs.Tests.{clash}
use Rattle.layout.specs.Layout.{counts_of}
use Rattle.directory.specs.Directory.{routine_steps}
use Rattle.book.specs.Accepted.{Accepted}
use Rattle.round.specs.declared.Position.{Position}
use Rattle.round.specs.declared.Ending.{Ending}
use Rattle.round.specs.declared.Effect.{Effect}
use Rattle.round.specs.State.{State, Thing, Event, gave, ended, missing, past, marked, completed, is_there}
use Rattle.round.specs.Ticks.{effect_on}
use Rattle.round.specs.Rounds.{ticks, turn}
use Rattle.round.specs.claims.Demand.{ends_routine, Comes}
use Rattle.round.specs.claims.Sound.{Sound}
use Rattle.round.proofs.Acts.{Right, Says, Stops}
use Rattle.round.proofs.Among.{somewhere_append, in_first, in_second}
use Rattle.round.proofs.Traces.{says_none}
use Rattle.round.proofs.Stepping.{ticks_by}
use Rattle.round.proofs.Standings.{StillThere}
use Rattle.round.proofs.Coming.{goes_carries, all_brought}
use Rattle.round.proofs.EffectSound.{effect_sound}
use Rattle.round.proofs.AfterTurn.{turn_by}

-- what a try says of the things that are known before it
abbrev Holds : (Thing → Type 0) → Event → Type 0
Holds P (gave e k) = Unit {0}
Holds P (ended r) = Unit {0}
Holds P (missing r p t) = P t → ⊥
Holds P (past r p t) = P t
Holds P (marked r n) = Unit {0}
Holds P (completed r p) = Unit {0}

-- the things known at first and what comes by this; and what comes somewhere in a trace
abbrev With : (Thing → Type 0) → Event → Thing → Type 0
With P h t = P t ⊎ Comes t h

abbrev Since : (Thing → Type 0) → List Event → Thing → Type 0
Since P events t = P t ⊎ Somewhere (Comes t) events

-- each try of a trace holds of the things known at first and those that came before it
abbrev pub InOrder : (Thing → Type 0) → List Event → Type 0
InOrder P [] = Unit {0}
InOrder P (h ∷ events) = Holds P h × InOrder (With P h) events

-- of the same things the same holds
holds_same : (P Q : Thing → Type 0) → ((t : Thing) → P t ↔ Q t) → (h : Event) → Holds P h → Holds Q h
holds_same P Q same (gave e k) x = tt
holds_same P Q same (ended r) x = tt
holds_same P Q same (missing r p t) x = λ y. x ((same t).1 y)
holds_same P Q same (past r p t) x = (same t).0 x
holds_same P Q same (marked r n) x = tt
holds_same P Q same (completed r p) x = tt

-- the same, or a third
same_or : {A B C : Type 0} → A ↔ B → (A ⊎ C) ↔ (B ⊎ C)
same_or (f, g) = (⊎_map f (λ c. c), ⊎_map g (λ c. c))

order_same : (P Q : Thing → Type 0) → ((t : Thing) → P t ↔ Q t) → (events : List Event) → InOrder P events → InOrder Q events
order_same P Q same [] o = tt
order_same P Q same (h ∷ events) o = (
  holds_same P Q same h o.0,
  order_same (With P h) (With Q h) (λ t. same_or (same t)) events o.1,
)

none_since : {A : Type 0} → (A ⊎ ⊥) ↔ A
none_since = (⊎_elim (λ a. a) (λ n. absurd n), inl)

regroup : {A B C : Type 0} → ((A ⊎ B) ⊎ C) ↔ (A ⊎ (B ⊎ C))
regroup = (⊎_elim (⊎_map (λ a. a) inl) (λ c. inr (inr c)), ⊎_elim (λ a. inl (inl a)) (⊎_map inr (λ c. c)))

-- one trace after another
order_append : (P : Thing → Type 0) (a b : List Event) → InOrder P a → InOrder (Since P a) b → InOrder P (a ++ b)
order_append P [] b o p = order_same (Since P []) P (λ t. none_since) b p
order_append P (h ∷ a) b o p = (
  o.0,
  order_append (With P h) a b o.1 (order_same (Since P (h ∷ a)) (Since (With P h) a) (λ t. Iff.symm regroup) b p),
)

since_append : (P : Thing → Type 0) (a b : List Event) (t : Thing) → Since (Since P a) b t ↔ Since P (a ++ b) t
since_append P a b t =
    let some = ⊎_elim (in_first (Comes t) a b) (in_second (Comes t) a b) in
    Iff.trans regroup (⊎_map (λ k. k) some, ⊎_map (λ k. k) (somewhere_append (Comes t) a b))

-- what a try says that stands somewhere in a trace
pub order_at :
    (P : Thing → Type 0) (before after : List Event) (h : Event) → InOrder P (before ++ (h ∷ after)) → Holds (Since P before) h
order_at P [] after h o = holds_same P (Since P []) (λ t. Iff.symm none_since) h o.0
order_at P (x ∷ before) after h o =
    holds_same (Since (With P x) before) (Since P (x ∷ before)) (λ t. regroup) h (order_at (With P x) before after h o.1)

-- the things that are there in a state
abbrev pub There : State → Thing → Type 0
There s t = is_there s t ≡ true

-- state u comes of state s, with these events between them
pub record Becomes (s : State) (events : List Event) (u : State) : Type 0 where
  pub there : (t : Thing) → There u t ↔ Since (There s) events t
  pub order : InOrder (There s) events

-- a try that holds of what is there holds of what was there before and has come
order_then :
    {s u : State} (a b : List Event) → Becomes s a u → InOrder (There u) b → InOrder (There s) (a ++ b)
order_then {s} {u} a b first o = order_append (There s) a b first.order (order_same (There u) (Since (There s) a) first.there b o)

pub becomes_both : (s u v : State) (a b : List Event) → Becomes s a u → Becomes u b v → Becomes s (a ++ b) v
becomes_both s u v a b first then =
    record {
      there = λ t. Iff.trans (then.there t) (Iff.trans (same_or (first.there t)) (since_append (There s) a b t));
      order = order_then a b first then.order;
    }

-- where there are no events the same things are there
pub becomes_same : {s u : State} → ((t : Thing) → is_there u t ≡ is_there s t) → Becomes s [] u
becomes_same same = record { there = λ t. (λ k. inl (sym (same t) ∙ k), ⊎_elim (λ k. same t ∙ k) (λ n. absurd n)); order = tt }

-- by what stays, what comes and what is new
pub becomes_by :
    {s u : State} {events : List Event} → StillThere s u → ((t : Thing) → Somewhere (Comes t) events → There u t) →
    ((t : Thing) → is_there s t ≡ false → There u t → Somewhere (Comes t) events) → InOrder (There s) events → Becomes s events u
becomes_by {s} keeps brings came order =
    record { there = λ t. (λ k. there_or (is_there s t) (λ n. came t n k), ⊎_elim (keeps t) (brings t)); order = order }
  where
    there_or : {A : Type 0} (b : Bool) → (b ≡ false → A) → (b ≡ true) ⊎ A
    there_or true h = inl refl
    there_or false h = inr (h refl)

module _ (book : List ℕ) (a : Accepted book) where
  -- the turns of routine r
  module _ (r : ℕ) where
    abbrev steps : List ℕ
    steps = routine_steps book r

    -- the events of a step that goes on, and of one that halts the turn
    says_order :
        (x : Position) (s : State) {e : Effect} {events : List Event} → Says (counts_of book) r steps x s e events →
        InOrder (There s) (completed r x.place ∷ events)
    says_order x s (Says.silent h o) = (tt, tt)
    says_order x s (Says.marks o) = (tt, (tt, tt))
    says_order x s (Says.gives o) = (tt, (tt, tt))
    says_order x s (Says.gives_number o) = (tt, (tt, tt))
    says_order x s (Says.finds h o q k) = (tt, (inl k, tt))

    stop_order :
        (x : Position) (s : State) {how : Ending} {y : Position} {events : List Event} → Stops (counts_of book) r steps x s how y events →
        InOrder (There s) events
    stop_order x s Stops.ends = (tt, tt)
    stop_order x s Stops.rests = tt
    stop_order x s (Stops.misses q m e) = ((λ h. clash h m), tt)
    stop_order x s (Stops.continues q m e) = ((λ h. clash h m), tt)

    step_becomes :
        (x : Position) (s : State) (e : Effect) (events : List Event) → Right (counts_of book) s e →
        Says (counts_of book) r steps x s e events → Sound book s → Becomes s (completed r x.place ∷ events) (effect_on e s)
    unfolding how_many
    step_becomes x s e events right says ok =
        let c = goes_carries (counts_of book) r steps a.laid.counts.few_signals x s e events right says in
        let no_end = says_none ends_routine (λ n. refl) (λ b k. refl) (λ t. refl) says in
        becomes_by c.keeps (all_brought c ok.present no_end) c.came (says_order x s says)

    -- the steps of a turn
    ticks_order :
        (n : ℕ) (x : Position) (s : State) → Sound book s →
        InOrder (There s) (ticks n (counts_of book) r steps x s).trace
    ticks_order =
        ticks_by (counts_of book) r steps (λ x s t. Sound book s → InOrder (There s) t.trace)
        (λ x s q e events t same leaves right says rest ok.
        order_then (completed r x.place ∷ events) t.trace (step_becomes x s e events right says ok)
        (rest (effect_sound book a s e right ok)))
        (λ x s how y events same stays stops ok. stop_order x s stops) (λ x s ok. tt)

  pub turn_order : (r : ℕ) (s : State) → Sound book s → InOrder (There s) (turn book r s).trace
  turn_order r s ok = turn_by book r s (λ p. InOrder (There s) p.trace) (λ h. tt) (λ h. ticks_order r _ _ s ok)
