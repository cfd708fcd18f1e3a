-- The catching up, argued backwards: of what still happens, each routine that is going and waits for a thing goes past it if the thing is
-- there or comes, and each try that found its thing missing owes the same. A turn before keeps that, and so does a pass before.
use Prim.Native.Nat.{ℕ}
use mathlib.Core.Path.{◌≡◌, refl, sym, ◌∙◌, subst}
use mathlib.Core.Bool.{true, false}
use mathlib.Core.List.{List, [], ◌∷◌, ◌++◌, append_assoc}
use mathlib.Core.Logic.{◌⊎◌, inl, inr, ◌≢◌}
use native.Mathlib.Decide.{ℕ_discrete}
use native.Mathlib.Omega.{arith}
use Rattle.numbers.specs.Counting.{All, how_many, Among, Somewhere}
use Rattle.numbers.proofs.Tests.{clash, by_flag}
use Rattle.round.specs.State.{State, Thing, Event, gave, ended, missing, past, marked, completed, is_there}
use Rattle.round.specs.Rounds.{PlayedTurns, for_next_pass, turn, pass}
use Rattle.round.specs.claims.Demand.{Comes, IsPast, here, later, CatchesUp}
use Rattle.round.specs.claims.Trace.{is_miss}
use Rattle.round.proofs.Among.{somewhere_append}
use Rattle.round.proofs.TurnLaws.{is_going, moves, Turned, others_going, Waits, waits_too, ToBeContinued, TurnLaws}
use Rattle.round.proofs.Traces.{moves_append, EachWith, each_at, nothing_comes}
use Rattle.round.proofs.Closing.{there_next_pass, waits_next_pass}

-- a missing thing does not come by being missing
pub never_missing : {t u : Thing} {r p : ℕ} → Comes t (missing r p u) → ⊥
unfolding how_many
never_missing {t} {u} {r} {p} c = nothing_comes t (missing r p u ∷ []) refl (inl c)

-- past a step in one of two traces
module _ {r p : ℕ} {t : Thing} where
  past_first : {a : List Event} (b : List Event) → IsPast r p t a → IsPast r p t (a ++ b)
  past_first b here = here
  past_first b (later w) = later (past_first b w)

  past_second : (a : List Event) {b : List Event} → IsPast r p t b → IsPast r p t (a ++ b)
  past_second [] w = w
  past_second (h ∷ a) w = later (past_second a w)

-- what an event owes of the rest
abbrev Owes : Event → List Event → Type 0
Owes (gave e k) events = Unit {0}
Owes (ended r) events = Unit {0}
Owes (missing r p t) events = Somewhere (Comes t) events → IsPast r p t events
Owes (past r p t) events = Unit {0}
Owes (marked r n) events = Unit {0}
Owes (completed r p) events = Unit {0}

abbrev pub Caught : List Event → Type 0
Caught = EachWith Owes

pub catches : (events : List Event) → Caught events → CatchesUp events
catches events c before after r p t e = each_at Owes before after (missing r p t) (subst Caught e c)

-- where nothing moves, nothing is owed
pub quiet_caught : (events : List Event) → moves events ≡ 0 → Caught events
quiet_caught [] m = tt
quiet_caught (h ∷ events) m = let z : moves events ≡ 0 = omega (arith, moves_append (h ∷ []) events) in (none h z, quiet_caught events z)
  where
    none : (h : Event) → moves events ≡ 0 → Owes h events
    none (gave e k) z = tt
    none (ended r) z = tt
    none (missing r p t) z = λ w. absurd (nothing_comes t events z w)
    none (past r p t) z = tt
    none (marked r n) z = tt
    none (completed r p) z = tt

-- where nothing is missed, nothing more is owed
calm_then : (a b : List Event) → how_many is_miss a ≡ 0 → Caught b → Caught (a ++ b)
unfolding how_many
calm_then [] b m c = c
calm_then (gave e k ∷ a) b m c = (tt, calm_then a b m c)
calm_then (ended r ∷ a) b m c = (tt, calm_then a b m c)
calm_then (missing r p t ∷ a) b m c = absurd (omega arith)
calm_then (past r p t ∷ a) b m c = (tt, calm_then a b m c)
calm_then (marked r n ∷ a) b m c = (tt, calm_then a b m c)
calm_then (completed r p ∷ a) b m c = (tt, calm_then a b m c)

module _ (book L : List ℕ) where
  -- what the waiting routines have before them in state s, where b still happens
  abbrev pub Owed : State → List Event → Type 0
  Owed s b =
      (r p : ℕ) (t : Thing) → Among r L → is_going s r ≡ true → Waits book s r p t → (is_there s t ≡ true) ⊎ Somewhere (Comes t) b →
      IsPast r p t b

  pub owed_next_pass : (s : State) (b : List Event) → Owed (for_next_pass s) b → Owed s b
  owed_next_pass s b f r p t i g w (inl h) = f r p t i g (waits_next_pass w) (inl (there_next_pass s t ∙ h))
  owed_next_pass s b f r p t i g w (inr c) = f r p t i g (waits_next_pass w) (inr c)

module _ {book : List ℕ} {Listed : ℕ → Type 0} {Ok : State → Type 0} (laws : TurnLaws book Listed Ok) (L : List ℕ) where
  module _ (r : ℕ) (s : State) (l : Listed r) (k : Ok s) (i : Among r L) (b : List Event) where
    -- the routine whose turn it is goes past, or misses again
    owed_own :
        s.eoi ≡ false → Owed book L (turn book r s).state b → (p : ℕ) (t : Thing) → is_going s r ≡ true → Waits book s r p t →
        (is_there s t ≡ true) ⊎ Somewhere (Comes t) ((turn book r s).trace ++ b) → IsPast r p t ((turn book r s).trace ++ b)
    owed_own e f p t g w c =
        by_flag (is_there s t) (λ h. past_first b (laws.goes_past r p t s l k g w h))
        (λ h.
        subst
        (λ (x : PlayedTurns).
        Owed book L x.state b → (is_there s t ≡ true) ⊎ Somewhere (Comes t) (x.trace ++ b) → IsPast r p t (x.trace ++ b))
        (sym (laws.unchanged r p t s l k g w h e)) (λ f c. later (f r p t i g w (inr (comes_later h c)))) f c)
      where
        comes_later : is_there s t ≡ false → (is_there s t ≡ true) ⊎ Somewhere (Comes t) (missing r p t ∷ b) → Somewhere (Comes t) b
        comes_later h (inl x) = clash x h
        comes_later h (inr (inl x)) = absurd (never_missing x)
        comes_later h (inr (inr x)) = x

    -- for another, what is there stays, and what comes is there
    owed_other :
        (q : ℕ) → q ≢ r → Owed book L (turn book r s).state b → (p : ℕ) (t : Thing) →
        Among q L → is_going s q ≡ true → Waits book s q p t → (is_there s t ≡ true) ⊎ Somewhere (Comes t) ((turn book r s).trace ++ b) →
        IsPast q p t ((turn book r s).trace ++ b)
    owed_other q n f p t j g w c =
        past_second (turn book r s).trace
        (f q p t j (others_going turned q n ∙ g) (waits_too book q p t s _ (turned.standings.others q n).position w) (came c))
      where
        turned : Turned r s (turn book r s).trace (turn book r s).state
        turned = laws.turned r s l k

        came :
            (is_there s t ≡ true) ⊎ Somewhere (Comes t) ((turn book r s).trace ++ b) →
            (is_there (turn book r s).state t ≡ true) ⊎ Somewhere (Comes t) b
        came (inl h) = inl (turned.keeps t h)
        came (inr x) =
            elim (somewhere_append (Comes t) (turn book r s).trace b x) [ inl y ↦ inl (turned.brings t y) | inr y ↦ inr y ]

    owed_turn :
        s.eoi ≡ false → Owed book L (turn book r s).state b → Owed book L s ((turn book r s).trace ++ b)
    owed_turn e f q p t j g w c =
        elim (ℕ_discrete q r) [
          | yes x ↦ rw x (owed_own e f p t (rw x at g) (rw x at w) c)
          | no n ↦ owed_other q n f p t j g w c
        ]

    caught_turn :
        s.eoi ≡ false → Owed book L (turn book r s).state b → Caught b → Caught ((turn book r s).trace ++ b)
    caught_turn e f c =
        by_flag (is_going s r)
        (λ g.
        by_flag (is_going (turn book r s).state r) (λ h. missed h (laws.continues r s l k g h).1)
        (λ h. calm_then (turn book r s).trace b (laws.calm r s l k g h e) c))
        (λ g. subst (λ (x : PlayedTurns). Caught (x.trace ++ b)) (sym (laws.over r s l k g)) c)
      where
        missed :
            is_going (turn book r s).state r ≡ true → ToBeContinued book r (turn book r s).state (turn book r s).trace →
            Caught ((turn book r s).trace ++ b)
        missed h x =
            let w = x.halt in
            let last = missing r w.place w.thing in
            subst (λ (a : List Event). Caught (a ++ b)) (sym x.trace)
            (subst Caught (sym (append_assoc x.before (last ∷ []) b))
            (calm_then x.before (last ∷ b) x.calm (λ z. f r w.place w.thing i h w.waits (inr z), c)))

  -- a pass before what is caught
  pub caught_pass :
      (l : List ℕ) → All Listed l → ((r : ℕ) → Among r l → Among r L) → (s : State) → Ok s → s.eoi ≡ false →
      (b : List Event) → Owed book L (pass book l s).state b → Caught b →
      Owed book L s ((pass book l s).trace ++ b) × Caught ((pass book l s).trace ++ b)
  unfolding pass
  caught_pass [] a sub s k e b f c = (f, c)
  caught_pass (r ∷ l) a sub s k e b f c =
      let first = turn book r s in
      let ok = laws.stays r s a.0 k in
      let rest = (pass book l first.state).trace in
      let (g, d) = caught_pass l a.1 (λ q i. sub q (inr i)) first.state ok ((laws.turned r s a.0 k).flags.eoi ∙ e) b f c in
      let i = sub r (inl refl) in
      subst (λ (h : List Event). Owed book L s h × Caught h) (sym (append_assoc first.trace rest b)) (
        owed_turn r s a.0 k i (rest ++ b) e g,
        caught_turn r s a.0 k i (rest ++ b) e g d,
      )
