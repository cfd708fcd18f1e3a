-- A round keeps that chains lead to the routines that have left stage 0 and to those to start. The eight actions change the stages of
-- those to start and of listed routines alone. A turn changes the stage of its own routine, which has left stage 0, and its steps add to
-- those to start only what that routine's start steps name.
use Prim.Native.Nat.{ℕ, ◌<◌}
use mathlib.Core.Path.{◌≡◌, sym, ap}
use mathlib.Core.Bool.{Bool}
use mathlib.Core.List.{List}
use mathlib.Core.Logic.{◌⊎◌, inl, inr, ⊎_elim}
use native.Mathlib.Omega.{arith}
use lib.ListN.{get_or-map}
use lib.IntN.{ℤ}
use Rattle.numbers.specs.Counting.{All}
use Rattle.verdicts.specs.Verdicts.{accepted}
use Rattle.layout.specs.Layout.{routines_of, counts_of}
use Rattle.directory.specs.Directory.{routine_steps}
use Rattle.book.specs.Accepted.{Accepted}
use Rattle.lines.specs.Lines.{entries_of}
use Rattle.game.specs.declared.Game.{Game}
use Rattle.game.specs.Game.{blank, routine_at}
use Rattle.fitting.specs.Fits.{In, Fits}
use Rattle.orders.proofs.Starts.{start_adds}
use Rattle.round.specs.declared.Effect.{Effect}
use Rattle.round.specs.declared.Effect.TheVariants.{Nothing, Mark, Put, Add, Give, GiveNumber, Start, Stop, Suspend, Resume}
use Rattle.round.specs.declared.Position.{Position}
use Rattle.round.specs.State.{State}
use Rattle.round.specs.Actions.{kept, in_stage1, in_stage4, without_orders, at_start}
use Rattle.round.specs.Ticks.{effect_on}
use Rattle.round.specs.Rounds.{ticks, ticks_of, turn, state_after}
use Rattle.round.specs.Answers.{answer}
use Rattle.round.proofs.Among.{all_append, among_all, each_among, all_kept}
use Rattle.round.proofs.Entries.{among_in, entries_below}
use Rattle.round.proofs.Listing.{lists_right, joined_entries}
use Rattle.round.proofs.Actions.{starts_of, joined_of, first, stops, stays, leaving, staying, halted, last}
use Rattle.round.proofs.Stepping.{ticks_by}
use Rattle.round.proofs.Effects.{effect_untouched}
use Rattle.round.proofs.EffectSound.{effect_sound}
use Rattle.round.proofs.AfterTurn.{going_parts, end_keeps, turn_by}
use Rattle.round.proofs.After.{round_along}
use Rattle.round.proofs.Reasons.{accepted_played}
use Rattle.unstarted.specs.Chains.{Chain}
use Rattle.round.specs.claims.Sound.{Sound}
use Rattle.never_started.proofs.StartSteps.{starts_by}
use Rattle.never_started.proofs.Reached.{Started, Reached, set_started, each_started, same_started}

-- a routine that is to start behind an effect was so before, or is the one that the effect starts
effect_starts :
    {book : List ℕ} {s : State} → Sound book s → (e : Effect) (r : ℕ) → In (effect_on e s).game.starting r →
    In s.game.starting r ⊎ (e ≡ Start r)
unfolding effect_on
effect_starts ok Nothing r h = inl h
effect_starts ok (Mark n) r h = inl h
effect_starts ok (Put c v) r h = inl h
effect_starts ok (Add c v) r h = inl h
effect_starts ok (Give e) r h = inl h
effect_starts ok (GiveNumber e v) r h = inl h
effect_starts {s = s} ok (Start t) r h =
    ⊎_elim inl (λ e. inr (ap Start (sym e))) ((start_adds s.game.starting t ok.fits.sized.starting _).only r h)
effect_starts ok (Stop t) r h = inl h
effect_starts ok (Suspend t) r h = inl h
effect_starts ok (Resume t) r h = inl h

module _ (book : List ℕ) (a : Accepted book) where
  effect_reached :
      (s : State) (e : Effect) → ((r : ℕ) → e ≡ Start r → Chain book r) → Sound book s → Reached book s.game →
      Reached book (effect_on e s).game
  effect_reached s e starts ok h =
      record {
        started = same_started book s.game (effect_on e s).game (λ r. ((effect_untouched s e).standings r).stage) h.started;
        starting = λ r i. ⊎_elim (h.starting r) (starts r) (effect_starts ok e r i);
      }

  module _ (r : ℕ) (below : r < routines_of book) where
    abbrev steps : List ℕ
    steps = routine_steps book r

    ticks_reached :
        Chain book r → (n : ℕ) (x : Position) (s : State) → Sound book s → Reached book s.game →
        Reached book (ticks n (counts_of book) r steps x s).state.game
    ticks_reached chain =
        ticks_by (counts_of book) r steps (λ x s t. Sound book s → Reached book s.game → Reached book t.state.game)
        (λ x s q e events t same leaves right says rest ok h.
        rest (effect_sound book a s e right ok)
        (effect_reached s e (λ i start. Chain.then chain (starts_by book a r below x s (rw start at same))) ok h))
        (λ x s how y events same stays stops ok h. h)
        (λ x s ok h. h)

    turn_reached : (s : State) → Sound book s → Reached book s.game → Reached book (turn book r s).state.game
    turn_reached s ok h =
        let x = routine_at s.game r in
        let t = ticks_of book r s in
        turn_by book r s (λ p. Reached book p.state.game) (λ over. h)
        (λ going.
        let stage = (going_parts x.suspended x.stage going).1 in
        let chain = h.started r (λ none. omega (arith, stage, none)) in
        let behind = ticks_reached chain _ _ s ok h in
        end_keeps (λ u. Reached book u.game) t.ending r _ (λ k. k)
        (record {
          started = set_started book t.state.game.routines r _ chain behind.started;
          starting = behind.starting;
        }))

  module _ (g : Game) (f : Fits book g) (h : Reached book g) where
    listed_chains : All (Chain book) (entries_of g.listed)
    listed_chains =
        let right = (lists_right book g f).0 in
        each_among (Chain book) (entries_of g.listed) (λ r i.
        let below = among_all (λ q. q < routines_of book) r (entries_of g.listed) (entries_below right) i in
        h.started r (λ e. f.unlisted_stages r below (inl e) (among_in right r i)))

    start_chains : All (Chain book) (starts_of g)
    start_chains = each_among (Chain book) (starts_of g) (λ r i. h.starting r (among_in (lists_right book g f).1 r i))

    joined_chains : All (Chain book) (joined_of g)
    joined_chains =
        rw (joined_entries book g a.laid.counts f)
        (all_append (Chain book) (entries_of g.listed) (starts_of g) listed_chains start_chains)

    kept_chains : (test : ℕ → Bool) → All (Chain book) (kept test (joined_of g))
    kept_chains test = all_kept test (Chain book) (joined_of g) joined_chains

    last_started : Started book (last g)
    last_started =
        each_started book in_stage1 (staying g) (kept_chains (stays g)) (halted g)
        (each_started book in_stage4 (leaving g) (kept_chains (stops g)) (first g)
        (each_started book in_stage1 (starts_of g) start_chains g.routines h.started))

    at_start_reached : Reached book (at_start g).game
    unfolding at_start
    at_start_reached =
        record {
          started = λ r. rw (get_or-map without_orders (last g) r blank) (last_started r);
          starting = λ r (i, inside, e). absurd (omega arith);
        }

    round_reached : Reached book (state_after book g).game
    round_reached =
        round_along book a g f (λ s events u. Reached book s.game → Reached book u.game) (λ s k. k)
        (λ s u v b c one two k. two (one k)) (λ r s (below, i) ok. turn_reached r below s ok) (λ s k. k) at_start_reached

pub answer_reached :
    (book : List ℕ) (g : Game) (buffer : List ℤ) → (answer book g buffer).verdict ≡ accepted → Reached book g →
    Reached book (answer book g buffer).game
answer_reached book g buffer e h =
    let ((a, fits, space), same) = accepted_played book g buffer e in
    rw same (round_reached book a g fits h)
