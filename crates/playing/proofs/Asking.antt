-- What passes ask is so for an accepted book, from every sound state behind whose passes there is room for the numbers given and for what
-- is cut off. The book's routines and their steps lie within it. Neither is ever taken back, so there is room behind each turn. A turn
-- leaves a game that fits, so the tables have room for where its routine stands.
use Prim.Native.Nat.{ℕ, zero, suc, ◌<◌}
use mathlib.Core.Path.{◌≡◌, refl, ap}
use mathlib.Core.Bool.{false, not}
use mathlib.Core.List.{List, [], ◌∷◌}
use native.Mathlib.Omega.{arith}
use Rattle.std.specs.Prelude.{Option, Some}
use Rattle.numbers.specs.Numbers.{word_limit}
use Rattle.numbers.specs.Counting.{All}
use Rattle.numbers.proofs.Tests.{by_flag, clash}
use Rattle.kinds.specs.declared.Kind.{Kind}
use Rattle.kinds.proofs.Readable.{step_below}
use Rattle.kinds.proofs.Rows.{kind_at_lem}
use Rattle.forms.specs.Timed.{Timed, rest_for, wait_for, join_for}
use Rattle.layout.specs.Layout.{routines_of, counts_of}
use Rattle.directory.specs.Directory.{routine_steps, routine_step}
use Rattle.directory.proofs.Directory.{routine_end}
use Rattle.book.specs.Accepted.{Accepted}
use Rattle.book.proofs.Routines.{routine_within}
use Rattle.game.specs.Game.{routine_at}
use Rattle.round.specs.declared.Ending.{Ending}
use Rattle.round.specs.declared.Position.{Position}
use Rattle.round.specs.State.{State}
use Rattle.round.specs.Actions.{position_of}
use Rattle.round.specs.Rounds.{with_end, after_turn, all_done, for_next_pass, ticks_of, turn, pass, instant}
use Rattle.round.specs.claims.Sound.{Sound}
use Rattle.round.proofs.Coming.{turn_untouched}
use Rattle.round.proofs.AfterTurn.{end_keeps, turn_taken, position_after_lem}
use Rattle.round.proofs.TurnSound.{turn_sound, next_pass_sound}
use Rattle.round.proofs.Given.{pass_gives, instant_gives}
use Rattle.round.proofs.After.{pass_keeps}
use Rattle.round.proofs.Lost.{pass_rises, instant_rises}
use Rattle.ticking.specs.Acts.{Within}
use Rattle.ticking.proofs.Accepting.{steps_decode, steps_within}
use Rattle.passing.specs.Turns.{Roomy, PositionFits, Ready, is_passed_over}
use Rattle.passing.specs.Passes.{PassAsks, PassesAsk}

-- the n of a timed step
timed_within : {st : Option Kind} {n : ℕ} → Timed st n → ((k : Kind) → st ≡ Some k → Within k) → n < word_limit
timed_within rest_for within = within _ refl
timed_within wait_for within = (within _ refl).1
timed_within join_for within = (within _ refl).1

-- a routine's end gives no number and cuts nothing off
end_roomy : {room : ℕ} (how : Ending) (r : ℕ) (s : State) → Roomy room (with_end how r s) → Roomy room s
end_roomy {room} how r s = end_keeps (λ u. Roomy room u → Roomy room s) how r s (λ on. on) (λ h. h)

module _ (book : List ℕ) (a : Accepted book) where
  -- routine r of the book
  module _ (r : ℕ) (below : r < routines_of book) where
    pub ready : Ready book r
    ready =
        let counts = a.laid.counts in
        let size = a.laid.offsets.size in
        record {
          below = omega (arith, below, counts.few_routines);
          entry = omega (arith, below, size);
          steps = omega (arith, routine_end book a.directed.entries a.directed.total size r below);
          playable =
              record {
                counts = counts_of book;
                decodes = steps_decode book a r below;
                within = steps_within book a r below;
                few_routines = counts.few_routines;
                few_signals = counts.few_signals;
                few_counters = counts.few_counters;
              };
          counted = refl;
        }

    step_within_lem : (p : ℕ) (k : Kind) → routine_step book r p ≡ Some k → Within k
    step_within_lem p k e =
        let steps = routine_steps book r in
        let inside = step_below (counts_of book) steps p e in
        rw (kind_at_lem (counts_of book) steps p e) at (steps_within book a r below p inside)

    -- where a turn leaves it
    module _ (s : State) (sound : Sound book s) (on : is_passed_over s r ≡ false) where
      behind : Sound book (after_turn r (ticks_of book r s))
      behind = rw (turn_taken book r s (ap not on)) at (turn_sound book a r s below sound)

      turn_position : PositionFits (ticks_of book r s).position
      turn_position =
          let t = ticks_of book r s in
          let y = t.position in
          let here : position_of (routine_at (after_turn r t).game r) ≡ y =
          position_after_lem r s t ((turn_untouched book r s).standings r) (ap not on)
          in
          let place = ap (λ (p : Position). p.place) here in
          let left = ap (λ (p : Position). p.left) here in
          let begun = ap (λ (p : Position). p.begun) here in
          let f = behind.fits in
          record {
            place_fits = omega (arith, place, f.places_in_range r below, routine_within book a r below, a.laid.counts.few_steps);
            left_fits =
                by_flag y.begun
                (λ b.
                let (n, timed, few) = f.left_where_begun r below (rw begun b) in
                omega (arith, left, few, timed_within timed (step_within_lem _)))
                (λ b. omega (arith, left, f.left_elsewhere r below (rw begun b)));
          }

  module _ (room : ℕ) where
    turn_roomy : (r : ℕ) (s : State) → is_passed_over s r ≡ false → Roomy room (turn book r s).state → Roomy room (ticks_of book r s).state
    turn_roomy r s on h =
        let t = ticks_of book r s in
        let taken = rw (turn_taken book r s (ap not on)) at h in
        end_roomy t.ending r _ taken

    pub pass_asks :
        (rs : List ℕ) → All (λ r. r < routines_of book) rs → (s : State) → Sound book s → Roomy room (pass book rs s).state →
        PassAsks room book rs s
    unfolding PassAsks pass
    pass_asks [] l s sound h = tt
    pass_asks (r ∷ rs) l s sound h =
        let u = (turn book r s).state in
        let here : Roomy room u = (omega (arith, h.0, pass_gives book rs u), omega (arith, h.1, pass_rises book rs u)) in (
          λ on. record { roomy = turn_roomy r s on here; position = turn_position r l.0 s sound on },
          pass_asks rs l.1 u (turn_sound book a r s l.0 sound) h,
        )

    module _ (rs : List ℕ) (l : All (λ r. r < routines_of book) rs) where
      pub passes_ask : (n : ℕ) (s : State) → Sound book s → Roomy room (instant book n rs s).played.state → PassesAsk room book n rs s
      unfolding instant PassesAsk
      passes_ask zero s sound h = tt
      passes_ask (suc n) s sound h =
          let u = (pass book rs s).state in
          by_flag (all_done (pass book rs s).turns)
          (λ done. (pass_asks rs l s sound (rw done at h), λ e. clash done e))
          (λ more.
          let later = rw more at h in
          let next = for_next_pass u in
          let here : Roomy room u =
          (omega (arith, later.0, instant_gives book n rs next), omega (arith, later.1, instant_rises book n rs next))
          in
          (pass_asks rs l s sound here, λ e. passes_ask n (for_next_pass u) (next_pass_sound u (pass_keeps book a rs l s sound).0) later))
