-- A turn leaves a sound state sound. Each of its steps keeps the state sound by its effect, and the last one leaves a position that fitting
-- allows. The turn then puts its routine there, in a stage of a listed routine.
use Prim.Native.Nat.{ℕ, ◌<◌, ◌≤◌}
use mathlib.Core.Path.{◌≡◌, ◌∙◌}
use mathlib.Core.Bool.{true}
use mathlib.Core.List.{List}
use mathlib.Core.Logic.{◌⊎◌, inl, inr}
use native.Mathlib.Omega.{arith}
use lib.ListN.{length-set}
use Rattle.kinds.specs.Steps.{steps_in}
use Rattle.blocks.proofs.Views.{standing_below}
use Rattle.layout.specs.Layout.{routines_of, counts_of}
use Rattle.directory.specs.Directory.{routine_steps}
use Rattle.book.specs.Accepted.{Accepted}
use Rattle.game.specs.Game.{not_started, continuing, ended, stopped, routine_at, with_routine}
use Rattle.orders.proofs.Changed.{routine_fits_lem}
use Rattle.round.specs.declared.Ending.{Ending}
use Rattle.round.specs.declared.Ending.TheVariants.{Ended, Rested, Missed, Continued}
use Rattle.round.specs.declared.Position.{Position}
use Rattle.round.specs.State.{State, with_game}
use Rattle.round.specs.Actions.{position_of}
use Rattle.round.specs.Rounds.{ticks, most_ticks, stage_after, with_end, behind_turn, for_next_pass, ticks_of, turn}
use Rattle.round.specs.claims.Sound.{Sound}
use Rattle.round.proofs.Leads.{Leaves, leads, rest_over}
use Rattle.round.proofs.Acts.{Stands}
use Rattle.round.proofs.Tries.{fresh_stands}
use Rattle.round.proofs.Stepping.{ticks_by}
use Rattle.round.proofs.Falls.{leads_inside}
use Rattle.round.proofs.Parsed.{size_same, parse_of, parse_pauses}
use Rattle.round.proofs.Coming.{turn_untouched}
use Rattle.round.proofs.AfterTurn.{going_parts, end_keeps, turn_by}
use Rattle.round.proofs.EffectSound.{game_sound, effect_sound}

-- the stages in which a turn leaves its routine
stage_after_lem : (h : Ending) → (continuing ≤ stage_after h) × (stage_after h ≤ ended)
stage_after_lem Ended = (omega arith, omega arith)
stage_after_lem Rested = (omega arith, omega arith)
stage_after_lem Missed = (omega arith, omega arith)
stage_after_lem Continued = (omega arith, omega arith)

-- none of them is the stage of a routine that is not listed
not_unlisted : {stage : ℕ} → continuing ≤ stage → stage ≤ ended → (stage ≡ not_started) ⊎ (stage ≡ stopped) → ⊥
not_unlisted low high (inl e) = omega arith
not_unlisted low high (inr e) = omega arith

-- a routine's end is in the flags, which stay as many
end_sound : {book : List ℕ} (r : ℕ) {s : State} → Sound book s → Sound book (with_end Ended r s)
end_sound r {s} h =
    record {
      fits = h.fits;
      present = h.present;
      end_signals = length-set s.end_signals r true ∙ h.end_signals;
      numbers = h.numbers;
    }

pub next_pass_sound : {book : List ℕ} (s : State) → Sound book s → Sound book (for_next_pass s)
next_pass_sound s h =
    record { fits = h.fits; present = h.present; end_signals = h.end_signals; numbers = h.numbers }

-- routine r of the book
module _ (book : List ℕ) (a : Accepted book) (r : ℕ) (below : r < routines_of book) (s : State) (h : Sound book s) where
  -- in a game that fits it stands where it may
  sound_stands : Stands (counts_of book) (routine_steps book r) (position_of (routine_at s.game r))
  sound_stands =
      record {
        inside = omega (arith, h.fits.places_in_range r below, size_same book a r below);
        where_begun = h.fits.left_where_begun r below;
        elsewhere = h.fits.left_elsewhere r below;
      }

  -- if it is to be continued, it may be as a turn leaves it that ends where it may stand
  sound_behind :
      (how : Ending) (y : Position) → (routine_at s.game r).stage ≡ continuing → Stands (counts_of book) (routine_steps book r) y →
      Sound book (with_game s (with_routine s.game r (behind_turn (routine_at s.game r) how y)))
  sound_behind how y before stand =
      let f = h.fits in
      let g = s.game in
      let x = behind_turn (routine_at g r) how y in
      let (low, high) = stage_after_lem how in
      game_sound h (with_routine g r x) (routine_fits_lem a.laid.counts f r x below (
        record {
          stage = omega arith;
          place = omega (arith, stand.inside, size_same book a r below);
          listed = λ way. f.listed_stages r below (inl before);
          unlisted = λ out. absurd (not_unlisted low high out);
          begun = stand.where_begun;
          not_begun = stand.elsewhere;
        },
        λ due. absurd (omega (arith, f.start_stages r due, before)),
      ))

module _ (book : List ℕ) (a : Accepted book) where
  module _ (r : ℕ) (below : r < routines_of book) where
    abbrev steps : List ℕ
    steps = routine_steps book r

    -- a step that goes on leads to a place of the routine
    pub leaves_inside : (x : Position) (q : ℕ) → Leaves (counts_of book) steps x q → q ≤ steps_in steps
    leaves_inside x q (leads l) = leads_inside (counts_of book) steps (parse_of book a r below) (parse_pauses book a r below) x.place q l
    leaves_inside x q (rest_over begun form) = omega (arith, standing_below (counts_of book) steps (steps_in steps) x.place form)

    -- the steps of a turn keep a sound state sound, and leave the routine where it may stand
    ticks_stay :
        (n : ℕ) (x : Position) (s : State) → Stands (counts_of book) steps x → Sound book s →
        let t = ticks n (counts_of book) r steps x s in
        Stands (counts_of book) steps t.position × Sound book t.state
    ticks_stay =
        ticks_by (counts_of book) r steps
        (λ x s t. Stands (counts_of book) steps x → Sound book s → Stands (counts_of book) steps t.position × Sound book t.state)
        (λ x s q e events t same leaves right says rest stand h.
        rest (fresh_stands (counts_of book) steps q (leaves_inside x q leaves)) (effect_sound book a s e right h))
        (λ x s how y events same stays stops stand h. (stays stand, h))
        (λ x s stand h. (stand, h))

  pub turn_sound : (r : ℕ) (s : State) → r < routines_of book → Sound book s → Sound book (turn book r s).state
  turn_sound r s below h =
      let x = routine_at s.game r in
      let t = ticks_of book r s in
      let n = most_ticks (routine_steps book r) in
      let (stand, sound) = ticks_stay r below n (position_of x) s (sound_stands book a r below s h) h in
      turn_by book r s (λ p. Sound book p.state) (λ k. h)
      (λ k.
      let stage = ((turn_untouched book r s).standings r).stage ∙ (going_parts x.suspended x.stage k).1 in
      end_keeps (Sound book) t.ending r _ (end_sound r)
      (sound_behind book a r below t.state sound t.ending t.position stage stand))
