-- The steps of a turn of a routine of an accepted book, as they are taken, end as the walk of its steps does, with the marks of their
-- events. Step by step: each leads from a sound state to a sound one, and one that halts the turn has no mark as its event.
use Prim.Native.Nat.{ℕ, suc}
use mathlib.Core.Path.{◌≡◌, refl}
use mathlib.Core.List.{List, [], ◌++◌, append_assoc, append-nil}
use Rattle.kinds.specs.declared.Counts.{Counts}
use Rattle.layout.specs.Layout.{routines_of, counts_of}
use Rattle.directory.specs.Directory.{routine_steps}
use Rattle.book.specs.Accepted.{Accepted}
use Rattle.fitting.proofs.Decides.{fit_lists}
use Rattle.round.specs.declared.Ending.{Ending}
use Rattle.round.specs.declared.Position.{Position}
use Rattle.round.specs.State.{State, Event}
use Rattle.round.specs.Rounds.{Ticks, ticks}
use Rattle.round.specs.Answers.{marks_in}
use Rattle.round.specs.claims.Enough.{InTime}
use Rattle.round.specs.claims.Sound.{Sound}
use Rattle.round.proofs.Marks.{marks_append}
use Rattle.round.proofs.Acts.{Stops, ends, rests, misses, continues}
use Rattle.round.proofs.Stepping.{ticks_in_time}
use Rattle.round.proofs.EffectSound.{effect_sound}
use Rattle.rules.proofs.Walks.{Marks, HasRoom, Ends, halts, goes}

-- marks of some events, one behind the other
pub marks_then : (ms : Marks) (a b : List Event) → (ms ++ marks_in a) ++ marks_in b ≡ ms ++ marks_in (a ++ b)
marks_then ms a b = rw (append_assoc, ← marks_append)

unmarked :
    {counts : Counts} {r : ℕ} {steps : List ℕ} {x y : Position} {s : State} {how : Ending} {events : List Event} →
    Stops counts r steps x s how y events → marks_in events ≡ []
unfolding marks_in
unmarked ends = refl
unmarked rests = refl
unmarked (misses asks m e) = refl
unmarked (continues asks m e) = refl

module _ (book : List ℕ) (a : Accepted book) (r : ℕ) where
  abbrev counts : Counts
  counts = counts_of book

  abbrev steps : List ℕ
  steps = routine_steps book r

  sound_room : {s : State} → Sound book s → HasRoom (routines_of book) s
  sound_room {s} ok = record { starting = (fit_lists book s.game ok.fits).1; items = ok.fits.sized.starting }

  -- the steps end as t says, from these marks on, and are some number
  abbrev EndsAs : Ticks → Position → State → Marks → Type 0
  EndsAs t x s ms = (n : ℕ) × Ends counts r steps t.ending t.position t.state (ms ++ marks_in t.trace) n x s ms

  pub ends_of_lem :
      (n : ℕ) (x : Position) (s : State) → InTime n (counts_of book) r (routine_steps book r) x s → Sound book s → (ms : Marks) →
      EndsAs (ticks n (counts_of book) r (routine_steps book r) x s) x s ms
  unfolding marks_in
  ends_of_lem =
      ticks_in_time counts r steps (λ x s t. Sound book s → (ms : Marks) → EndsAs t x s ms)
      (λ x s q e events t same leaves right says rest ok ms.
      let (n, end) = rest (effect_sound book a s e right ok) (ms ++ marks_in events) in
      (suc n, goes (sound_room ok) same (rw (marks_then ms events t.trace) at end)))
      (λ x s how y events same stays stops ok ms. (1, rw (unmarked stops, append-nil) (halts same)))
