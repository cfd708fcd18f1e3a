-- What a step's effect does to the scheduler that a state stands for is what the rules say: field by field, where a list of flags is a map
-- over the routines, and a start adds to a list that has room, since different routines are no more than there are.
use Prim.Native.Nat.{ℕ, ◌<◌, ◌≤◌}
use mathlib.Core.Path.{◌≡◌, refl, sym, ap, ◌∙◌}
use mathlib.Core.Bool.{Bool, true, false, ◌&&◌, not, false≢true}
use mathlib.Core.List.{List, [], ◌∷◌, ◌++◌, map}
use native.Mathlib.Omega.{arith}
use borrow.Author.Tests.{not-true}
use lib.Dec.{eqb}
use lib.ListN.{set}
use lib.Seq.{map-set_same}
use lib.IntN.{ℤ}
use Rattle.std.specs.Prelude.{if◌then◌else◌}
use Rattle.numbers.specs.declared.Sum.{Sum}
use Rattle.numbers.proofs.Tests.{and_both}
use Rattle.layout.specs.Layout.{most_routines}
use Rattle.game.specs.declared.Routine.{Routine}
use Rattle.lines.specs.Lines.{is_in, pushed, entries_of}
use Rattle.game.specs.Game.{not_started, blank, routine_at, with_flags, with_routine, with_starting}
use Rattle.game.specs.Game as game
use Rattle.fitting.specs.Fits.{In}
use Rattle.fitting.proofs.Lists.{is_in_lem}
use Rattle.fitting.proofs.Room.{room}
use Rattle.orders.proofs.Stores.{map_set}
use Rattle.round.specs.declared.Effect.TheVariants.{Nothing, Mark, Put, Add, Give, GiveNumber, Start, Stop, Suspend, Resume}
use Rattle.round.specs.State.{State, with_game}
use Rattle.round.specs.Ticks.{effect_on}
use Rattle.round.proofs.Entries.{pushed_entries}
use Rattle.rules.specs.Instructions.{signal}
use Rattle.rules.specs.Schedulers.{Stage, Scheduler, is_among, status_of, is_not_started, with_move, with_signal, with_value, put}
use Rattle.rules.specs.Schedulers.{with_mark, with_more_lost, with_orders, with_threads, to_start_plus, to_stop_plus, to_suspend_plus}
use Rattle.rules.specs.Schedulers.{to_resume_plus}
use Rattle.rules.specs.Scheduled.{scheduler_in}
use Rattle.rules.proofs.Walks.{Marks, HasRoom}
use Rattle.rules.proofs.Stages.{seen, not_started_view}
use Rattle.rules.proofs.Lines.{entries_among}

-- a scheduler with other orders, but for those to broadcast
abbrev ordered : Scheduler → List ℕ → List Bool → List Bool → List Bool → Scheduler
ordered σ starts stops suspends resumes =
    with_orders σ (
    record {
      to_broadcast = σ.orders.to_broadcast;
      to_start = starts;
      to_stop = stops;
      to_suspend = suspends;
      to_resume = resumes;
    }
    )

-- a scheduler with others to start
abbrev starting : List ℕ → Scheduler → Scheduler
starting l σ = ordered σ l σ.orders.to_stop σ.orders.to_suspend σ.orders.to_resume

-- effects that change one field
module _ (s : State) (ms : Marks) where
  pub nothing_view : scheduler_in (effect_on Nothing s) ms ≡ scheduler_in s ms
  unfolding effect_on
  nothing_view = refl

  pub mark_view : (r : ℕ) (n : ℤ) → scheduler_in (effect_on (Mark n) s) (ms ++ ((r, n) ∷ [])) ≡ with_mark r n (scheduler_in s ms)
  unfolding effect_on scheduler_in
  mark_view r n = refl

  pub count_view : (c : ℕ) (v : ℤ) → scheduler_in (effect_on (Put c v) s) ms ≡ put c v (scheduler_in s ms)
  unfolding effect_on scheduler_in
  count_view c v = refl

  pub add_view : (c : ℕ) (v : Sum) → scheduler_in (effect_on (Add c v) s) ms ≡ with_more_lost v.lost (put c v.sum (scheduler_in s ms))
  unfolding effect_on scheduler_in
  add_view c v = refl

  pub give_view : (e : ℕ) → scheduler_in (effect_on (Give e) s) ms ≡ with_move (with_signal (signal e) (scheduler_in s ms))
  unfolding effect_on scheduler_in
  give_view e = refl

  pub give_number_view :
      (e : ℕ) (v : ℤ) → scheduler_in (effect_on (GiveNumber e v) s) ms ≡ with_value e v (with_move (with_signal (signal e) (scheduler_in s ms)))
  unfolding effect_on scheduler_in
  give_number_view e v = refl

-- routine t of a state gives way to another one
module _ (s : State) (t : ℕ) (x : Routine) where
  abbrev replaced : List Routine
  replaced = set s.game.routines t x

  -- a field that it keeps, and one that it may change
  pub keeps : {B : Type 0} (f : Routine → B) → f x ≡ f (routine_at s.game t) → map f replaced ≡ map f s.game.routines
  keeps f e = map-set_same f s.game.routines t x blank e

  pub changes : {B : Type 0} (f : Routine → B) → map f replaced ≡ set (map f s.game.routines) t (f x)
  changes f = map_set f s.game.routines t x

  -- the lists that the fields make
  pub routine_view :
      (ms : Marks) {status : List Stage} {susp stops suspends resumes : List Bool} →
      map seen replaced ≡ status → map (λ x. x.suspended) replaced ≡ susp →
      map (λ x. x.stopping) replaced ≡ stops → map (λ x. x.suspending) replaced ≡ suspends → map (λ x. x.resuming) replaced ≡ resumes →
      scheduler_in (with_game s (with_routine s.game t x)) ms
      ≡ with_threads (ordered (scheduler_in s ms) (entries_of s.game.starting) stops suspends resumes)
      (record { status = status; susp = susp })
  unfolding scheduler_in
  routine_view ms a b c d e = λ i.
      with_threads (ordered (scheduler_in s ms) (entries_of s.game.starting) (c i) (d i) (e i)) (record { status = a i; susp = b i })

-- orders for routines
module _ (s : State) (ms : Marks) (t : ℕ) where
  module _ (stop suspend resume : Bool) where
    abbrev flagged : Routine
    flagged = with_flags (routine_at s.game t) stop suspend resume

    flags_view :
        {stops suspends resumes : List Bool} → map (λ x. x.stopping) (replaced s t flagged) ≡ stops →
        map (λ x. x.suspending) (replaced s t flagged) ≡ suspends → map (λ x. x.resuming) (replaced s t flagged) ≡ resumes →
        scheduler_in (with_game s (with_routine s.game t flagged)) ms
        ≡ ordered (scheduler_in s ms) (entries_of s.game.starting) stops suspends resumes
    unfolding scheduler_in
    flags_view = routine_view s t flagged ms (keeps s t flagged seen refl) (keeps s t flagged (λ x. x.suspended) refl)

  pub stop_view : scheduler_in (effect_on (Stop t) s) ms ≡ to_stop_plus t (scheduler_in s ms)
  unfolding effect_on scheduler_in
  stop_view =
      flags_view _ _ _ (changes s t _ (λ x. x.stopping)) (keeps s t _ (λ x. x.suspending) refl) (keeps s t _ (λ x. x.resuming) refl)

  pub suspend_view : scheduler_in (effect_on (Suspend t) s) ms ≡ to_suspend_plus t (scheduler_in s ms)
  unfolding effect_on scheduler_in
  suspend_view =
      flags_view _ _ _ (keeps s t _ (λ x. x.stopping) refl) (changes s t _ (λ x. x.suspending)) (keeps s t _ (λ x. x.resuming) refl)

  pub resume_view : scheduler_in (effect_on (Resume t) s) ms ≡ to_resume_plus t (scheduler_in s ms)
  unfolding effect_on scheduler_in
  resume_view =
      flags_view _ _ _ (keeps s t _ (λ x. x.stopping) refl) (keeps s t _ (λ x. x.suspending) refl) (changes s t _ (λ x. x.resuming))

-- those to start, by whether routine t joins them
joins_view :
    (s : State) (ms : Marks) (t : ℕ) (new : Bool) →
    (new ≡ true → entries_of (pushed s.game.starting t) ≡ entries_of s.game.starting ++ (t ∷ [])) →
    scheduler_in (with_game s (with_starting s.game (if new then pushed s.game.starting t else s.game.starting))) ms
    ≡ (if new then starting ((scheduler_in s ms).orders.to_start ++ (t ∷ [])) (scheduler_in s ms) else scheduler_in s ms)
unfolding scheduler_in
joins_view s ms t true e = ap (λ l. starting l (scheduler_in s ms)) (e refl)
joins_view s ms t false e = refl

pub start_view :
    {routines : ℕ} (s : State) (ms : Marks) (t : ℕ) → HasRoom routines s → t < routines → routines ≤ most_routines →
    scheduler_in (effect_on (Start t) s) ms ≡ to_start_plus t (scheduler_in s ms)
unfolding effect_on game.with_start
start_view s ms t space below few =
    let l = s.game.starting in
    let right = space.starting in
    let unstarted = eqb (routine_at s.game t).stage not_started in
    let new = unstarted && not (is_in l t) in
    let same : (is_not_started (status_of (scheduler_in s ms) t) && not (is_among t (scheduler_in s ms).orders.to_start)) ≡ new =
    unfold scheduler_in in rw (not_started_view s ms t, entries_among l right space.items t)
    in
    rw same (
    joins_view s ms t new (λ e.
    let absent = not-true (is_in l t) (and_both unstarted (not (is_in l t)) e).1 in
    let apart : In l t → ⊥ = λ v. false≢true (sym absent ∙ (is_in_lem l right.short t).1 v) in
    pushed_entries l t space.items (omega (arith, room l t right below apart, few)))
    )
