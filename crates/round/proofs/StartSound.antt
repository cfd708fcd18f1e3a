-- The state behind the eight actions is sound, and the playing order has each of its routines once. Those to start are in stage 0, so they
-- are not listed yet; the routines that stay listed come to stage 1, and of the others none is left in stage 1 or 2: one that was is to
-- stop, and comes to stage 4.
use Prim.Native.Nat.{ℕ, ◌<◌, ◌≤◌}
use mathlib.Core.Path.{◌≡◌, refl, ◌∙◌, ap, subst}
use mathlib.Core.Bool.{Bool, true, false, ◌&&◌, ◌||◌, not}
use mathlib.Core.List.{List}
use mathlib.Core.Logic.{◌⊎◌, inl, inr, ⊎_elim}
use native.Mathlib.Omega.{arith}
use lib.Dec.{eqb}
use lib.ListN.{length, get_or, length-map, get_or-replicate, length-replicate, get_or-map}
use Rattle.numbers.specs.Counting.{Among, All}
use Rattle.layout.specs.Layout.{most_routines, most_signals, routines_of}
use Rattle.book.specs.Accepted.{CountsInRange, Accepted}
use Rattle.game.specs.declared.Routine.{Routine}
use Rattle.game.specs.declared.Game.{Game}
use Rattle.lines.specs.Lines.{most_entries, entries_of}
use Rattle.game.specs.Game.{continuing, rested, ended, stopped, blank, routine_at, Sized}
use Rattle.fitting.specs.Fits.{In, Fits}
use Rattle.fitting.proofs.Routines.{UnderWay}
use Rattle.round.specs.declared.Position.{Position}
use Rattle.round.specs.State.{State}
use Rattle.round.specs.Actions.{kept, in_stage1, in_stage4, without_orders, at_start}
use Rattle.round.proofs.Among.{in_first, in_second, among_all, Distinct, among_or, among_kept, distinct_kept}
use Rattle.round.proofs.Entries.{entries_below, in_among, among_in, entries_distinct, SizedRight}
use Rattle.round.proofs.Actions.{each_length, each_other, each_given, starts_of, joined_of, first, stops, stays, leaving, staying}
use Rattle.round.proofs.Actions.{halted, last, at_start_routines, at_start_positions, kept_below, staying_short, at_start_entries}
use Rattle.round.proofs.Listing.{appended_right, lists_right, joined_entries, joined_distinct}
use Rattle.round.specs.claims.Sound.{Sound}

-- the playing order of a sound state is of routines of the book
pub listed_below : {book : List ℕ} {s : State} → Sound book s → All (λ r. r < routines_of book) (entries_of s.game.listed)
listed_below {book} {s} sound = entries_below (lists_right book s.game sound.fits).0

-- a stage that is not under way
abbrev Idle : ℕ → Type 0
Idle k = (k ≤ stopped) × (UnderWay k → ⊥)

-- a routine under way is stopped or stays listed
stops_or_stays :
    (stopping : Bool) (k : ℕ) → UnderWay k →
    ((stopping && (eqb k continuing || eqb k rested)) ≡ true) ⊎ ((not stopping && not (eqb k ended)) ≡ true)
stops_or_stays true k (inl e) = inl (rw e)
stops_or_stays true k (inr e) = inl (rw e)
stops_or_stays false k (inl e) = inr (rw e)
stops_or_stays false k (inr e) = inr (rw e)

module _ (g : Game) where
  routine_behind : (r : ℕ) → routine_at (at_start g).game r ≡ without_orders (get_or (last g) r blank)
  unfolding at_start
  routine_behind r = get_or-map without_orders (last g) r blank

  abbrev stage_behind : ℕ → ℕ
  stage_behind r = (routine_at (at_start g).game r).stage

  stage_behind_lem : (r : ℕ) → stage_behind r ≡ (get_or (last g) r blank).stage
  stage_behind_lem r = ap (λ (x : Routine). x.stage) (routine_behind r)

module _ (book : List ℕ) (g : Game) (range : CountsInRange book) (f : Fits book g) where
  first_long : (r : ℕ) → r < routines_of book → r < length (first g)
  first_long r l = omega (arith, each_length in_stage1 (starts_of g) g.routines, f.sized.routines, range.few_routines)

  -- one under way once action 1 is done is listed then
  under_way_joined : (r : ℕ) → r < routines_of book → UnderWay (get_or (first g) r blank).stage → Among r (joined_of g)
  under_way_joined r l way =
      let listed = entries_of g.listed in
      rw (joined_entries book g range f)
      (⊎_elim (λ h. in_second (λ q. r ≡ q) listed (starts_of g) h)
      (λ n.
      let same = each_other in_stage1 (starts_of g) g.routines r n in
      let before : UnderWay (routine_at g r).stage = subst (λ (x : Routine). UnderWay x.stage) same way in
      in_first (λ q. r ≡ q) listed (starts_of g)
      (in_among (lists_right book g f).0 r (f.listed_stages r l before)))
      (among_or r (starts_of g)))

  first_range : (r : ℕ) → r < routines_of book → (get_or (first g) r blank).stage ≤ stopped
  first_range r l =
      let long : r < length g.routines = omega (arith, f.sized.routines, range.few_routines) in
      ⊎_elim (λ h. omega (arith, each_given in_stage1 continuing (λ x. refl) (starts_of g) g.routines r long h))
      (λ n. rw (each_other in_stage1 (starts_of g) g.routines r n) (f.stages_in_range r l))
      (among_or r (starts_of g))

  -- the stage of one that stays listed, and of any other
  staying_stage : (r : ℕ) → r < routines_of book → Among r (staying g) → stage_behind g r ≡ continuing
  staying_stage r l h =
      let long : r < length (halted g) = omega (arith, each_length in_stage4 (leaving g) (first g), first_long r l) in
      stage_behind_lem g r ∙ each_given in_stage1 continuing (λ x. refl) (staying g) (halted g) r long h

  other_stage : (r : ℕ) → r < routines_of book → (Among r (staying g) → ⊥) → Idle (stage_behind g r)
  other_stage r l n =
      let x = get_or (first g) r blank in
      rw (stage_behind_lem g r, each_other in_stage1 (staying g) (halted g) r n)
      (⊎_elim
      (λ h.
      let four = each_given in_stage4 stopped (λ x. refl) (leaving g) (first g) r (first_long r l) h in
      rw four (omega arith, ⊎_elim (λ e. omega arith) (λ e. omega arith)))
      (λ m.
      rw (each_other in_stage4 (leaving g) (first g) r m) (
        first_range r l,
        λ way.
            let inside = under_way_joined r l way in
            ⊎_elim (λ t. m (among_kept (stops g) r (joined_of g) t inside)) (λ t. n (among_kept (stays g) r (joined_of g) t inside))
            (stops_or_stays x.stopping x.stage way),
      ))
      (among_or r (leaving g)))

  -- one beyond R is in no list, and stays blank
  blank_behind : (r : ℕ) → routines_of book ≤ r → r < most_routines → routine_at (at_start g).game r ≡ blank
  blank_behind r l m =
      let Below : ℕ → Type 0 = λ q. q < routines_of book in
      let none : (rs : List ℕ) → All Below rs → Among r rs → ⊥ = λ rs below h. omega (arith, among_all Below r rs below h) in
      let none_kept : (test : ℕ → Bool) → Among r (kept test (joined_of g)) → ⊥ =
      λ test. none (kept test (joined_of g)) (kept_below book g range f test)
      in
      let starts = entries_below (lists_right book g f).1 in
      routine_behind g r ∙
      ap without_orders
      (each_other in_stage1 (staying g) (halted g) r (none_kept (stays g)) ∙
      each_other in_stage4 (leaving g) (first g) r (none_kept (stops g)) ∙
      each_other in_stage1 (starts_of g) g.routines r (none (starts_of g) starts) ∙
      f.routines_beyond r l m)

  listed_right : SizedRight (routines_of book) (at_start g).game.listed
  unfolding at_start
  listed_right =
      appended_right (staying g) (staying_short book g range f) (kept_below book g range f (stays g))
      (distinct_kept (stays g) (joined_of g) (joined_distinct book g range f))

  at_start_sized : Sized (at_start g).game
  unfolding at_start
  at_start_sized =
      record {
        routines = at_start_routines g ∙ f.sized.routines;
        counters = f.sized.counters;
        listed = listed_right.1;
        starting = refl;
        broadcast = length-replicate most_signals false;
      }

module _ (book : List ℕ) (g : Game) (a : Accepted book) (f : Fits book g) where
  abbrev range : CountsInRange book
  range = a.laid.counts

  pub listed_distinct : Distinct (entries_of (at_start g).game.listed)
  listed_distinct = entries_distinct (listed_right book g range f)

  -- in the playing order, and among its entries
  pub listed_among : (r : ℕ) → In (at_start g).game.listed r → Among r (entries_of (at_start g).game.listed)
  listed_among = in_among (listed_right book g range f)

  pub among_listed : (r : ℕ) → Among r (entries_of (at_start g).game.listed) → In (at_start g).game.listed r
  among_listed = among_in (listed_right book g range f)

  pub listed_stage : (r : ℕ) → In (at_start g).game.listed r → (routine_at (at_start g).game r).stage ≡ continuing
  listed_stage r (i, h, e) =
      let below : r < routines_of book = rw e at ((listed_right book g range f).0.entries i h) in
      staying_stage book g range f r below (rw (at_start_entries book g range f) at (listed_among r (i, h, e)))

  at_start_fits : Fits book (at_start g).game
  unfolding at_start
  at_start_fits =
      let same = at_start_positions g in
      let after : ℕ → Routine = routine_at (at_start g).game in
      let place : (r : ℕ) → (after r).place ≡ (routine_at g r).place = λ r. ap (λ (x : Position). x.place) (same r) in
      let left : (r : ℕ) → (after r).left ≡ (routine_at g r).left = λ r. ap (λ (x : Position). x.left) (same r) in
      let begun : (r : ℕ) → (after r).begun ≡ (routine_at g r).begun = λ r. ap (λ (x : Position). x.begun) (same r) in
      let line = (listed_right book g range f).0 in
      let idle = other_stage book g range f in
      record {
        numbers = f.numbers;
        routines_beyond = blank_behind book g range f;
        counters_beyond = f.counters_beyond;
        signals_beyond = λ e l m. get_or-replicate most_signals e false false m;
        entries_beyond = (line.beyond, λ i l m. get_or-replicate most_entries i 0 0 m);
        stages_in_range =
            λ r l. ⊎_elim (λ h. omega (arith, staying_stage book g range f r l h)) (λ n. (idle r l n).0) (among_or r (staying g));
        places_in_range = λ r. rw (place r) (f.places_in_range r);
        counters_in_range = f.counters_in_range;
        lengths_in_range = (line.short, omega arith);
        entries_in_range = (line.entries, λ i l. absurd (omega arith));
        listed_stages =
            λ r l way.
            ⊎_elim (λ h. among_listed r (rw (at_start_entries book g range f) h)) (λ n. absurd ((idle r l n).1 way))
            (among_or r (staying g));
        unlisted_stages =
            λ r l out h.
            let one = listed_stage r h in
            ⊎_elim (λ e. omega (arith, one, e)) (λ e. omega (arith, one, e)) out;
        none_twice = (line.once, λ i j l m e. omega arith);
        start_stages = λ r inside. absurd (omega (arith, inside.1));
        left_where_begun = λ r. rw (begun r, place r, left r) (f.left_where_begun r);
        left_elsewhere = λ r. rw (begun r, left r) (f.left_elsewhere r);
        sized = at_start_sized book g range f;
      }

  pub at_start_sound : Sound book (at_start g)
  unfolding at_start
  at_start_sound =
      record {
        fits = at_start_fits;
        present = f.sized.broadcast;
        end_signals = length-map g.routines (λ x. x.stopping) ∙ f.sized.routines;
        numbers = tt;
      }
