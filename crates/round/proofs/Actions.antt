-- The eight actions on routines and their lists, by what one change of some routines does. A field that depends on no stage changes by
-- actions 4, 5 and 8 alone, so each routine stands where it stood, and the playing order is those that stay listed, all of the book.
use Prim.Native.Nat.{ℕ, ◌<◌, ◌≤◌}
use mathlib.Core.Path.{◌≡◌, refl, sym, ◌∙◌, ap}
use mathlib.Core.Bool.{Bool}
use mathlib.Core.List.{List, [], ◌∷◌, map, map-map}
use mathlib.Core.Logic.{inl, inr}
use native.Mathlib.Omega.{arith}
use lib.ListN.{length, get_or, set, length-set, length-map}
use lib.Seq.{get_or-set_same, get_or-set_other, map-set_same}
use Rattle.numbers.specs.Counting.{Among, All}
use Rattle.layout.specs.Layout.{routines_of}
use Rattle.book.specs.Accepted.{CountsInRange}
use Rattle.game.specs.declared.Routine.{Routine}
use Rattle.game.specs.declared.Game.{Game}
use Rattle.lines.specs.Lines.{most_entries, entries_of, appended}
use Rattle.game.specs.Game.{blank, routine_at}
use Rattle.fitting.specs.Fits.{Fits}
use Rattle.orders.proofs.Stores.{entry_set, same_at_lem}
use Rattle.round.specs.Actions.{kept, each, position_of, in_stage1, in_stage4, gets_stopped, stays_listed, without_orders, at_start}
use Rattle.round.proofs.Among.{all_kept, kept_short}
use Rattle.round.proofs.Listing.{entries_same, joined_below_lem, joined_short}

-- what a change of one routine keeps, the same change of several keeps
pub each_keeps :
    {B : Type 0} (f : Routine → B) (change : Routine → Routine) → ((x : Routine) → f (change x) ≡ f x) →
    (rs : List ℕ) (xs : List Routine) → map f (each change rs xs) ≡ map f xs
unfolding each
each_keeps f change e [] xs = refl
each_keeps f change e (r ∷ rs) xs =
    let x = get_or xs r blank in
    each_keeps f change e rs (set xs r (change x)) ∙ map-set_same f xs r (change x) blank (e x)

-- the same change of some routines: another is as it was, and each of them is in the stage that the change gives
module _ (change : Routine → Routine) where
  pub each_length : (rs : List ℕ) (xs : List Routine) → length (each change rs xs) ≡ length xs
  unfolding each
  each_length [] xs = refl
  each_length (q ∷ qs) xs = let x = change (get_or xs q blank) in each_length qs (set xs q x) ∙ length-set xs q x

  pub each_other :
      (rs : List ℕ) (xs : List Routine) (r : ℕ) → (Among r rs → ⊥) →
      get_or (each change rs xs) r blank ≡ get_or xs r blank
  unfolding each
  each_other [] xs r n = refl
  each_other (q ∷ qs) xs r n =
      let x = change (get_or xs q blank) in
      each_other qs (set xs q x) r (λ h. n (inr h)) ∙ get_or-set_other xs q r x blank (λ e. n (inl e))

  module _ (stage : ℕ) (gives : (x : Routine) → (change x).stage ≡ stage) where
    abbrev GivenAt : List Routine → ℕ → Type 0
    GivenAt xs r = (get_or xs r blank).stage ≡ stage

    given_still : (rs : List ℕ) (xs : List Routine) (r : ℕ) → GivenAt xs r → GivenAt (each change rs xs) r
    unfolding each
    given_still [] xs r e = e
    given_still (q ∷ qs) xs r e =
        let x = change (get_or xs q blank) in
        given_still qs (set xs q x) r (entry_set (λ y. y.stage ≡ stage) xs q x blank r (λ at. gives (get_or xs q blank)) e)

    pub each_given : (rs : List ℕ) (xs : List Routine) (r : ℕ) → r < length xs → Among r rs → GivenAt (each change rs xs) r
    unfolding each
    each_given [] xs r l h = absurd h
    each_given (q ∷ qs) xs r l (inl d) =
        let x = change (get_or xs q blank) in
        given_still qs (set xs q x) r (rw (d, get_or-set_same xs q x blank (rw d at l)) (gives (get_or xs q blank)))
    each_given (q ∷ qs) xs r l (inr h) =
        let x = change (get_or xs q blank) in each_given qs (set xs q x) r (rw length-set l) h

-- the eight actions of a game
module _ (g : Game) where
  -- those to start, and those listed once action 1 is done
  abbrev pub starts_of : List ℕ
  starts_of = entries_of g.starting

  abbrev pub joined_of : List ℕ
  joined_of = entries_of (appended g.listed starts_of)

  -- the routines once action 1 is done
  abbrev pub first : List Routine
  first = each in_stage1 starts_of g.routines

  -- which of those listed then stop, and which stay listed
  abbrev pub stops : ℕ → Bool
  stops r = gets_stopped (get_or first r blank)

  abbrev pub stays : ℕ → Bool
  stays r = stays_listed (get_or first r blank)

  abbrev pub leaving : List ℕ
  leaving = kept stops joined_of

  abbrev pub staying : List ℕ
  staying = kept stays joined_of

  -- the routines once action 3 is done, and once action 6 is
  abbrev pub halted : List Routine
  halted = each in_stage4 leaving first

  abbrev pub last : List Routine
  last = each in_stage1 staying halted

  -- what depends on no stage changes by actions 4, 5 and 8 alone
  pub field_same :
      {B : Type 0} (f : Routine → B) →
      ((x : Routine) → f (without_orders (in_stage1 x)) ≡ f (without_orders x)) →
      ((x : Routine) → f (without_orders (in_stage4 x)) ≡ f (without_orders x)) →
      map f (map without_orders last) ≡ map (λ x. f (without_orders x)) g.routines
  field_same {B} f one four =
      let h : Routine → B = λ x. f (without_orders x) in
      map-map f without_orders last ∙
      each_keeps h in_stage1 one staying halted ∙
      each_keeps h in_stage4 four leaving first ∙
      each_keeps h in_stage1 one starts_of g.routines

  positions_same : map position_of (at_start g).game.routines ≡ map position_of g.routines
  unfolding at_start
  positions_same = field_same position_of (λ x. refl) (λ x. refl)

  pub at_start_routines : length (at_start g).game.routines ≡ length g.routines
  at_start_routines =
      sym (length-map (at_start g).game.routines position_of) ∙ ap length positions_same ∙ length-map g.routines position_of

  -- a routine's position is kept, and one beyond the array is blank before and after
  pub at_start_positions : (r : ℕ) → position_of (routine_at (at_start g).game r) ≡ position_of (routine_at g r)
  at_start_positions = same_at_lem position_of (at_start g).game.routines g.routines blank positions_same

module _ (book : List ℕ) (g : Game) (range : CountsInRange book) (f : Fits book g) where
  pub kept_below : (test : ℕ → Bool) → All (λ r. r < routines_of book) (kept test (joined_of g))
  kept_below test = all_kept test (λ r. r < routines_of book) (joined_of g) (joined_below_lem book g range f)

  pub staying_short : length (staying g) ≤ most_entries
  staying_short = omega (arith, kept_short (stays g) (joined_of g), joined_short book g range f)

  pub at_start_entries : entries_of (at_start g).game.listed ≡ staying g
  unfolding at_start
  at_start_entries = entries_same (staying g) staying_short
