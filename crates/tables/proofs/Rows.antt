-- Reads of a row and stores in it: a store changes its own row and no other. A row of routines lies before or behind another; the last row
-- lies behind all.
use Prim.Native.Nat.{ℕ, ◌+◌, ◌-◌, ◌*◌, ◌≤◌, ◌<◌}
use mathlib.Core.Path.{◌≡◌, sym}
use mathlib.Core.Bool.{Bool, ◌&&◌}
use mathlib.Core.List.{List}
use mathlib.Core.Logic.{◌⊎◌, inl, inr}
use native.Mathlib.Omega.{arith}
use native.Mathlib.Decide.{dec_lt}
use borrow.Author.Tests.{lt-ltb, le-ltb, eqb-true, eq-eqb, ne_eqb}
use lib.Dec.{eqb}
use lib.ListN.{length, get_or, set, length-take, length-drop, length-set, get_or-eq_default}
use lib.Seq.{get_or-take, get_or-drop, get_or-set_same, get_or-set_other, take-set-lt, take-set-le, drop-set-add, drop-set-lt, set_out}
use Rattle.std.specs.Prelude.{if◌then◌else◌}
use Rattle.numbers.proofs.Tests.{and_both, both_true, by_test, clash}
use Rattle.layout.specs.Layout.{most_routines}
use Rattle.tables.specs.Tables.{row_at, last_row, put_in}

module _ {A : Type 0} (k : ℕ) (l : List A) where
  -- a row has an item for each routine at most, and for each where the list is that long
  pub row_short : length (row_at k l) ≤ most_routines
  unfolding row_at
  row_short = simp (length-take, length-drop) (omega arith)

  pub row_length : k + most_routines ≤ length l → length (row_at k l) ≡ most_routines
  unfolding row_at
  row_length h = simp (length-take, length-drop) (omega arith)

  pub row_read : (i : ℕ) (d : A) → i < most_routines → get_or (row_at k l) i d ≡ get_or l (k + i) d
  unfolding row_at
  row_read i d h = rw (get_or-take, get_or-drop)

  pub row_beyond : (i : ℕ) (d : A) → most_routines ≤ i → get_or (row_at k l) i d ≡ d
  row_beyond i d h = get_or-eq_default (row_at k l) d {n = i} (omega (arith, row_short))

-- the last row
module _ {A : Type 0} (k : ℕ) (l : List A) (i : ℕ) where
  pub last_read : (d : A) → get_or (last_row k l) i d ≡ get_or l (k + i) d
  unfolding last_row
  last_read d = rw get_or-drop

  pub last_put : (v : A) → last_row k (set l (k + i) v) ≡ set (last_row k l) i v
  unfolding last_row
  last_put v = rw drop-set-add

  -- a store there leaves the rows of routines alone
  pub row_last : (v : A) (j : ℕ) → j + most_routines ≤ k → row_at j (set l (k + i) v) ≡ row_at j l
  unfolding row_at
  row_last v j before =
      let e : k + i ≡ j + (k - j + i) = omega arith in
      let far : most_routines ≤ k - j + i = omega arith in
      rw (e, drop-set-add, take-set-le)

module _ {A : Type 0} (k i : ℕ) (v : A) (l : List A) where
  pub put_inside : i < most_routines → set l (k + i) v ≡ put_in k i v l
  unfolding put_in
  put_inside h = rw (lt-ltb _ _ h)

  pub put_outside : most_routines ≤ i → l ≡ put_in k i v l
  unfolding put_in
  put_outside h = rw (le-ltb _ _ h)

  pub put_length : length (put_in k i v l) ≡ length l
  put_length =
      elim (dec_lt i most_routines) [
        | yes h ↦ rw (← (put_inside h), length-set)
        | no h ↦ rw (← (put_outside (omega arith)))
      ]

  row_put_inside : i < most_routines → row_at k (set l (k + i) v) ≡ set (row_at k l) i v
  unfolding row_at
  row_put_inside h = rw (drop-set-add, take-set-lt)

  -- a store in this row
  pub row_put : row_at k (put_in k i v l) ≡ set (row_at k l) i v
  row_put =
      elim (dec_lt i most_routines) [
        | yes h ↦ rw (← (put_inside h)) (row_put_inside h)
        | no h ↦ rw (← (put_outside (omega arith))) (sym (set_out _ _ _ (omega (arith, row_short k l))))
      ]

  module _ (j : ℕ) where
    row_after : i < most_routines → k + most_routines ≤ j → row_at j (set l (k + i) v) ≡ row_at j l
    unfolding row_at
    row_after h after = let near : k + i < j = omega arith in rw drop-set-lt

    -- a store in another row
    pub row_other : (j + most_routines ≤ k) ⊎ (k + most_routines ≤ j) → row_at j (put_in k i v l) ≡ row_at j l
    row_other apart =
        elim (dec_lt i most_routines) [
          | yes h ↦ rw (← (put_inside h)) (elim apart [ inl b ↦ row_last k l i v j b | inr a ↦ row_after h a ])
          | no h ↦ rw (← (put_outside (omega arith)))
        ]

    -- a store for a routine leaves the last row alone
    pub last_other : k + most_routines ≤ j → last_row j (put_in k i v l) ≡ last_row j l
    unfolding last_row
    last_other after =
        elim (dec_lt i most_routines) [
          | yes h ↦ let near : k + i < j = omega arith in rw (← (put_inside h), drop-set-lt)
          | no h ↦ rw (← (put_outside (omega arith)))
        ]

-- what row a holds for routine i behind a store for routine r in row b: what was stored if they are the same, or what it held before
module _
    {A : Type 0} (b r : ℕ) (v d : A) (l : List A) (h : r < most_routines) (long : most_routines * b + most_routines ≤ length l) (a i : ℕ) where
  abbrev same : Bool
  same = eqb i r && eqb (most_routines * a) (most_routines * b)

  abbrev read_at : ℕ
  read_at = most_routines * a + i

  abbrev put_at : ℕ
  put_at = most_routines * b + r

  set_read : i < most_routines → get_or (set l put_at v) read_at d ≡ (if same then v else get_or l read_at d)
  set_read inside =
      by_test (λ (x : A). get_or (set l put_at v) read_at d ≡ x) same
      (λ t.
      let (routines, rows) = and_both (eqb i r) (eqb (most_routines * a) (most_routines * b)) t in
      let e : read_at ≡ put_at = omega (arith, eqb-true i r routines, eqb-true (most_routines * a) (most_routines * b) rows) in
      rw e (get_or-set_same l put_at v d (omega arith)))
      (λ f.
      get_or-set_other l put_at read_at v d
      (λ e. clash (both_true (eq-eqb i r (omega arith)) (eq-eqb (most_routines * a) (most_routines * b) (omega arith))) f))

  pub read_put :
      get_or (row_at (most_routines * a) (put_in (most_routines * b) r v l)) i d ≡ (if same then v else get_or (row_at (most_routines * a) l) i d)
  read_put =
      elim (dec_lt i most_routines) [
        | yes inside ↦
            rw (← (put_inside (most_routines * b) r v l h), row_read _ (set l put_at v) i d inside, row_read _ l i d inside)
            (set_read inside)
        | no beyond ↦
            let out : most_routines ≤ i = omega arith in
            rw (row_beyond _ (put_in (most_routines * b) r v l) i d out, row_beyond _ l i d out, ne_eqb i r (λ e. omega arith))
      ]
