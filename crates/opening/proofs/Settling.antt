-- Actions 1, 3 and 6 on the row of stages. Those listed are settled one by one, in place. A routine that is met again is settled already,
-- so each comes to what one settling of it gives, and those that stay are those that the test keeps by the stages at the start.
use Prim.Native.Nat.{ℕ, ◌<◌}
use mathlib.Core.Path.{◌≡◌, refl, sym, ap, ◌∙◌}
use mathlib.Core.Logic.{◌≢◌, inl, inr, ⊎_elim}
use mathlib.Core.Bool.{Bool, true, false, ◌||◌}
use mathlib.Core.List.{List, [], ◌∷◌}
use native.Mathlib.Omega.{arith}
use native.Mathlib.Decide.{ℕ_discrete, dec_lt}
use lib.Dec.{eqb}
use lib.ListN.{length, get_or, set, length-set}
use lib.Seq.{get_or-set_same, get_or-set_other, set_out}
use Rattle.std.specs.Prelude.{if◌then◌else◌}
use Rattle.numbers.specs.Counting.{Among}
use Rattle.numbers.proofs.Tests.{by_test, by_flag}
use Rattle.layout.specs.Layout.{most_routines}
use Rattle.lines.specs.declared.Line.{Line}
use Rattle.lines.specs.Lines.{pushed, appended}
use Rattle.game.specs.declared.Routine.{Routine}
use Rattle.game.specs.Game.{continuing, rested, ended, blank}
use Rattle.round.specs.Actions.{kept, each, in_stage1}
use Rattle.round.proofs.Among.{among_or}
use Rattle.tables.specs.Tables.{field_count, ends_row, stages_row, row_at, put_in}
use Rattle.tables.proofs.Rows.{row_short, row_length, row_put, put_length}
use Rattle.opening.specs.Actions.{continued, settled_stage, stays_in, settled_at, stays_at, settled, settled_line}

-- what no store in the row of stages changes, these actions do not
module _ {B : Type 0} (f : List ℕ → B) (apart : (r v : ℕ) (l : List ℕ) → f (put_in stages_row r v l) ≡ f l) where
  pub continued_keeps : (rs fields : List ℕ) → f (continued rs fields) ≡ f fields
  unfolding continued
  continued_keeps [] fields = refl
  continued_keeps (r ∷ rs) fields = continued_keeps rs (put_in stages_row r continuing fields) ∙ apart r continuing fields

  pub settled_keeps : (flags : List Bool) (rs fields : List ℕ) → f (settled flags rs fields) ≡ f fields
  unfolding settled
  settled_keeps flags [] fields = refl
  settled_keeps flags (r ∷ rs) fields =
      let stage = settled_stage (get_or (row_at ends_row flags) r false) (get_or (row_at stages_row fields) r 0) in
      settled_keeps flags rs (settled_at flags r fields) ∙ apart r stage fields

-- a store in two lists of the same length
stored :
    {A : Type 0} (f : A → ℕ) (row : List ℕ) (xs : List A) (d : A) (r v : ℕ) (x : A) → length row ≡ length xs → v ≡ f x →
    ((i : ℕ) → get_or row i 0 ≡ f (get_or xs i d)) → (i : ℕ) → get_or (set row r v) i 0 ≡ f (get_or (set xs r x) i d)
stored f row xs d r v x l e h i =
    elim (ℕ_discrete i r) [
      | no n ↦ rw (get_or-set_other row r i v 0 n, get_or-set_other xs r i x d n) (h i)
      | yes s ↦
          elim (dec_lt r (length row)) [
            | yes k ↦ let m : r < length xs = rw (← l) k in rw (s, get_or-set_same row r v 0 k, get_or-set_same xs r x d m) e
            | no k ↦ rw (set_out row r v (omega (arith, k)), set_out xs r x (omega (arith, k, l))) (h i)
          ]
    ]

-- the row has the stages of these routines
abbrev pub Stages : List ℕ → List Routine → Type 0
Stages fields xs = (i : ℕ) → get_or (row_at stages_row fields) i 0 ≡ (get_or xs i blank).stage

pub continued_stages :
    (rs fields : List ℕ) (xs : List Routine) → length fields ≡ field_count → length xs ≡ most_routines → Stages fields xs →
    Stages (continued rs fields) (each in_stage1 rs xs)
unfolding continued each
continued_stages [] fields xs long wide h = h
continued_stages (r ∷ rs) fields xs long wide h =
    let x = in_stage1 (get_or xs r blank) in
    let row : length (row_at stages_row fields) ≡ length xs = row_length stages_row fields (omega arith) ∙ sym wide in
    continued_stages rs (put_in stages_row r continuing fields) (set xs r x) (put_length stages_row r continuing fields ∙ long)
    (length-set xs r x ∙ wide)
    (λ i. rw row_put (stored (λ (y : Routine). y.stage) (row_at stages_row fields) xs blank r continuing x row refl h i))

-- settling twice
settled_twice : (stops : Bool) (k : ℕ) → settled_stage stops (settled_stage stops k) ≡ settled_stage stops k
settled_twice true k = by_flag (eqb k continuing || eqb k rested) (λ h. rw h) (λ h. rw (h, h))
settled_twice false k = by_flag (eqb k ended) (λ h. rw (h, h)) (λ h. rw h)

stays_still : (stops : Bool) (k : ℕ) → stays_in stops (settled_stage stops k) ≡ stays_in stops k
stays_still true k = refl
stays_still false k = by_flag (eqb k ended) (λ h. rw (h, h)) (λ h. rw h)

-- those that pass a test
pub kept_same : (f g : ℕ → Bool) (rs : List ℕ) → ((r : ℕ) → f r ≡ g r) → kept f rs ≡ kept g rs
unfolding kept
kept_same f g [] h = refl
kept_same f g (r ∷ rs) h = rw (h r, kept_same f g rs h)

pub kept_among : (test : ℕ → Bool) (r : ℕ) (rs : List ℕ) → Among r (kept test rs) → Among r rs × (test r ≡ true)
unfolding kept
kept_among test r [] = λ h. absurd h
kept_among test r (q ∷ qs) =
    by_test (λ l. Among r l → Among r (q ∷ qs) × (test r ≡ true)) (test q)
    (λ p h. ⊎_elim (λ e. (inl e, ap test e ∙ p)) (λ k. let w = kept_among test r qs k in (inr w.0, w.1)) h)
    (λ p h. let w = kept_among test r qs h in (inr w.0, w.1))

push_kept :
    (b : Bool) (k : Line) (r : ℕ) (rest : List ℕ) →
    appended (if b then pushed k r else k) rest ≡ appended k (if b then r ∷ rest else rest)
unfolding appended
push_kept true k r rest = refl
push_kept false k r rest = refl

module _ (flags : List Bool) where
  abbrev stops : ℕ → Bool
  stops r = get_or (row_at ends_row flags) r false

  abbrev stage_at : List ℕ → ℕ → ℕ
  stage_at fields r = get_or (row_at stages_row fields) r 0

  -- the stages once one routine is settled
  module _ (r : ℕ) (fields : List ℕ) where
    abbrev next : List ℕ
    next = settled_at flags r fields

    other_stage : (i : ℕ) → i ≢ r → stage_at next i ≡ stage_at fields i
    other_stage i n = rw (row_put, get_or-set_other _ _ _ _ _ n)

    module _ (long : length fields ≡ field_count) where
      next_long : length next ≡ field_count
      next_long = put_length stages_row r (settled_stage (stops r) (stage_at fields r)) fields ∙ long

      this_stage : r < most_routines → stage_at next r ≡ settled_stage (stops r) (stage_at fields r)
      this_stage h =
          let inside : r < length (row_at stages_row fields) = rw (row_length stages_row fields (omega arith)) h in
          rw (row_put, get_or-set_same _ _ _ _ inside)

      next_stays : (i : ℕ) → stays_at flags next i ≡ stays_at flags fields i
      next_stays i =
          elim (ℕ_discrete i r) [
            | no n ↦ ap (λ (k : ℕ). stays_in (stops i) k) (other_stage i n)
            | yes e ↦
                elim (dec_lt r most_routines) [
                  | yes h ↦ rw e (ap (λ (k : ℕ). stays_in (stops r) k) (this_stage h) ∙ stays_still (stops r) (stage_at fields r))
                  | no h ↦
                      let out = set_out (row_at stages_row fields) r (settled_stage (stops r) (stage_at fields r)) in
                      rw (row_put, out (omega (arith, h, row_short stages_row fields)))
                ]
          ]

  -- those that stay are put behind a list
  pub line_kept :
      (rs fields : List ℕ) (k : Line) → length fields ≡ field_count →
      settled_line flags rs fields k ≡ appended k (kept (stays_at flags fields) rs)
  unfolding settled_line kept appended
  line_kept [] fields k long = refl
  line_kept (r ∷ rs) fields k long =
      let there = stays_at flags fields r in
      let line = if there then pushed k r else k in
      let same = kept_same (stays_at flags (next r fields)) (stays_at flags fields) rs (next_stays r fields long) in
      line_kept rs (next r fields) line (next_long r fields long) ∙
      ap (λ (q : List ℕ). appended line q) same ∙
      push_kept there k r (kept (stays_at flags fields) rs)

  -- the stage of a routine that is not among those settled, and of one that is
  pub settled_not : (rs fields : List ℕ) (i : ℕ) → (Among i rs → ⊥) → stage_at (settled flags rs fields) i ≡ stage_at fields i
  unfolding settled
  settled_not [] fields i n = refl
  settled_not (r ∷ rs) fields i n =
      settled_not rs (next r fields) i (λ h. n (inr h)) ∙ other_stage r fields i (λ e. n (inl e))

  pub settled_in :
      (rs fields : List ℕ) (i : ℕ) → length fields ≡ field_count → i < most_routines → Among i rs →
      stage_at (settled flags rs fields) i ≡ settled_stage (stops i) (stage_at fields i)
  unfolding settled
  settled_in [] fields i long h a = absurd a
  settled_in (r ∷ rs) fields i long h a =
      let after = next r fields in
      let later : Among i rs → stage_at (settled flags rs after) i ≡ settled_stage (stops i) (stage_at after i) =
      λ b. settled_in rs after i (next_long r fields long) h b
      in
      elim (ℕ_discrete i r) [
        | yes e ↦
            let here : stage_at after i ≡ settled_stage (stops i) (stage_at fields i) = rw e (this_stage r fields long (rw e at h)) in
            let again = ap (λ (k : ℕ). settled_stage (stops i) k) here ∙ settled_twice (stops i) (stage_at fields i) in
            ⊎_elim (λ b. later b ∙ again) (λ n. settled_not rs after i n ∙ here) (among_or i rs)
        | no n ↦
            let same = ap (λ (k : ℕ). settled_stage (stops i) k) (other_stage r fields i n) in
            ⊎_elim (λ (e : i ≡ r). absurd (n e)) (λ b. later b ∙ same) a
      ]
