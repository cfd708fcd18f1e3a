-- A turn's way through a routine that nests, and whose whiles pause, never passes a place twice. All ways from each place come to a halt,
-- by induction over the parse: a while's end leads back to its test, and every way through its body halts. The height of the tree of
-- the ways from a place is the place's rank, which falls along every edge.
use Prim.Native.Nat.{ℕ, suc, ◌+◌, ◌<◌, ◌≤◌, max}
use mathlib.Core.Path.{◌≡◌, refl, sym, ap, ap₂, subst}
use mathlib.Core.Bool.{Bool, true, false, ◌||◌}
use mathlib.Core.List.{List}
use mathlib.Core.Logic.{◌⊎◌, inl, inr}
use native.Mathlib.Decide.{dec_lt, dec_le}
use native.Mathlib.Numerals.{add-one}
use native.Mathlib.Omega.{arith}
use Rattle.std.specs.Prelude.{if◌then◌else◌}
use Rattle.numbers.proofs.Tests.{clash, and_both}
use Rattle.kinds.specs.declared.Counts.{Counts}
use Rattle.kinds.specs.Steps.{steps_in}
use Rattle.forms.specs.declared.Form.{Form}
use Rattle.forms.specs.declared.Form.TheVariants.{Plain, Pausing}
use Rattle.blocks.specs.Blocks.{View, stands, deepest}
use Rattle.blocks.specs.Parse.{ParsedBlock, empty, more, ParsedStep, plain, pausing, if_only, if_else, loop}
use Rattle.blocks.specs.Parse.{block_pauses, step_pauses, EachWhileOf, WhilesPause}
use Rattle.blocks.proofs.Views.{view_beyond, standing_below}
use Rattle.round.specs.Jumps.{past_partner}
use Rattle.round.proofs.Jumps.{past_partner_lem, from_if, from_else, from_while}
use Rattle.round.proofs.Leads.{is_halt, next_by, form_at, Leads}

-- of two in a row the first pauses, or what follows from the second holds between them
first_pauses : (u v : Bool) {A B : Type 0} → ((v ≡ true) ⊎ A → B) → ((u || v) ≡ true) ⊎ A → (u ≡ true) ⊎ B
first_pauses true v on w = inl refl
first_pauses false v on w = inr (on w)

module _ (counts : Counts) (steps : List ℕ) where
  abbrev at : ℕ → View
  at = form_at counts steps

  -- every way from a place comes to a halt, and stays inside
  data Ends : ℕ → Type 0 where
    halts : {p : ℕ} → p ≤ steps_in steps → is_halt (at p) ≡ true → Ends p
    goes : {p : ℕ} → p ≤ steps_in steps → is_halt (at p) ≡ false → ((t : Bool) → Ends (next_by steps (at p) p t)) → Ends p

  inside : {p : ℕ} → Ends p → p ≤ steps_in steps
  inside (halts l h) = l
  inside (goes l n on) = l

  -- by the form that stands there
  by_form : {p : ℕ} {f : Form} → at p ≡ stands f → is_halt (stands f) ≡ false → ((t : Bool) → Ends (next_by steps (stands f) p t)) → Ends p
  by_form {p} h n on = goes {p = p} (omega (arith, standing_below counts steps (steps_in steps) p h)) (rw h n) (λ t. rw h (on t))

  at_plain : {p : ℕ} → at p ≡ stands Plain → Ends (suc p) → Ends p
  at_plain h w = by_form h refl (λ t. rw add-one w)

  at_pausing : {p : ℕ} → at p ≡ stands Pausing → Ends p
  at_pausing {p} h = halts {p = p} (omega (arith, standing_below counts steps (steps_in steps) p h)) (rw h)

  -- behind an opening, by its test
  by_either : {p q : ℕ} → past_partner steps p ≡ q → Ends (suc p) → Ends q → (t : Bool) → Ends (if t then p + 1 else past_partner steps p)
  by_either k a b true = rw add-one a
  by_either k a b false = rw k b

  -- the whiles in a step pause
  abbrev WhilesPauseIn : {d p e : ℕ} → ParsedStep at d p e → Type 0
  WhilesPauseIn s = EachWhileOf at (λ p pauses. pauses ≡ true) s

  -- from the first place of a block or a step: it pauses, or every way from behind it comes to a halt
  mutual
    from_block : {d p e : ℕ} (b : ParsedBlock at d p e) → WhilesPause at b → (block_pauses at b ≡ true) ⊎ Ends e → Ends p
    from_block empty w (inl t) = clash t refl
    from_block empty w (inr k) = k
    from_block (more s b) w k = from_step s w.0 (first_pauses (step_pauses at s) (block_pauses at b) (from_block b w.1) k)

    from_step : {d p e : ℕ} (s : ParsedStep at d p e) → WhilesPauseIn s → (step_pauses at s ≡ true) ⊎ Ends e → Ends p
    from_step (plain h) w (inl t) = clash t refl
    from_step (plain h) w (inr k) = at_plain h k
    from_step (pausing h) w k = at_pausing h
    from_step (if_only h b e) w (inl t) = clash t refl
    from_step (if_only h b e) w (inr k) =
        let last = by_form e refl (λ t. rw (from_if counts steps h b) k) in
        by_form h refl (by_either (past_partner_lem counts steps b (inr e)) (from_block b w (inr last)) k)
    from_step (if_else h b m c e) w (inl t) =
        let (u, v) = and_both (block_pauses at b) (block_pauses at c) t in
        by_form h refl
        (by_either (past_partner_lem counts steps b (inl m)) (from_block b w.0 (inl u)) (from_block c w.1 (inl v)))
    from_step (if_else h b m c e) w (inr k) =
        let first = by_form m refl (λ t. rw (past_partner_lem counts steps c (inr e)) k) in
        let last = by_form e refl (λ t. rw (from_else counts steps h b m c) k) in
        by_form h refl
        (by_either (past_partner_lem counts steps b (inl m)) (from_block b w.0 (inr first)) (from_block c w.1 (inr last)))
    from_step (loop h b e) w (inl t) = clash t refl
    from_step (loop h b e) w (inr k) =
        by_form h refl (by_either (past_partner_lem counts steps b (inr e)) (from_block b w.1 (inl w.0)) k)

  -- from every place of a block or a step
  mutual
    in_block : {d p e : ℕ} (b : ParsedBlock at d p e) → WhilesPause at b → Ends e → (x : ℕ) → p ≤ x → x ≤ e → Ends x
    in_block empty w k x l m = subst Ends (omega arith) k
    in_block (more {q = q} s b) w k x l m =
        elim (dec_le q x) [
          | yes h ↦ in_block b w.1 k x h m
          | no n ↦ in_step s w.0 (from_block b w.1 (inr k)) x l (omega arith)
        ]

    in_step : {d p e : ℕ} (s : ParsedStep at d p e) → WhilesPauseIn s → Ends e → (x : ℕ) → p ≤ x → x < e → Ends x
    in_step (plain h) w k x l m = subst Ends (omega arith) (at_plain h k)
    in_step (pausing h) w k x l m = subst Ends (omega arith) (at_pausing h)
    in_step (if_only {p = p} h b e) w k x l m =
        elim (dec_lt p x) [
          | yes i ↦ in_block b w (by_form e refl (λ t. rw (from_if counts steps h b) k)) x i (omega arith)
          | no n ↦ subst Ends (omega arith) (from_step (if_only h b e) w (inr k))
        ]
    in_step (if_else {p = p} {q = q} h b o c e) w k x l m =
        elim (dec_lt p x) [
          | no n ↦ subst Ends (omega arith) (from_step (if_else h b o c e) w (inr k))
          | yes i ↦ elim (dec_lt q x) [
            | yes j ↦ in_block c w.1 (by_form e refl (λ t. rw (from_else counts steps h b o c) k)) x j (omega arith)
            | no n ↦ in_block b w.0 (by_form o refl (λ t. rw (past_partner_lem counts steps c (inr e)) k)) x i (omega arith)
          ]
        ]
    in_step (loop {p = p} h b e) w k x l m =
        let top : Ends p = from_step (loop h b e) w (inr k) in
        elim (dec_lt p x) [
          | yes i ↦ in_block b w.1 (by_form e refl (λ t. rw (from_while counts steps h b) top)) x i (omega arith)
          | no n ↦ subst Ends (omega arith) top
        ]

  height : {p : ℕ} → Ends p → ℕ
  height (halts l h) = 0
  height (goes l n on) = suc (max (height (on true)) (height (on false)))

  height_same : {p : ℕ} (a b : Ends p) → height a ≡ height b
  unfolding height
  height_same (halts l h) (halts m k) = refl
  height_same (halts l h) (goes m n on) = clash h n
  height_same (goes l n on) (halts m h) = clash h n
  height_same (goes l n on) (goes m o to) =
      ap₂ (λ (i j : ℕ). suc (max i j)) (height_same (on true) (to true)) (height_same (on false) (to false))

  -- a place that goes on is higher than each that it leads to
  height_falls : {p : ℕ} (a : Ends p) (t : Bool) (b : Ends (next_by steps (at p) p t)) → is_halt (at p) ≡ false → height b < height a
  unfolding height
  height_falls (halts l h) t b n = clash h n
  height_falls (goes l n on) true b m = omega (arith, height_same b (on true))
  height_falls (goes l n on) false b m = omega (arith, height_same b (on false))

  next_ends : {p : ℕ} → Ends p → is_halt (at p) ≡ false → (t : Bool) → Ends (next_by steps (at p) p t)
  next_ends (halts l h) n t = clash h n
  next_ends (goes l h on) n t = on t

  -- a turn goes on only where a step stands
  pub going_below : (p : ℕ) → is_halt (at p) ≡ false → p < steps_in steps
  going_below p n =
      elim (dec_lt p (steps_in steps)) [
        | yes l ↦ l
        | no m ↦ clash (ap is_halt (view_beyond counts steps (steps_in steps) p (omega arith))) n
      ]

  module _ (b : ParsedBlock (form_at counts steps) deepest 0 (steps_in steps)) (w : WhilesPause (form_at counts steps) b) where
    ends : (p : ℕ) → p ≤ steps_in steps → Ends p
    ends p l =
        let out = view_beyond counts steps (steps_in steps) (steps_in steps) (omega arith) in
        in_block b w (halts {p = steps_in steps} (omega arith) (rw out)) p (omega arith) l

    -- the height, and 0 for a place beyond the end
    abbrev rank_by : (p : ℕ) → Dec (p ≤ steps_in steps) → ℕ
    rank_by p (yes l) = height (ends p l)
    rank_by p (no n) = 0

    pub rank : ℕ → ℕ
    rank p = rank_by p (dec_le p (steps_in steps))

    rank_by_lem : {p : ℕ} (a : Ends p) (d : Dec (p ≤ steps_in steps)) → rank_by p d ≡ height a
    rank_by_lem {p} a (yes l) = height_same (ends p l) a
    rank_by_lem a (no n) = absurd (n (inside a))

    rank_height : {p : ℕ} (a : Ends p) → rank p ≡ height a
    unfolding rank
    rank_height {p} a = rank_by_lem a (dec_le p (steps_in steps))

    -- all ways from a place that goes on
    from_going : (p : ℕ) → is_halt (at p) ≡ false → Ends p
    from_going p n = ends p (omega (arith, going_below p n))

    pub falls : (p q : ℕ) → Leads counts steps p q → rank q < rank p
    falls p q e =
        let here = from_going p e.goes_on in
        let there = next_ends here e.goes_on e.test in
        subst (λ (x : ℕ). rank x < rank p) (sym e.to)
        (omega (arith, rank_height here, rank_height there, height_falls here e.test there e.goes_on))

    pub leads_inside : (p q : ℕ) → Leads counts steps p q → q ≤ steps_in steps
    leads_inside p q e = rw e.to (inside (next_ends (from_going p e.goes_on) e.goes_on e.test))
