-- The reader of Blocks is past what has a parse, and tells what the parse says: whether it pauses, and its lowest while without a pause.
-- By the parse: its steps go forward, so those left never run out. What is parsed is also reached, with the openings around it.
use Prim.Native.Nat.{ℕ, zero, suc, ◌-◌, ◌+◌, ◌≤◌, ◌<◌, min}
use mathlib.Core.Path.{◌≡◌, refl}
use mathlib.Core.Bool.{Bool, false, ◌&&◌, ◌||◌, or-false, or_assoc}
use mathlib.Core.List.{List}
use native.Mathlib.Nat.{min-eq_left}
use native.Mathlib.Numerals.{add-one}
use native.Mathlib.Omega.{arith}
use lib.ListN.{length}
use borrow.Author.Tests.{le-ltb}
use Rattle.std.specs.Prelude.{if◌then◌else◌}
use Rattle.forms.specs.declared.Form.{Form}
use Rattle.forms.specs.declared.Form.TheVariants.{Plain, Pausing, IfOpening, ElseMarker, WhileOpening, EndMarker}
use Rattle.forms.specs.Forms.{is_else, is_end}
use Rattle.blocks.specs.Blocks.{Walk, past, View, beyond, unreadable, stands, deepest}
use Rattle.blocks.specs.Blocks.{if_by, while_by, block_step, block_by, step_of, block_of, routine_of}
use Rattle.blocks.specs.Parse.{ParsedBlock, ParsedStep, empty, more, plain, pausing, if_only, if_else, loop, block_pauses, step_pauses}
use Rattle.blocks.specs.Parse.{Open, Reached}
use Rattle.blocks.proofs.Views.{Stops, stands_not_beyond}

module _ (at : ℕ → View) (n : ℕ) where
  -- the lowest while whose body doesn't pause, or n where there is none
  abbrev mutual
    pub lowest : {d p e : ℕ} → ParsedBlock at d p e → ℕ
    lowest empty = n
    lowest (more s b) = min (lowest_of s) (lowest b)

    pub lowest_of : {d p e : ℕ} → ParsedStep at d p e → ℕ
    lowest_of (plain h) = n
    lowest_of (pausing h) = n
    lowest_of (if_only h b k) = lowest b
    lowest_of (if_else h b k c j) = min (lowest b) (lowest c)
    lowest_of (loop {p = p} h b k) = if block_pauses at b then lowest b else p

  lowest_most : {d p e : ℕ} (b : ParsedBlock at d p e) → lowest b ≤ n
  lowest_most empty = omega arith
  lowest_most (more s b) = omega (arith, lowest_most b)

  -- n is told where no while is before
  pub from_none : {d p e : ℕ} (b : ParsedBlock at d p e) → min n (lowest b) ≡ lowest b
  from_none b = omega (arith, lowest_most b)

  mutual
    pub block_goes : {d p e : ℕ} → ParsedBlock at d p e → p ≤ e
    block_goes empty = omega arith
    block_goes (more s b) = omega (arith, step_goes s, block_goes b)

    pub step_goes : {d p e : ℕ} → ParsedStep at d p e → p < e
    step_goes (plain h) = omega arith
    step_goes (pausing h) = omega arith
    step_goes (if_only h b k) = omega (arith, block_goes b)
    step_goes (if_else h b k c j) = omega (arith, block_goes b, block_goes c)
    step_goes (loop h b k) = omega (arith, block_goes b)

  -- what is parsed is reached, with the openings around it
  mutual
    pub block_reached :
        {os : List Open} {d p e : ℕ} → ParsedBlock at d p e → Reached at os p → length os + d ≤ deepest → Reached at os e
    block_reached empty r l = r
    block_reached (more s b) r l = block_reached b (step_reached s r l) l

    pub step_reached :
        {os : List Open} {d p e : ℕ} → ParsedStep at d p e → Reached at os p → length os + d ≤ deepest → Reached at os e
    step_reached (plain h) r l = Reached.plain r h
    step_reached (pausing h) r l = Reached.pausing r h
    step_reached (if_only h b k) r l = Reached.end (block_reached b (Reached.if r h (omega arith)) (omega arith)) k
    step_reached (if_else h b k c j) r l =
        Reached.end (block_reached c (Reached.else (block_reached b (Reached.if r h (omega arith)) (omega arith)) k) (omega arith)) j
    step_reached (loop h b k) r l = Reached.end (block_reached b (Reached.while r h (omega arith)) (omega arith)) k

  -- the form of a step's first place
  abbrev step_form : {d p e : ℕ} → ParsedStep at d p e → Form
  step_form (plain h) = Plain
  step_form (pausing h) = Pausing
  step_form (if_only h b k) = IfOpening
  step_form (if_else h b k c j) = IfOpening
  step_form (loop h b k) = WhileOpening

  step_stands : {d p e : ℕ} (s : ParsedStep at d p e) → at p ≡ stands (step_form s)
  step_stands (plain h) = h
  step_stands (pausing h) = h
  step_stands (if_only h b k) = h
  step_stands (if_else h b k c j) = h
  step_stands (loop h b k) = h

  step_no_marker : {d p e : ℕ} (s : ParsedStep at d p e) → (is_else (step_form s) || is_end (step_form s)) ≡ false
  step_no_marker (plain h) = refl
  step_no_marker (pausing h) = refl
  step_no_marker (if_only h b k) = refl
  step_no_marker (if_else h b k c j) = refl
  step_no_marker (loop h b k) = refl

  -- one step, and one place where a block stops, as the reader takes them
  module _ (step : Form → ℕ → Walk) where
    stop_read :
        (rest : ℕ → Bool → ℕ → Walk) (p : ℕ) (u : Bool) (l : ℕ) (x : View) → Stops x →
        block_step at n step rest x p u l ≡ past p u l
    stop_read rest p u l beyond t = refl
    stop_read rest p u l unreadable t = absurd t
    stop_read rest p u l (stands f) t = rw t

    empty_read :
        (k p : ℕ) (u : Bool) (l : ℕ) → l ≤ n → Stops (at p) → block_by at n step k p u l ≡ past p (u || false) (min l n)
    unfolding block_by
    empty_read zero p u l i t = rw (or-false u, min-eq_left i)
    empty_read (suc k) p u l i t = rw (or-false u, min-eq_left i) (stop_read (block_by at n step k) p u l (at p) t)

    more_read :
        (k p q e : ℕ) (u v w : Bool) (l m o : ℕ) (f : Form) →
        at p ≡ stands f → (is_else f || is_end f) ≡ false → step f p ≡ past q v m →
        block_by at n step k q (u || v) (min l m) ≡ past e ((u || v) || w) (min (min l m) o) →
        block_by at n step (suc k) p u l ≡ past e (u || (v || w)) (min l (min m o))
    unfolding block_by
    more_read k p q e u v w l m o f h i s b =
        let apart : min (min l m) o ≡ min l (min m o) = omega arith in
        rw (h, i, s, ← (or_assoc u v w), ← apart) b

  module _ (block : ℕ → Walk) where
    if_only_read :
        (p q : ℕ) (u : Bool) (l : ℕ) → block (suc p) ≡ past q u l → at q ≡ stands EndMarker →
        if_by at n block p ≡ past (suc q) false l
    if_only_read p q u l b k = rw (add-one p, b, k, add-one q)

    if_else_read :
        (p q r : ℕ) (u v : Bool) (l m : ℕ) → block (suc p) ≡ past q u l → at q ≡ stands ElseMarker →
        block (suc q) ≡ past r v m → at r ≡ stands EndMarker → if_by at n block p ≡ past (suc r) (u && v) (min l m)
    if_else_read p q r u v l m b k c j = rw (add-one p, b, k, add-one q, c, j, add-one r)

    loop_read :
        (p q : ℕ) (u : Bool) (l : ℕ) → block (suc p) ≡ past q u l → at q ≡ stands EndMarker →
        while_by at n block p ≡ past (suc q) false (if u then l else p)
    loop_read p q u l b k = rw (add-one p, b, k, add-one q)

  module _ (out : (p : ℕ) → n ≤ p → at p ≡ beyond) where
    -- a block before which no while is told
    whole :
        {d p e : ℕ} (b : ParsedBlock at d p e) → block_of at n d p ≡ past e (block_pauses at b) (min n (lowest b)) →
        block_of at n d p ≡ past e (block_pauses at b) (lowest b)
    whole b read = rw (from_none b) at read

    mutual
      unfolding step_of

      pub block_complete :
          {d p e : ℕ} (b : ParsedBlock at d p e) → Stops (at e) → (k : ℕ) → n ≤ p + k → (u : Bool) (l : ℕ) → l ≤ n →
          block_by at n (step_of at n d) k p u l ≡ past e (u || block_pauses at b) (min l (lowest b))
      block_complete {d} {p} empty t k h u l i = empty_read (step_of at n d) k p u l i t
      block_complete {d} {p} {e} (more s b) t zero h u l i = absurd (stands_not_beyond (step_stands s) (out p (omega arith)))
      block_complete {d} {p} {e} (more {q = q} s b) t (suc k) h u l i =
          more_read (step_of at n d) k p q e u _ _ l _ _ (step_form s) (step_stands s) (step_no_marker s) (step_complete s)
          (block_complete b t k (omega (arith, step_goes s)) (u || step_pauses at s) (min l (lowest_of s)) (omega arith))

      pub step_complete :
          {d p e : ℕ} (s : ParsedStep at d p e) → step_of at n d (step_form s) p ≡ past e (step_pauses at s) (lowest_of s)
      step_complete (plain {d = zero} {p = p} h) = rw (add-one p)
      step_complete (plain {d = suc d} {p = p} h) = rw (add-one p)
      step_complete (pausing {d = zero} {p = p} h) = rw (add-one p)
      step_complete (pausing {d = suc d} {p = p} h) = rw (add-one p)
      step_complete (if_only {d = d} {p = p} {q = q} h b k) =
          if_only_read (block_of at n d) p q _ _
          (whole b (block_complete b (rw k) (n - suc p) (omega arith) false n (omega arith))) k
      step_complete (if_else {d = d} {p = p} {q = q} {r = r} h b k c j) =
          if_else_read (block_of at n d) p q r _ _ _ _
          (whole b (block_complete b (rw k) (n - suc p) (omega arith) false n (omega arith))) k
          (whole c (block_complete c (rw j) (n - suc q) (omega arith) false n (omega arith))) j
      step_complete (loop {d = d} {p = p} {q = q} h b k) =
          loop_read (block_of at n d) p q _ _
          (whole b (block_complete b (rw k) (n - suc p) (omega arith) false n (omega arith))) k

    pub routine_complete : (b : ParsedBlock at deepest 0 n) → routine_of at n ≡ past n (block_pauses at b) (lowest b)
    unfolding routine_of
    routine_complete b =
        let t : Stops (at n) = rw (out n (omega arith)) tt in
        rw (whole b (block_complete b t (n - 0) (omega arith) false n (omega arith)), le-ltb n n (omega arith))
