-- A step ends behind the place where it begins, so the steps that are left fall; and with more steps left than there are a block is read
-- alike, so that a reader need not count them.
use Prim.Native.Nat.{ℕ, zero, suc, ◌+◌, ◌-◌, ◌≤◌, ◌<◌, min}
use mathlib.Core.Path.{◌≡◌, refl, ap}
use mathlib.Core.Bool.{Bool, false, ◌||◌}
use native.Mathlib.Omega.{arith}
use Rattle.std.specs.Prelude.{Ok, Err, if◌then◌else◌}
use Rattle.forms.specs.declared.Form.{Form}
use Rattle.forms.specs.declared.Form.TheVariants.{Plain, Pausing, IfOpening, ElseMarker, WhileOpening, EndMarker}
use Rattle.forms.specs.Forms.{is_else, is_end}
use Rattle.blocks.specs.declared.Fault.{Fault}
use Rattle.blocks.specs.Blocks.{Walk, past, View, beyond, unreadable, stands, else_at, and_then, closed}
use Rattle.blocks.specs.Blocks.{else_by, if_by, while_by, step_by, block_step, block_by, step_of}
use Rattle.blocks.proofs.Views.{Says, says_more, says_then}
use Rattle.numbers.proofs.Tests.{by_test}

abbrev Any : Fault → Type 0
Any f = Unit {0}

-- what is past lies behind a place, or is that place
abbrev Behind : ℕ → Walk → Type 0
Behind p w = Says (λ q u l. p < q) Any w

abbrev From : ℕ → Walk → Type 0
From p w = Says (λ q u l. p ≤ q) Any w

module _ (at : ℕ → View) (n : ℕ) where
  closed_behind : (x : View) (p q : ℕ) (u : Bool) (l : ℕ) → p ≤ q → Behind p (closed x p q u l)
  closed_behind beyond p q u l h = tt
  closed_behind unreadable p q u l h = tt
  closed_behind (stands f) p q u l h = by_test (Behind p) (is_end f) (λ e. omega arith) (λ e. tt)

  module _ (step : Form → ℕ → Walk) (S : (f : Form) (p : ℕ) → Behind p (step f p)) where
    step_from :
        (rest : ℕ → Bool → ℕ → Walk) → ((p : ℕ) (u : Bool) (l : ℕ) → From p (rest p u l)) →
        (x : View) (p : ℕ) (u : Bool) (l : ℕ) → From p (block_step at n step rest x p u l)
    step_from rest R beyond p u l = omega arith
    step_from rest R unreadable p u l = tt
    step_from rest R (stands f) p u l =
        by_test (From p) (is_else f || is_end f) (λ e. omega arith)
        (λ e. says_then (λ q v m. p < q) (λ q v m. p ≤ q) Any (step f p) _ (S f p) (λ q v m h.
        says_more (λ r w o. q ≤ r) (λ r w o. p ≤ r) Any (rest q (u || v) (min l m)) (R q (u || v) (min l m)) (λ r w o i. omega arith)))

    block_from : (k p : ℕ) (u : Bool) (l : ℕ) → From p (block_by at n step k p u l)
    unfolding block_by
    block_from zero p u l = omega arith
    block_from (suc k) p u l = step_from (block_by at n step k) (block_from k) (at p) p u l

    then_same :
        (w : Walk) (p : ℕ) (next other : ℕ → Bool → ℕ → Walk) → Behind p w →
        ((q : ℕ) (u : Bool) (l : ℕ) → p < q → next q u l ≡ other q u l) → and_then w next ≡ and_then w other
    then_same (Ok w) p next other h e = e w.behind w.pauses w.lowest h
    then_same (Err f) p next other h e = refl

    step_same :
        (rest other : ℕ → Bool → ℕ → Walk) (p : ℕ) →
        ((q : ℕ) (u : Bool) (l : ℕ) → p < q → rest q u l ≡ other q u l) →
        (x : View) (u : Bool) (l : ℕ) → block_step at n step rest x p u l ≡ block_step at n step other x p u l
    step_same rest other p e beyond u l = refl
    step_same rest other p e unreadable u l = refl
    step_same rest other p e (stands f) u l =
        ap (λ w. if is_else f || is_end f then past p u l else w)
        (then_same (step f p) p _ _ (S f p) (λ q v m h. e q (u || v) (min l m) h))

    -- a block of the steps from p on, with j or k of them left where both are enough
    pub enough :
        ((p : ℕ) → n ≤ p → at p ≡ beyond) → (j k p : ℕ) (u : Bool) (l : ℕ) → n ≤ p + j → n ≤ p + k →
        block_by at n step j p u l ≡ block_by at n step k p u l
    unfolding block_by
    enough out zero zero p u l h i = refl
    enough out zero (suc k) p u l h i = rw (out p (omega arith))
    enough out (suc j) zero p u l h i = rw (out p (omega arith))
    enough out (suc j) (suc k) p u l h i =
        step_same (block_by at n step j) (block_by at n step k) p
        (λ q v m g. enough out j k q v m (omega arith) (omega arith)) (at p) u l

  module _ (block : ℕ → Walk) (B : (p : ℕ) → From p (block p)) where
    closing :
        (p s : ℕ) (next : ℕ → Bool → ℕ → Walk) → p < s → ((q : ℕ) (u : Bool) (l : ℕ) → s ≤ q → Behind p (next q u l)) →
        Behind p (and_then (block s) next)
    closing p s next h k = says_then (λ q u l. s ≤ q) (λ q u l. p < q) Any (block s) next (B s) k

    else_behind : (p q : ℕ) (u : Bool) (l : ℕ) → p ≤ q → Behind p (else_by at n block p q u l)
    else_behind p q u l h = closing p (q + 1) _ (omega arith) (λ r v m i. closed_behind (at r) p r _ _ (omega arith))

    if_behind : (p : ℕ) → Behind p (if_by at n block p)
    if_behind p =
        closing p (p + 1) _ (omega arith) (λ q u l h.
        by_test (Behind p) (else_at (at q)) (λ e. else_behind p q u l (omega arith)) (λ e. closed_behind (at q) p q _ _ (omega arith)))

    while_behind : (p : ℕ) → Behind p (while_by at n block p)
    while_behind p = closing p (p + 1) _ (omega arith) (λ q u l h. closed_behind (at q) p q _ _ (omega arith))

  by_form :
      (ifs whiles : ℕ → Walk) → ((p : ℕ) → Behind p (ifs p)) → ((p : ℕ) → Behind p (whiles p)) →
      (f : Form) (p : ℕ) → Behind p (step_by at n ifs whiles f p)
  by_form ifs whiles I W Plain p = omega arith
  by_form ifs whiles I W Pausing p = omega arith
  by_form ifs whiles I W IfOpening p = I p
  by_form ifs whiles I W ElseMarker p = tt
  by_form ifs whiles I W WhileOpening p = W p
  by_form ifs whiles I W EndMarker p = tt

  pub step_behind : (d : ℕ) (f : Form) (p : ℕ) → Behind p (step_of at n d f p)
  unfolding step_of
  step_behind zero f p = by_form _ _ (λ q. tt) (λ q. tt) f p
  step_behind (suc d) f p =
      let block : ℕ → Walk = λ q. block_by at n (step_of at n d) (n - q) q false n in
      let from : (q : ℕ) → From q (block q) = λ q. block_from (step_of at n d) (step_behind d) (n - q) q false n in
      by_form _ _ (if_behind block from) (while_behind block from) f p
