-- `play_listing::is_over` meets its contract: a test at each entry that counts is one at each item of that part.
use Prim.Native.Nat.{ℕ, zero, suc, ◌≤◌}
use mathlib.Core.List.{List}
use mathlib.Core.Path.{◌≡◌, refl, ◌∙◌}
use mathlib.Core.Bool.{Bool, false}
use native.Mathlib.Numerals.{add-one}
use native.Mathlib.Omega.{arith}
use borrow.Author.Rules.{rules}
use borrow.Author.Tests.{eq-eqb, ne_eqb}
use lib.Dec.{eqb}
use lib.ListN.{length, get_or, take}
use Rattle.std.specs.List.{list_all}
use Rattle.std.proofs.lemmas.List.Folds.{list_all_more}
use Rattle.numbers.specs.Counting.{all_below}
use Rattle.lines.specs.Lines.{used_of}
use Rattle.game.specs.declared.Game.{Game}
use Rattle.game.specs.Game.{ended, blank}
use Rattle.plays.specs.Plays.{is_over}
use Rattle.play_listing.proofs.is_over.Goals as goal

each_item : (p : ℕ → Bool) (s : List ℕ) (n : ℕ) → n ≤ length s → all_below n (λ i. p (get_or s i 0)) ≡ list_all p (take n s)
unfolding all_below
each_item p s zero h = refl
each_item p s (suc n) h =
    let next = rw add-one at (list_all_more p s n 0 (omega arith)) in
    rw (next, each_item p s n (omega arith))

module _ (g : Game) where
  abbrev has_ended : ℕ → Bool
  has_ended r = eqb (get_or g.routines r blank).stage ended

  starts : (used_of g.starting ≡ 0 → ⊥) → false ≡ is_over g
  unfolding is_over
  starts n = rw (ne_eqb _ 0 n)

  starts_none :
      used_of g.starting ≡ 0 → used_of g.listed ≤ length g.listed.items →
      list_all has_ended (take (used_of g.listed) g.listed.items) ≡ is_over g
  unfolding is_over
  starts_none z h = rw (eq-eqb _ 0 z, each_item has_ended g.listed.items (used_of g.listed) h)

pub returns-then-used-eq0 : goal.returns-then-used-eq0
returns-then-used-eq0 c =
    let g = c.args.game in
    let none = rw c.used.ensures.0 at c.if-used-eq0.true in
    let long : used_of g.listed ≤ length g.listed.items = search rules in
    rw c.used-all.ensures.0 at c.have_ended.ensures ∙ starts_none g none long

pub returns-else-used-eq0 : goal.returns-else-used-eq0
returns-else-used-eq0 c =
    rw (ne_eqb _ 0 c.if-used-eq0.false) (starts c.args.game (rw c.used.ensures.0 at c.if-used-eq0.false))
