-- A list stays right as different routines of the book are appended to it, by what one that is pushed does to it. In a game that fits,
-- those listed and those to start are different routines, so there is room for both in one list.
use Prim.Native.Nat.{ℕ, ◌+◌, ◌<◌, ◌≤◌}
use mathlib.Core.Path.{◌≡◌, refl, sym, ◌∙◌, subst}
use mathlib.Core.List.{List, [], ◌∷◌, ◌++◌}
use mathlib.Core.Logic.{inl, inr, ⊎_elim}
use native.Mathlib.Omega.{arith}
use lib.ListN.{length, length-set, length-append, get_or-replicate}
use Rattle.numbers.specs.Counting.{Among, All}
use Rattle.layout.specs.Layout.{routines_of}
use Rattle.book.specs.Accepted.{CountsInRange}
use Rattle.lines.specs.declared.Line.{Line}
use Rattle.game.specs.declared.Game.{Game}
use Rattle.lines.specs.Lines.{most_entries, empty, entries_of, appended}
use Rattle.fitting.specs.Fits.{In, Fits}
use Rattle.fitting.proofs.Lists.{joined, LineRight}
use Rattle.fitting.proofs.Decides.{fit_lists}
use Rattle.orders.proofs.Starts.{joined_right, joined_adds}
use Rattle.round.proofs.Among.{all_append, among_all, Distinct, distinct_joined, distinct_few}
use Rattle.round.proofs.Entries.{pushed_joined, appended_entries}
use Rattle.round.proofs.Entries.{SizedRight, entries_length, among_in, entries_below, entries_distinct}

-- different routines of the book that are not in a list, appended to it
appended_more :
    (l : Line) {routines : ℕ} (rs : List ℕ) → SizedRight routines l → l.len + length rs ≤ most_entries → All (λ r. r < routines) rs →
    Distinct rs → ((r : ℕ) → Among r rs → In l r → ⊥) → SizedRight routines (appended l rs)
unfolding appended
appended_more l [] right short below d new = right
appended_more l {routines} (r ∷ rs) (t, z) short below d new =
    let room : l.len < most_entries = omega arith in
    let right : SizedRight routines (joined l r) =
    (joined_right l r z room t below.0 (new r (inl refl)), length-set l.items l.len r ∙ z) in
    subst (λ m. SizedRight routines (appended m rs)) (sym (pushed_joined l r z room))
    (appended_more (joined l r) rs right (omega arith) below.1 d.1 (λ q h k.
    ⊎_elim (new q (inr h)) (λ e. d.0 (rw e at h)) ((joined_adds l r z room).only q k)))

-- appended to none
module _ (rs : List ℕ) (short : length rs ≤ most_entries) where
  pub entries_same : entries_of (appended empty rs) ≡ rs
  entries_same = appended_entries empty rs refl (omega arith)

  pub appended_right : {routines : ℕ} → All (λ r. r < routines) rs → Distinct rs → SizedRight routines (appended empty rs)
  appended_right {routines} below d =
      let none : LineRight empty routines =
      record {
        short = omega arith;
        entries = λ i h. absurd (omega arith);
        beyond = λ i h k. get_or-replicate most_entries i 0 0 k;
        once = λ i j h k e. omega arith;
      }
      in
      appended_more empty rs (none, refl) (omega arith) below d (λ r h (i, k, e). omega arith)

-- the two lists of a game that fits
pub lists_right :
    (book : List ℕ) (g : Game) → Fits book g →
    SizedRight (routines_of book) g.listed × SizedRight (routines_of book) g.starting
lists_right book g f = let (l, s) = fit_lists book g f in ((l, f.sized.listed), (s, f.sized.starting))

-- those listed and those to start, as action 1 joins them
module _ (book : List ℕ) (g : Game) (range : CountsInRange book) (f : Fits book g) where
  abbrev both : List ℕ
  both = entries_of g.listed ++ entries_of g.starting

  both_below : All (λ r. r < routines_of book) both
  both_below =
      let (l, s) = lists_right book g f in
      all_append (λ r. r < routines_of book) (entries_of g.listed) (entries_of g.starting) (entries_below l) (entries_below s)

  -- those to start are in stage 0, and those listed are not
  both_distinct : Distinct both
  both_distinct =
      let (l, s) = lists_right book g f in
      distinct_joined (entries_of g.listed) (entries_of g.starting) (entries_distinct l) (entries_distinct s) (λ r h k.
      let below = among_all (λ r. r < routines_of book) r (entries_of g.listed) (entries_below l) h in
      f.unlisted_stages r below (inl (f.start_stages r (among_in s r k))) (among_in l r h))

  both_few : length both ≤ most_entries
  both_few = omega (arith, distinct_few (routines_of book) both both_distinct both_below, range.few_routines)

  pub joined_entries : entries_of (appended g.listed (entries_of g.starting)) ≡ both
  joined_entries =
      appended_entries g.listed (entries_of g.starting) f.sized.listed
      (omega (arith, entries_length (lists_right book g f).0, simp length-append at both_few))

  pub joined_below_lem : All (λ r. r < routines_of book) (entries_of (appended g.listed (entries_of g.starting)))
  joined_below_lem = rw joined_entries both_below

  pub joined_distinct : Distinct (entries_of (appended g.listed (entries_of g.starting)))
  joined_distinct = rw joined_entries both_distinct

  pub joined_short : length (entries_of (appended g.listed (entries_of g.starting))) ≤ most_entries
  joined_short = rw joined_entries both_few
