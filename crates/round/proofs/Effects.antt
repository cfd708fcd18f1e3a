-- What a step's effect does to the things that a try asks for, to the flags, and to where each routine stands. By cases on the effect: one
-- that gives no signal touches none of them, and one that gives makes its signal and its number there, and nothing else, and takes nothing
-- away.
use Prim.Native.Nat.{ℕ, ◌+◌, ◌<◌, ◌≤◌}
use mathlib.Core.Path.{◌≡◌, refl, sym, subst, ◌∙◌, ap}
use mathlib.Core.Bool.{Bool, true, false}
use mathlib.Core.List.{List, [], ◌∷◌, ◌++◌}
use native.Mathlib.Nat.{le_trans}
use native.Mathlib.Decide.{ℕ_discrete}
use native.Mathlib.Omega.{arith}
use borrow.Author.Tests.{le-leb, leb-true, leb-false, eq-eqb, ne_eqb}
use lib.Dec.{eqb, leb}
use lib.ListN.{length, get_or, length-set, length-append}
use lib.IntN.{ℤ}
use lib.Seq.{get_or-set_same}
use Rattle.std.specs.Prelude.{if◌then◌else◌}
use Rattle.numbers.proofs.Tests.{clash}
use Rattle.game.specs.declared.Game.{Game}
use Rattle.game.specs.Game.{blank, routine_at, with_flags, with_routine}
use Rattle.orders.proofs.Stores.{entry_set, same_set}
use Rattle.round.specs.declared.Effect.{Effect}
use Rattle.round.specs.declared.Effect.TheVariants.{Nothing, Mark, Put, Add, Give, GiveNumber, Start, Stop, Suspend, Resume}
use Rattle.round.specs.State.{State, with_game, with_lost, with_numbers, Thing, signal, end, number, gave, numbers_with, numbers_of}
use Rattle.round.specs.State.{counts_as_ended, is_end_there, is_there}
use Rattle.round.specs.Actions.{position_of}
use Rattle.round.specs.Ticks.{given, effect_on}
use Rattle.round.specs.claims.Demand.{Comes}
use Rattle.round.proofs.Acts.{is_giving}
use Rattle.round.proofs.Standings.{SameStanding, same_standing, standing_then, SameStandings, StillThere}

-- what no effect touches
pub record Untouched (s u : State) : Type 0 where
  pub standings : SameStandings s u
  pub listed : u.game.listed ≡ s.game.listed
  pub counts : u.game.counts ≡ s.game.counts
  pub end_signals : u.end_signals ≡ s.end_signals
  pub eoi : u.eoi ≡ s.eoi

pub untouched_same : {s : State} → Untouched s s
untouched_same = record { standings = λ q. same_standing; listed = refl; counts = refl; end_signals = refl; eoi = refl }

pub untouched_then : {s u v : State} → Untouched s u → Untouched u v → Untouched s v
untouched_then a b =
    record {
      standings = λ q. standing_then (a.standings q) (b.standings q);
      listed = b.listed ∙ a.listed;
      counts = b.counts ∙ a.counts;
      end_signals = b.end_signals ∙ a.end_signals;
      eoi = b.eoi ∙ a.eoi;
    }

module _ (s : State) where
  untouched_but :
      {u : State} → u.game.routines ≡ s.game.routines → u.game.listed ≡ s.game.listed → u.game.counts ≡ s.game.counts →
      u.end_signals ≡ s.end_signals → u.eoi ≡ s.eoi → Untouched s u
  untouched_but e l c n o =
      record {
        standings = λ q. subst (λ xs. SameStanding (get_or xs q blank) (routine_at s.game q)) (sym e) same_standing;
        listed = l;
        counts = c;
        end_signals = n;
        eoi = o;
      }

  flags_untouched :
      (t : ℕ) (a b c : Bool) → Untouched s (with_game s (with_routine s.game t (with_flags (routine_at s.game t) a b c)))
  flags_untouched t a b c =
      record {
        standings =
            λ q.
            record {
              stage = same_set (λ x. x.stage) s.game.routines t _ blank refl q;
              suspended = same_set (λ x. x.suspended) s.game.routines t _ blank refl q;
              position = same_set (λ x. position_of x) s.game.routines t _ blank refl q;
            };
        listed = refl;
        counts = refl;
        end_signals = refl;
        eoi = refl;
      }

  pub effect_untouched : (e : Effect) → Untouched s (effect_on e s)
  unfolding effect_on
  effect_untouched Nothing = untouched_same
  effect_untouched (Mark n) = untouched_same
  effect_untouched (Put c v) = untouched_but refl refl refl refl refl
  effect_untouched (Add c v) = untouched_but refl refl refl refl refl
  effect_untouched (Give e) = untouched_but refl refl refl refl refl
  effect_untouched (GiveNumber e v) = untouched_but refl refl refl refl refl
  effect_untouched (Start t) = untouched_but refl refl refl refl refl
  effect_untouched (Stop t) = flags_untouched t _ _ _
  effect_untouched (Suspend t) = flags_untouched t _ _ _
  effect_untouched (Resume t) = flags_untouched t _ _ _

-- what an effect that gives no signal leaves besides
pub record Ungiven (s u : State) : Type 0 where
  pub present : u.present ≡ s.present
  pub numbers : u.numbers ≡ s.numbers
  pub moved : u.moved ≡ s.moved

-- another game, or the same, and another total of what was cut off, or the same
pub ungiven : {s : State} {g : Game} {n : ℕ} → Ungiven s (with_lost (with_game s g) n)
ungiven = record { present = refl; numbers = refl; moved = refl }

pub effect_ungiven : (s : State) (e : Effect) → is_giving e ≡ false → Ungiven s (effect_on e s)
unfolding effect_on
effect_ungiven s Nothing h = ungiven
effect_ungiven s (Mark n) h = ungiven
effect_ungiven s (Put c v) h = ungiven
effect_ungiven s (Add c v) h = ungiven
effect_ungiven s (Give e) h = clash refl h
effect_ungiven s (GiveNumber e v) h = clash refl h
effect_ungiven s (Start t) h = ungiven
effect_ungiven s (Stop t) h = ungiven
effect_ungiven s (Suspend t) h = ungiven
effect_ungiven s (Resume t) h = ungiven

-- a routine's end is there by its stage and its end signal alone
pub same_end :
    (s u : State) (r : ℕ) → counts_as_ended (routine_at u.game r).stage ≡ counts_as_ended (routine_at s.game r).stage →
    u.end_signals ≡ s.end_signals → is_there u (end r) ≡ is_there s (end r)
unfolding is_there is_end_there
same_end s u r h k = rw (h, k)

-- so the same things are there
pub same_things : {s u : State} → Untouched s u → Ungiven s u → (t : Thing) → is_there u t ≡ is_there s t
unfolding is_there
same_things a b (signal e) = ap (λ l. get_or l e false) b.present
same_things {s} {u} a b (end r) = same_end s u r (ap counts_as_ended (a.standings r).stage) a.end_signals
same_things a b (number e k) = ap (λ l. leb k (length (numbers_with e l))) b.numbers

numbers_append : (e : ℕ) (l m : List (ℕ × ℤ)) → numbers_with e (l ++ m) ≡ numbers_with e l ++ numbers_with e m
unfolding numbers_with
numbers_append e [] m = refl
numbers_append e (x ∷ l) m = chosen (eqb x.0 e) x.1 _ _ _ (numbers_append e l m)
  where
    chosen : (t : Bool) (v : ℤ) (a b c : List ℤ) → a ≡ b ++ c → (if t then v ∷ a else a) ≡ (if t then v ∷ b else b) ++ c
    chosen true v a b c h = ap (λ (k : List ℤ). v ∷ k) h
    chosen false v a b c h = h

-- signal e was given with its k-th number, or with none for k = 0
pub record Gave (s : State) (e k : ℕ) (u : State) : Type 0 where
  pub present : length u.present ≡ length s.present
  pub keeps : StillThere s u
  pub came : (t : Thing) → is_there s t ≡ false → is_there u t ≡ true → Comes t (gave e k)
  pub signal_there : e < length s.present → is_there u (signal e) ≡ true
  pub number_there : is_there u (number e k) ≡ true
  pub moved : u.moved ≡ true

module _ (s : State) (e : ℕ) where
  -- with these numbers, of which none is new but the k-th
  gave_with :
      (k : ℕ) (l : List (ℕ × ℤ)) → ((f : ℕ) → length (numbers_of s f) ≤ length (numbers_with f l)) →
      ((f j : ℕ) → length (numbers_of s f) < j → j ≤ length (numbers_with f l) → (f ≡ e) × (j ≡ k)) →
      k ≤ length (numbers_with e l) → Gave s e k (with_numbers (given s e) l)
  unfolding is_there is_end_there
  gave_with k l more new there =
      record {
        present = length-set s.present e true;
        keeps = kept;
        came = comes;
        signal_there = λ h. get_or-set_same s.present e true false h;
        number_there = le-leb _ _ there;
        moved = refl;
      }
    where
      kept : StillThere s (with_numbers (given s e) l)
      kept (signal f) h = entry_set (λ b. b ≡ true) s.present e true false f (λ at. refl) h
      kept (end r) h = h
      kept (number f j) h = le-leb j _ (le_trans (leb-true j _ h) (more f))

      comes : (t : Thing) → is_there s t ≡ false → is_there (with_numbers (given s e) l) t ≡ true → Comes t (gave e k)
      comes (signal f) h there =
          entry_set (λ b. b ≡ true → Comes (signal f) (gave e k)) s.present e true false f (λ m on. rw m Comes.signal_given)
          (λ on. clash on h) there
      comes (end r) h there = clash there h
      comes (number f j) h there =
          let (m, n) = new f j (leb-false j _ h) (leb-true j _ there) in
          subst (λ i. Comes (number i j) (gave e k)) (sym m) (subst (λ i. Comes (number e i) (gave e k)) (sym n) Comes.number_given)

  pub give : Gave s e 0 (effect_on (Give e) s)
  unfolding effect_on
  give = gave_with 0 s.numbers (λ f. omega arith) (λ f j l m. absurd (omega arith)) (omega arith)

  pub give_number_lem : (v : ℤ) → Gave s e (length (numbers_of s e) + 1) (effect_on (GiveNumber e v) s)
  unfolding effect_on numbers_with
  give_number_lem v =
      gave_with _ _ (λ f. rw (numbers_append, length-append) (omega arith))
      (λ f j l m. next f j l (rw (numbers_append, length-append) at m)) (rw (numbers_append, length-append) one)
    where
      one : length (numbers_of s e) + 1 ≤ length (numbers_of s e) + length (numbers_with e ((e, v) ∷ []))
      one = rw (eq-eqb e e refl) (omega arith)

      next :
          (f j : ℕ) → length (numbers_of s f) < j → j ≤ length (numbers_of s f) + length (numbers_with f ((e, v) ∷ [])) →
          (f ≡ e) × (j ≡ length (numbers_of s e) + 1)
      next f j l m =
          elim (ℕ_discrete f e) [
            | yes h ↦
                let least : length (numbers_of s e) < j = rw h at l in
                let most : j ≤ length (numbers_of s e) + 1 = rw (eq-eqb e f (sym h), h) at m in
                (h, omega arith)
            | no n ↦
                let most : j ≤ length (numbers_of s f) + 0 = rw (ne_eqb e f (λ h. n (sym h))) at m in
                absurd (omega arith)
          ]
