-- A game that is set up fits its book.
-- Every routine, counter, signal and entry of a list is 0 in it, so each clause can be read off.
use Prim.Native.Nat.{ℕ, zero, suc}
use mathlib.Core.Path.{◌≡◌, refl, ap}
use mathlib.Core.Bool.{false}
use mathlib.Core.List.{List}
use mathlib.Core.Logic.{⊎_elim}
use native.Mathlib.Omega.{arith}
use lib.ListN.{get_or, replicate, length-replicate}
use lib.IntN.{pos}
use lib.Signed.{le_z_yes}
use Rattle.numbers.proofs.Tests.{clash}
use Rattle.kinds.specs.declared.Counts.{Counts}
use Rattle.layout.specs.Layout.{most_routines, most_signals, most_counters, counts_of}
use Rattle.book.specs.Accepted.{Accepted}
use Rattle.book.proofs.Reasons.{accepted_exactly}
use Rattle.game.specs.declared.Game.{Game}
use Rattle.game.specs.Game.{not_started, blank, routine_at, Sized}
use Rattle.lines.specs.Lines.{most_entries, empty, item_at, pushed}
use Rattle.fitting.specs.Fits.{Fits, GivesFitting}
use Rattle.setup.specs.SetUp.{new_game, set_up}

-- each entry of a list that repeats one value is that value, past its end too
all_same {ℓ} : {A : Type ℓ} (n i : ℕ) (a : A) → get_or (replicate n a) i a ≡ a
all_same zero i a = refl
all_same (suc n) zero a = refl
all_same (suc n) (suc i) a = all_same n i a

-- routine 0 as the first entry leaves all entries 0
pub item_first : (i : ℕ) → item_at (pushed empty 0) i ≡ 0
item_first i = all_same most_entries i 0

module _ (counts : Counts) where
  new_game_sized : Sized (new_game counts)
  unfolding new_game
  new_game_sized =
      let items = length-replicate {A = ℕ} most_entries 0 in
      record {
        routines = length-replicate most_routines blank;
        counters = length-replicate most_counters (pos 0);
        listed = items;
        starting = items;
        broadcast = length-replicate most_signals false;
      }

  routine_new : (r : ℕ) → routine_at (new_game counts) r ≡ blank
  unfolding new_game
  routine_new r = all_same most_routines r blank

  pub stage_new : (r : ℕ) → (routine_at (new_game counts) r).stage ≡ not_started
  stage_new r = ap (λ x. x.stage) (routine_new r)

pub new_game_fits : (s : List ℕ) → Accepted s → Fits s (new_game (counts_of s))
unfolding new_game
new_game_fits s a =
    let routine = routine_new (counts_of s) in
    let stage = stage_new (counts_of s) in
    record {
      numbers = refl;
      routines_beyond = λ r l m. routine r;
      counters_beyond = λ c l m. all_same most_counters c (pos 0);
      signals_beyond = λ e l m. all_same most_signals e false;
      entries_beyond = (λ i l m. all_same most_entries i 0, λ i l m. item_first i);
      stages_in_range = λ r l. omega (arith, stage r);
      places_in_range = λ r l. omega (arith, ap (λ x. x.place) (routine r));
      counters_in_range = λ c l. rw (all_same most_counters c (pos 0)) (le_z_yes tt, le_z_yes tt);
      lengths_in_range = (omega arith, omega arith);
      entries_in_range = (λ i l. absurd (omega arith), λ i l. omega (arith, item_first i));
      listed_stages = λ r l. ⊎_elim (λ e. absurd (omega (arith, stage r, e))) (λ e. absurd (omega (arith, stage r, e)));
      unlisted_stages = λ r l h inside. omega arith;
      none_twice = (λ i j l m e. omega arith, λ i j l m e. omega arith);
      start_stages = λ r inside. stage r;
      left_where_begun = λ r l h. clash h (ap (λ x. x.begun) (routine r));
      left_elsewhere = λ r l h. ap (λ x. x.left) (routine r);
      sized = new_game_sized (counts_of s);
    }

pub set_up_fits : (s : List ℕ) (g : Game) → GivesFitting s (set_up s g)
unfolding set_up
set_up_fits s g e = rw e (new_game_fits s ((accepted_exactly s).0 e))
