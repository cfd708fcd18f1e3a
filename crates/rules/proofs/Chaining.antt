-- The eight actions as defined are those that the paper's section 5.4 states on the scheduler.
-- By what the actions do to each field, with the lists as long as in a game that fits.
use Prim.Native.Nat.{ℕ}
use mathlib.Core.Path.{◌≡◌, refl, sym, ◌∙◌, ap}
use mathlib.Core.Bool.{false}
use mathlib.Core.List.{List, [], ◌∷◌, map}
use lib.ListN.{length, replicate}
use lib.IntN.{ℤ}
use Rattle.book.specs.Accepted.{CountsInRange}
use Rattle.fitting.specs.Fits.{Fits}
use Rattle.round.specs.State.{State}
use Rattle.round.specs.Actions.{at_start}
use Rattle.round.proofs.Listing.{joined_entries}
use Rattle.round.proofs.Actions.{at_start_entries}
use Rattle.rules.specs.Schedulers.{with_nothing_lost, continuing}
use Rattle.rules.specs.Instants.{all_at, chained, with_move_clear}
use Rattle.rules.specs.Scheduled.{scheduler_in}
use Rattle.rules.proofs.Actions.{status₃, actual₆, order_same, status_same, flag_cleared, suspended_same, ends_same}

none_same : {A B : Type 0} (b : B) (l : List A) → map (λ x. b) l ≡ replicate (length l) b
none_same b [] = refl
none_same {B = B} b (x ∷ l) = ap (λ (m : List B). b ∷ m) (none_same b l)

pub chains :
    (book : List ℕ) (s : State) (ms : List (ℕ × ℤ)) → CountsInRange book → Fits book s.game →
    with_nothing_lost (with_move_clear (chained (scheduler_in s ms))) ≡ scheduler_in (at_start s.game) ms
unfolding chained scheduler_in at_start
chains book s ms range f =
    let g = s.game in
    let joined = sym (joined_entries book g range f) in
    let actual = ap (actual₆ g) joined ∙ sym (order_same g) ∙ sym (at_start_entries book g range f) in
    let status = ap (λ rs. all_at continuing (actual₆ g rs) (status₃ g rs)) joined ∙ sym (status_same g) in
    let broadcast = none_same false g.broadcast ∙ ap (λ n. replicate n false) f.sized.broadcast in
    λ i.
    record {
      actual = actual i;
      current = record { signals = g.broadcast; terms = ends_same g.routines i; values = []; eoi = false; move = false };
      orders =
          record {
            to_broadcast = broadcast i;
            to_start = [];
            to_stop = flag_cleared g (λ x. x.stopping) (λ x. refl) i;
            to_suspend = flag_cleared g (λ x. x.suspending) (λ x. refl) i;
            to_resume = flag_cleared g (λ x. x.resuming) (λ x. refl) i;
          };
      threads = record { status = status i; susp = suspended_same g i };
      env = record { counters = g.counters; marks = ms; lost = 0 };
    }
