-- The eight actions as defined, on routines and their lists: what each comes to in the paper's flags and statuses.
-- The tests on routines are those on their statuses, and a change that gives a stage gives its status.
use Prim.Native.Nat.{ℕ}
use mathlib.Core.Path.{◌≡◌, refl, sym, ◌∙◌, ap, fun_ext}
use mathlib.Core.Bool.{Bool, true, false, ◌&&◌, ◌||◌, not, or_comm}
use mathlib.Core.List.{List, [], ◌∷◌, map, map-map, zip_with}
use lib.ListN.{get_or, set, get_or-map}
use lib.Seq.{get_or-set_other}
use Rattle.std.specs.Prelude.{if◌then◌else◌}
use Rattle.numbers.proofs.Tests.{clash, by_test}
use Rattle.game.specs.declared.Routine.{Routine}
use Rattle.game.specs.declared.Game.{Game}
use Rattle.game.specs.Game.{blank}
use Rattle.orders.proofs.Stores.{map_set, same_at_lem}
use Rattle.round.specs.Actions.{kept, each, in_stage1, in_stage4, without_orders}
use Rattle.round.proofs.Actions.{each_keeps, starts_of, joined_of, first, leaving, staying, halted, last, field_same}
use Rattle.round.proofs.Actions as action
use Rattle.rules.specs.Schedulers.{Stage, not_started, continuing, stopped, has}
use Rattle.rules.specs.Instants.{only, all_at, is_under_way, is_terminated, no_flags}
use Rattle.rules.proofs.Stages.{seen, terminated_stage, under_way_stage}

zip_maps :
    {A : Type 0} (h : Bool → Bool → Bool) (f g : A → Bool) (l : List A) → zip_with h (map f l) (map g l) ≡ map (λ x. h (f x) (g x)) l
unfolding zip_with
zip_maps h f g [] = refl
zip_maps h f g (x ∷ l) = ap (λ (m : List Bool). h (f x) (g x) ∷ m) (zip_maps h f g l)

-- actions 2 and 3: once the events are replaced, there is term(t) for the threads to stop alone
pub ends_same :
    (xs : List Routine) →
    zip_with ◌||◌ (no_flags (map (λ x. x.suspended) xs)) (map (λ x. x.stopping) xs) ≡ map (λ x. x.stopping) xs
ends_same xs =
    ap (λ l. zip_with ◌||◌ l (map (λ x. x.stopping) xs)) (map-map (λ b. false) (λ x. x.suspended) xs) ∙
    zip_maps ◌||◌ (λ x. false) (λ x. x.stopping) xs

-- a change that gives one status gives it to each of them
each_at :
    (k : Stage) (change : Routine → Routine) → ((x : Routine) → seen (change x) ≡ k) →
    (rs : List ℕ) (xs : List Routine) → map seen (each change rs xs) ≡ all_at k rs (map seen xs)
unfolding each all_at
each_at k change e [] xs = refl
each_at k change e (r ∷ rs) xs =
    let x = get_or xs r blank in
    each_at k change e rs (set xs r (change x)) ∙
    ap (all_at k rs) (map_set seen xs r (change x) ∙ ap (set (map seen xs) r) (e x))

-- the same routines pass tests that agree
kept_only : (a b : ℕ → Bool) → ((r : ℕ) → a r ≡ b r) → (rs : List ℕ) → kept a rs ≡ only b rs
unfolding kept only
kept_only a b e [] = refl
kept_only a b e (r ∷ rs) = let rest = kept_only a b e rs in λ i. if e r i then r ∷ rest i else rest i

-- those that pass a test and then another pass both
only_either :
    (a : ℕ → Bool) (r : ℕ) (rs rest : List ℕ) → only a rs ≡ rest → (t : Bool) →
    only a (if t then r ∷ rs else rs) ≡ (if t && a r then r ∷ rest else rest)
unfolding only
only_either a r rs rest e true = λ i. if a r then r ∷ e i else e i
only_either a r rs rest e false = e

only_twice : (a b : ℕ → Bool) (rs : List ℕ) → only a (only b rs) ≡ only (λ t. b t && a t) rs
unfolding only
only_twice a b [] = refl
only_twice a b (r ∷ rs) = only_either a r (only b rs) (only (λ t. b t && a t) rs) (only_twice a b rs) (b r)

-- a thread that fails a test stays as it is
untouched :
    (test : ℕ → Bool) (k : Stage) (t : ℕ) → test t ≡ false → (rs : List ℕ) (l : List Stage) →
    get_or (all_at k (only test rs) l) t not_started ≡ get_or l t not_started
unfolding only all_at
untouched test k t h [] l = refl
untouched test k t h (r ∷ rs) l =
    by_test (λ qs. get_or (all_at k qs l) t not_started ≡ get_or l t not_started) (test r)
    (λ e.
    untouched test k t h rs (set l r k) ∙ get_or-set_other l r t k not_started (λ c. clash e (ap test (sym c) ∙ h)))
    (λ e. untouched test k t h rs l)

-- actions 1, 3 and 6 as the paper has them, where rs are those listed once action 1 is done, and that those as defined are the same
module _ (g : Game) where
  abbrev to_stop : List Bool
  to_stop = map (λ x. x.stopping) g.routines

  abbrev status₁ : List Stage
  status₁ = all_at continuing (starts_of g) (map seen g.routines)

  abbrev stops : ℕ → Bool
  stops t = has to_stop t && is_under_way (get_or status₁ t not_started)

  abbrev pub status₃ : List ℕ → List Stage
  status₃ rs = all_at stopped (only stops rs) status₁

  abbrev stays : List ℕ → ℕ → Bool
  stays rs t = not (is_terminated (get_or (status₃ rs) t not_started))

  abbrev pub actual₆ : List ℕ → List ℕ
  actual₆ rs = only (stays rs) (only (λ t. not (has to_stop t)) rs)

  started_status : map seen (first g) ≡ status₁
  started_status = each_at continuing in_stage1 (λ x. refl) (starts_of g) g.routines

  started_at : (t : ℕ) → seen (get_or (first g) t blank) ≡ get_or status₁ t not_started
  started_at t = sym (get_or-map seen (first g) t blank) ∙ ap (λ l. get_or l t not_started) started_status

  started_stop : (t : ℕ) → (get_or (first g) t blank).stopping ≡ has to_stop t
  started_stop t =
      let same = each_keeps (λ x. x.stopping) in_stage1 (λ x. refl) (starts_of g) g.routines in
      same_at_lem (λ x. x.stopping) (first g) g.routines blank same t ∙ sym (get_or-map (λ x. x.stopping) g.routines t blank)

  stopping_same : leaving g ≡ only stops (joined_of g)
  stopping_same =
      kept_only (action.stops g) stops
      (λ t.
      let way = sym (under_way_stage (get_or (first g) t blank).stage) ∙ ap is_under_way (started_at t) in
      λ i. started_stop t i && way i)
      (joined_of g)

  -- action 3 leaves the status of one that is not to stop
  not_stopped :
      (rs : List ℕ) (t : ℕ) (b : Bool) → has to_stop t ≡ b →
      (not b && not (is_terminated (get_or status₁ t not_started))) ≡ (not b && stays rs t)
  not_stopped rs t true e = refl
  not_stopped rs t false e = ap (λ k. not (is_terminated k)) (sym (untouched stops stopped t (rw e) rs status₁))

  pub order_same : staying g ≡ actual₆ (joined_of g)
  order_same =
      let rs = joined_of g in
      let agree : (t : ℕ) → action.stays g t ≡ (not (has to_stop t) && stays rs t) =
      λ t.
      let end = sym (terminated_stage (get_or (first g) t blank).stage) ∙ ap is_terminated (started_at t) in
      (λ i. not (started_stop t i) && not (end i)) ∙ not_stopped rs t (has to_stop t) refl
      in
      kept_only (action.stays g) (λ t. not (has to_stop t) && stays rs t) agree rs ∙
      sym (only_twice (stays rs) (λ t. not (has to_stop t)) rs)

  pub status_same : map seen (map without_orders (last g)) ≡ all_at continuing (actual₆ (joined_of g)) (status₃ (joined_of g))
  status_same =
      map-map seen without_orders (last g) ∙
      each_at continuing in_stage1 (λ x. refl) (staying g) (halted g) ∙
      ap (all_at continuing (staying g)) (each_at stopped in_stage4 (λ x. refl) (leaving g) (first g)) ∙
      (λ i. all_at continuing (order_same i) (all_at stopped (stopping_same i) (started_status i)))

  -- a flag of one of the three sets
  pub flag_cleared :
      (flag : Routine → Bool) → ((x : Routine) → flag (without_orders x) ≡ false) →
      no_flags (map flag g.routines) ≡ map flag (map without_orders (last g))
  flag_cleared flag clear =
      let same = field_same g flag (λ x. clear (in_stage1 x) ∙ sym (clear x)) (λ x. clear (in_stage4 x) ∙ sym (clear x)) in
      map-map (λ b. false) flag g.routines ∙ ap (λ h. map h g.routines) (fun_ext (λ x. sym (clear x))) ∙ sym same

  pub suspended_same :
      let xs = g.routines in
      zip_with ◌||◌ (zip_with (λ s r. s && not r) (map (λ x. x.suspended) xs) (map (λ x. x.resuming) xs)) (map (λ x. x.suspending) xs) ≡
      map (λ x. x.suspended) (map without_orders (last g))
  suspended_same =
      let xs = g.routines in
      ap (λ l. zip_with ◌||◌ l (map (λ x. x.suspending) xs))
      (zip_maps (λ s r. s && not r) (λ x. x.suspended) (λ x. x.resuming) xs) ∙
      zip_maps ◌||◌ (λ x. x.suspended && not x.resuming) (λ x. x.suspending) xs ∙
      ap (λ h. map h xs) (fun_ext (λ x. or_comm (x.suspended && not x.resuming) x.suspending)) ∙
      sym (field_same g (λ x. x.suspended) (λ x. refl) (λ x. refl))
