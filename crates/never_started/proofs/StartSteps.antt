-- A step that adds a routine to those to start is a start step, and stands inside its routine: by the 21 kinds, no other step has that
-- effect.
use Prim.Native.Nat.{ℕ, ◌<◌}
use mathlib.Core.Path.{◌≡◌, ap}
use mathlib.Core.Bool.{◌&&◌, not}
use mathlib.Core.List.{List}
use native.Mathlib.Omega.{arith}
use lib.Dec.{eqb}
use Rattle.std.specs.Prelude.{Option, Some, None}
use Rattle.numbers.proofs.Tests.{by_test}
use Rattle.kinds.specs.declared.Kind.{Kind}
use Rattle.kinds.specs.declared.Kind.TheVariants as kind
use Rattle.kinds.specs.Steps.{step_at}
use Rattle.kinds.proofs.Readable.{step_below}
use Rattle.layout.specs.Layout.{routines_of, counts_of}
use Rattle.directory.specs.Directory.{routine_steps}
use Rattle.book.specs.Accepted.{Accepted}
use Rattle.round.specs.declared.Position.{Position}
use Rattle.round.specs.declared.Effect.{Effect}
use Rattle.round.specs.declared.Effect.TheVariants.{Nothing, Start}
use Rattle.round.specs.declared.Act.{Act}
use Rattle.round.specs.declared.Act.TheVariants.{Goes}
use Rattle.round.specs.State.{State, Thing, signal, end, Event, is_there}
use Rattle.round.specs.Ticks.{Tick, tick_with, count_at, tries, waits_for, tick_of, tick_at, tick}
use Rattle.round.proofs.Parsed.{size_same}
use Rattle.unstarted.specs.Chains.{Starts}

-- what routine r comes to at position x is a start of routine t
module _ (r : ℕ) (steps : List ℕ) (x : Position) (s : State) (q t : ℕ) where
  abbrev starting : Act
  starting = Goes q (Start t)

  tries_start : (thing : Thing) (e : Effect) (y : Position) → (tries r steps x s thing e y).act ≡ starting → e ≡ Start t
  tries_start thing e y =
      by_test (λ (k : Tick). k.act ≡ starting → e ≡ Start t) (is_there s thing) (λ h same. cc)
      (λ h. by_test (λ (act : Act). act ≡ starting → e ≡ Start t) s.eoi (λ c same. cc) (λ c same. cc))

  waits_start : (thing : Thing) (k : ℕ) → (waits_for r steps x s thing k).act ≡ starting → Nothing ≡ Start t
  unfolding waits_for
  waits_start thing k =
      by_test (λ (k : Tick). k.act ≡ starting → Nothing ≡ Start t) (eqb k 0 && not (is_there s thing)) (λ h same. cc)
      (λ h. tries_start thing Nothing _)

  kind_start : (k : Kind) → (tick_of r steps x s k).act ≡ starting → k ≡ kind.Start t
  unfolding tick_of
  kind_start (kind.Mark n) e = cc
  kind_start (kind.Set c n) e = cc
  kind_start (kind.Add c n) e = cc
  kind_start (kind.Take c d) e = cc
  kind_start (kind.Signal a) e = cc
  kind_start (kind.SignalNumber a c) e = cc
  kind_start kind.Rest e = cc
  kind_start (kind.RestFor n) e =
      by_test (λ (act : Act). act ≡ starting → kind.RestFor n ≡ kind.Start t) (eqb (count_at x n) 0) (λ h same. cc) (λ h same. cc) e
  kind_start (kind.Wait a) e = cc (tries_start (signal a) Nothing _ e)
  kind_start (kind.WaitFor a n) e = cc (waits_start (signal a) _ e)
  kind_start (kind.Join i) e = cc (tries_start (end i) Nothing _ e)
  kind_start (kind.JoinFor i n) e = cc (waits_start (end i) _ e)
  kind_start (kind.Read a c k) e = cc (tries_start _ _ _ e)
  kind_start (kind.Start i) e = cc
  kind_start (kind.Stop i) e = cc
  kind_start (kind.Suspend i) e = cc
  kind_start (kind.Resume i) e = cc
  kind_start (kind.If c relation n) e = cc
  kind_start kind.Else e = cc
  kind_start (kind.While c relation n) e = cc
  kind_start kind.End e = cc

  step_start : (st : Option Kind) → (tick_at r steps x s st).act ≡ starting → st ≡ Some (kind.Start t)
  step_start (Some k) e = ap Some (kind_start k e)
  step_start None e = cc

pub starts_by :
    (book : List ℕ) → Accepted book → (r : ℕ) → r < routines_of book → (x : Position) (s : State) {q t : ℕ} {events : List Event} →
    tick (counts_of book) r (routine_steps book r) x s ≡ tick_with (Goes q (Start t)) events → Starts book r t
unfolding tick
starts_by book a r below x s {q} {t} same =
    let steps = routine_steps book r in
    let e = step_start r steps x s q t (step_at (counts_of book) steps x.place) (ap (λ (k : Tick). k.act) same) in
    (x.place, omega (arith, step_below (counts_of book) steps x.place e, size_same book a r below), e)
