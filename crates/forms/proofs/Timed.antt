-- Something of a count is left exactly at a timed step: only such a step has a count above 0, and it is the step's n.
-- By cases on the kind.
use Prim.Native.Nat.{ℕ, ◌<◌}
use mathlib.Core.Path.{◌≡◌, refl}
use mathlib.Core.Logic.{◌↔◌}
use native.Mathlib.Omega.{arith}
use Rattle.std.specs.Prelude.{Option, Some, None}
use Rattle.kinds.specs.declared.Kind.{Kind}
use Rattle.kinds.specs.declared.Kind.TheVariants.{Mark, Set, Add, Take, Signal, SignalNumber, Rest, RestFor, Wait, WaitFor}
use Rattle.kinds.specs.declared.Kind.TheVariants.{Join, JoinFor, Read, Start, Stop, Suspend, Resume, If, Else, While, End}
use Rattle.forms.specs.Timed.{Timed, MayBeLeft, rest_for, wait_for, join_for, timed_count}

timed_left : (st : Option Kind) (k : ℕ) → k < timed_count st → MayBeLeft st k
timed_left (Some (Mark n)) k h = absurd (omega arith)
timed_left (Some (Set a n)) k h = absurd (omega arith)
timed_left (Some (Add a n)) k h = absurd (omega arith)
timed_left (Some (Take a b)) k h = absurd (omega arith)
timed_left (Some (Signal a)) k h = absurd (omega arith)
timed_left (Some (SignalNumber a b)) k h = absurd (omega arith)
timed_left (Some Rest) k h = absurd (omega arith)
timed_left (Some (RestFor n)) k h = (n, rest_for, omega arith)
timed_left (Some (Wait a)) k h = absurd (omega arith)
timed_left (Some (WaitFor a n)) k h = (n, wait_for, omega arith)
timed_left (Some (Join a)) k h = absurd (omega arith)
timed_left (Some (JoinFor a n)) k h = (n, join_for, omega arith)
timed_left (Some (Read a b n)) k h = absurd (omega arith)
timed_left (Some (Start a)) k h = absurd (omega arith)
timed_left (Some (Stop a)) k h = absurd (omega arith)
timed_left (Some (Suspend a)) k h = absurd (omega arith)
timed_left (Some (Resume a)) k h = absurd (omega arith)
timed_left (Some (If a b n)) k h = absurd (omega arith)
timed_left (Some Else) k h = absurd (omega arith)
timed_left (Some (While a b n)) k h = absurd (omega arith)
timed_left (Some End) k h = absurd (omega arith)
timed_left None k h = absurd (omega arith)

-- a timed step has one n
pub timed_count_lem : {st : Option Kind} {n : ℕ} → Timed st n → timed_count st ≡ n
timed_count_lem rest_for = refl
timed_count_lem wait_for = refl
timed_count_lem join_for = refl

pub timed : (st : Option Kind) (k : ℕ) → (k < timed_count st) ↔ MayBeLeft st k
timed st k = (timed_left st k, λ v. rw (timed_count_lem v.1) v.2)
