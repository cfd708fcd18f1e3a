-- The searches through a routine's steps: one step of the search for an end's opening, and how far the search for a partner goes.
use Prim.Native.Nat.{ℕ, zero, suc, ◌+◌, ◌-◌, ◌≤◌, ◌<◌}
use mathlib.Core.Path.{◌≡◌}
use mathlib.Core.Bool.{◌||◌}
use mathlib.Core.List.{List}
use native.Mathlib.Omega.{arith}
use native.Mathlib.Numerals.{sub-one}
use lib.Dec.{eqb}
use Rattle.kinds.specs.Ops.{op_if, op_else, op_while, op_end}
use Rattle.numbers.proofs.Tests.{by_test}
use Rattle.kinds.specs.Steps.{op_at}
use Rattle.partners.specs.Partners.{partner_by, partner_of}
use Rattle.round.specs.Jumps.{opening_by, opening_before}

pub opening_on :
    (steps : List ℕ) (d p : ℕ) → 0 < p →
    opening_before steps d p ≡ opening_by (λ e. opening_before steps e (p - 1)) (op_at steps (p - 1)) d (p - 1)
unfolding opening_before
opening_on steps d zero h = absurd (omega arith)
opening_on steps d (suc p) h = rw (sub-one (suc p))

-- a step of the search for a partner stops at its place or goes on
stops_or_goes : (P : ℕ → Type 0) (on : ℕ → ℕ) (op d p : ℕ) → P p → ((e : ℕ) → P (on e)) → P (partner_by on op d p)
stops_or_goes P on op d p stops goes =
    by_test P (eqb op op_if || eqb op op_while) (λ a. goes (d + 1))
    (λ a.
    by_test P (eqb op op_else) (λ b. by_test P (eqb d 0) (λ z. stops) (λ z. goes d))
    (λ b. by_test P (eqb op op_end) (λ e. by_test P (eqb d 0) (λ z. stops) (λ z. goes (d - 1))) (λ e. goes d)))

pub partner_near : (steps : List ℕ) (k d p : ℕ) → partner_of steps k d p ≤ p + k
unfolding partner_of
partner_near steps zero d p = omega arith
partner_near steps (suc k) d p =
    stops_or_goes (λ (q : ℕ). q ≤ p + suc k) (λ e. partner_of steps k e (p + 1)) (op_at steps p) d p (omega arith)
    (λ e. omega (arith, partner_near steps k e (p + 1)))
