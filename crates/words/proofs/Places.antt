-- The place of the first item that passes a test, or the length of a list where none does, however it is told.
use Prim.Native.Nat.{ℕ, ◌≤◌}
use mathlib.Core.Bool.{Bool, not}
use mathlib.Core.List.{List}
use mathlib.Core.Path.{◌≡◌, refl}
use native.Mathlib.Omega.{arith}
use borrow.Author.Tests.{ltb-false}
use lib.ListN.{length}
use Rattle.std.specs.Prelude.{Option, nat_lt}
use Rattle.std.specs.List.{position, position_or_len}
use Rattle.std.specs.Option.{unwrap_or}
use Rattle.std.proofs.lemmas.List.Sums.{prefix_len-le-length}
use Rattle.numbers.proofs.Tests.{by_test}

module _ (p : ℕ → Bool) (s : List ℕ) where
  pub within : position_or_len p s ≤ length s
  within = prefix_len-le-length (λ b. not (p b)) s

  pub or_end : {n : ℕ} → n ≡ length s → unwrap_or (position p s) n ≡ position_or_len p s
  or_end {n} e =
      by_test (λ (o : Option ℕ). unwrap_or o n ≡ position_or_len p s) (nat_lt (position_or_len p s) (length s)) (λ _. refl)
      (λ f. omega (arith, e, within, ltb-false (position_or_len p s) (length s) f))
