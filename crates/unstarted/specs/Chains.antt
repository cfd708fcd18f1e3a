-- What is asked for: "the routines that no chain of start steps leads to from routine 0, a start counting wherever it stands in a routine".
use Rattle.std.specs.Prelude.{ℕ, ◌<◌, ◌≡◌, List, Some}
use Rattle.kinds.specs.declared.Kind.TheVariants as kind
use Rattle.directory.specs.Directory.{step_count, routine_step}

-- routine q has a step, at whatever place, that starts routine r
abbrev pub Starts : List ℕ → ℕ → ℕ → Type 0
Starts book q r = (p : ℕ) × (p < step_count book q) × (routine_step book q p ≡ Some (kind.Start r))

-- a chain of start steps leads from routine 0 to this routine; the empty one leads to routine 0 itself
pub data Chain (book : List ℕ) : ℕ → Type 0 where
  empty : Chain book 0
  then : {q r : ℕ} → Chain book q → Starts book q r → Chain book r
