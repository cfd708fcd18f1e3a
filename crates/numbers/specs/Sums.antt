-- What document 01's sum of a counter's content and a number is, and what is cut off, said without computing.
use Rattle.std.specs.Prelude.{ℕ, ◌≡◌, ℤ, pos, ◌+ℤ◌, ◌<ℤ◌}
use Rattle.numbers.specs.Numbers.{lowest_counter, highest_counter, CounterInRange}

-- "An addition beyond an end gives that end." Document 02: it "tells, besides its sum, the distance between the true sum and the one
-- given".
pub data AddsUp (v n : ℤ) : ℤ → ℕ → Type 0 where
  within : CounterInRange (v +ℤ n) → AddsUp v n (v +ℤ n) 0
  above : {k : ℕ} → highest_counter <ℤ (v +ℤ n) → highest_counter +ℤ pos k ≡ v +ℤ n → AddsUp v n highest_counter k
  below : {k : ℕ} → (v +ℤ n) <ℤ lowest_counter → v +ℤ n +ℤ pos k ≡ lowest_counter → AddsUp v n lowest_counter k
