-- What document 01's relations mean, said without computing: "relation (0 equal, 1 less, 2 greater)".
use Rattle.std.specs.Prelude.{ℕ, zero, suc, ◌≡◌, ℤ, ◌<ℤ◌}

abbrev pub Holds : ℕ → ℤ → ℤ → Type 0
Holds zero v n = v ≡ n
Holds (suc zero) v n = v <ℤ n
Holds (suc (suc k)) v n = n <ℤ v
