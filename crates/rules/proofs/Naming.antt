-- A fact by its name. A `let` writes its fact out wherever the name is used, which is slow to check where the fact is an induction
-- hypothesis.
pub given : {A P : Type 0} → A → (A → P) → P
given fact use-of = use-of fact
