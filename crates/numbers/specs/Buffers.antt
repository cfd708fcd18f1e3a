-- A lent buffer, written over.
use Rattle.std.specs.Prelude.{ℕ, List, ◌++◌, length, take, drop}

-- a buffer with these at its front, the rest as it was
abbrev pub with_front : {A : Type 0} → List A → List A → List A
with_front front buffer = front ++ drop (length front) buffer

-- a buffer with these from a place on, the rest as it was
abbrev pub with_part : {A : Type 0} → ℕ → List A → List A → List A
with_part at part buffer = take at buffer ++ with_front part (drop at buffer)
