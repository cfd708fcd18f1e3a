-- What the functions that store a game answer.
use Rattle.std.specs.Prelude.{ℕ, List, Result, Ok, Err}
use Rattle.verdicts.specs.declared.Refusal.{Refusal}
use Rattle.verdicts.specs.Verdicts.{accepted, told}
use Rattle.stored_games.specs.Calls.{StoreAnswer, store_answer}

-- the length or the refusal, with the buffer as it is left: "Storing answers with the length, 0 after a refusal"
abbrev pub answered : Result ℕ Refusal → List ℕ → StoreAnswer
answered (Ok n) buffer = store_answer accepted n buffer
answered (Err r) buffer = store_answer (told r) 0 buffer
