-- `stored_games::UsableForm::record_from` meets its contract: a record has at most 8 bytes, so the product is small.
use native.Mathlib.Omega.{arith}
use Rattle.stored_games.proofs.Lengths.{record_bytes}
use Rattle.stored_games.proofs.UsableForm.record_from.Goals as goal

pub overflow_mul-result : goal.overflow_mul-result
overflow_mul-result c = omega (arith, record_bytes c.args.self.usable c.args.routine)

pub overflow_add-result : goal.overflow_add-result
overflow_add-result c = omega (arith, record_bytes c.args.self.usable c.args.routine)
