-- `stored_games::UsableForm::lists_from` meets its contract: a record has at most 8 bytes, so the sum is small.
use native.Mathlib.Omega.{arith}
use Rattle.stored_games.proofs.Lengths.{record_bytes}
use Rattle.stored_games.proofs.UsableForm.lists_from.Goals as goal

pub overflow_add-result : goal.overflow_add-result
overflow_add-result c = omega (arith, record_bytes c.args.self.usable c.args.counts.routines)
