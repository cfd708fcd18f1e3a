-- Orders for T3's book, by evaluation: which are turned down, and what those to start are after some. The proofs of the examples.
use Rattle.std.specs.Prelude.{◌≡◌, refl, [], ◌∷◌, map, take}
use Rattle.kinds.specs.Steps.{row_of, decoded, step_at}
use Rattle.blocks.specs.Blocks.{view_at, block_by, step_of, routine_of}
use Rattle.verdicts.specs.Verdicts.{first_refusal}
use Rattle.layout.specs.Layout.{layout_verdict}
use Rattle.directory.specs.Directory.{steps_before, directory_verdict, routine_part}
use Rattle.book.specs.Book.{steps_verdict, routine_walk, nesting_verdict, pausing_verdict, book_verdict}
use Rattle.book.specs.Examples.{t3}
use Rattle.numbers.specs.Counting.{all_below, any_below, sum_below}
use Rattle.lines.specs.Lines.{is_in}
use Rattle.game.specs.Game.{ended, with_start}
use Rattle.fitting.specs.Arrays.{entry_fits, line_fits, counters_fit, signals_fit}
use Rattle.fitting.specs.Routines.{routine_fits, slot_fits}
use Rattle.fitting.specs.Fitting.{is_sized, fits_book}
use Rattle.setup.specs.SetUp.{new_game}
use Rattle.orders.specs.Orders.{order_verdict, obeyed, ordered}
use Rattle.orders.specs.Examples.{unlisted_in, examples, started_all}

pub as_told : map (λ e. (ordered t3 e.game e.kind e.number).verdict) examples ≡ map (λ e. e.verdict) examples
unfolding ordered order_verdict new_game is_sized fits_book routine_fits slot_fits entry_fits line_fits counters_fit signals_fit is_in all_below
    any_below book_verdict layout_verdict directory_verdict steps_verdict nesting_verdict pausing_verdict routine_walk routine_part routine_of step_of
    block_by view_at step_at decoded row_of steps_before sum_below first_refusal
as_told = refl

-- a start of a routine that has ended adds nothing
pub ended_stays : obeyed (unlisted_in ended) 1 1 ≡ unlisted_in ended
unfolding obeyed new_game with_start
ended_stays = refl

-- those to start once routine 1 was started, then both again
pub started_once : take started_all.starting.len started_all.starting.items ≡ (0 ∷ 1 ∷ [])
unfolding obeyed new_game with_start is_in any_below
started_once = refl
