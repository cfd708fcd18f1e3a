-- The examples of specs/Examples.antt hold, by evaluation: what each call on a kept game tells, and what it leaves.
use Rattle.std.specs.Prelude.{◌≡◌, refl, map}
use Rattle.numbers.specs.Counting.{all_below, all_from, any_below, list_below, sum_below}
use Rattle.kinds.specs.Steps.{row_of, decoded, step_at}
use Rattle.blocks.specs.Blocks.{view_at, block_by, step_of, routine_of}
use Rattle.verdicts.specs.Verdicts.{first_refusal}
use Rattle.layout.specs.Layout.{layout_verdict}
use Rattle.directory.specs.Directory.{steps_before, directory_verdict, routine_part}
use Rattle.book.specs.Book.{steps_verdict, routine_walk, nesting_verdict, pausing_verdict, book_verdict}
use Rattle.book.specs.Written.{directory}
use Rattle.lines.specs.Lines.{is_in, appended}
use Rattle.game.specs.Game.{blank_game, with_start}
use Rattle.fitting.specs.Arrays.{entry_fits, line_fits, counters_fit, signals_fit}
use Rattle.fitting.specs.Routines.{routine_fits, slot_fits}
use Rattle.fitting.specs.Fitting.{is_sized, fits_book}
use Rattle.setup.specs.SetUp.{new_game, set_up}
use Rattle.orders.specs.Orders.{order_verdict, obeyed, ordered}
use Rattle.stored_games.specs.Bits.{from_bits, joined_below}
use Rattle.stored_games.specs.Stored.{game_header, record_of, line_bytes, set_byte, stored}
use Rattle.stored_games.specs.Reading.{parts_of, routine_by_record, in_slots, game_in, counts_formed, parts_formed, is_formed}
use Rattle.stored_games.specs.Calls.{stored_verdict, load_verdict, loaded, store_verdict, storing}
use Rattle.round.specs.State.{numbers_with, is_end_there, is_there}
use Rattle.round.specs.Actions.{kept, each, at_start}
use Rattle.round.specs.Ticks.{waits_for, tick_of, tick, effect_on}
use Rattle.round.specs.Rounds.{ticks, all_done, turn, pass, instant, round}
use Rattle.round.specs.Answers.{marks_in, written, round_verdict, answer}
use Rattle.kept_games.specs.Kept.{set_up_kept, order_kept, played_from, play_kept}
use Rattle.kept_games.specs.Alike.{by_bytes}
use Rattle.kept_games.specs.Examples.{examples, made}

pub as_made : map made examples ≡ examples
unfolding by_bytes set_up_kept order_kept play_kept played_from storing store_verdict loaded load_verdict stored_verdict is_formed counts_formed parts_formed
    parts_of game_in routine_by_record in_slots stored game_header record_of line_bytes set_byte from_bits joined_below list_below ordered order_verdict
    obeyed answer round_verdict written marks_in sum_below round instant pass turn all_done ticks effect_on tick tick_of waits_for at_start each
    kept appended is_there is_end_there numbers_with set_up new_game blank_game with_start is_sized fits_book routine_fits slot_fits entry_fits line_fits
    counters_fit signals_fit is_in all_below all_from any_below book_verdict layout_verdict directory_verdict steps_verdict nesting_verdict
    pausing_verdict routine_walk routine_part routine_of step_of block_by view_at step_at decoded row_of steps_before first_refusal
    directory
as_made = refl
