-- The examples of specs/Examples.antt hold, by evaluation: the bytes of two games, and what is told of bytes that are read.
use Rattle.std.specs.Prelude.{◌≡◌, refl, map}
use Rattle.numbers.specs.Counting.{all_below, all_from, any_below, list_below, sum_below}
use Rattle.kinds.specs.Steps.{row_of, decoded, step_at}
use Rattle.blocks.specs.Blocks.{view_at, block_by, step_of, routine_of}
use Rattle.verdicts.specs.Verdicts.{refused, first_refusal}
use Rattle.layout.specs.Layout.{layout_verdict}
use Rattle.directory.specs.Directory.{steps_before, directory_verdict, routine_part}
use Rattle.book.specs.Book.{steps_verdict, routine_walk, nesting_verdict, pausing_verdict, book_verdict}
use Rattle.book.specs.Written.{directory}
use Rattle.lines.specs.Lines.{is_in}
use Rattle.fitting.specs.Arrays.{entry_fits, line_fits, counters_fit, signals_fit}
use Rattle.fitting.specs.Routines.{routine_fits, slot_fits}
use Rattle.fitting.specs.Fitting.{is_sized, fits_book}
use Rattle.stored_games.specs.Bits.{from_bits, joined_below}
use Rattle.stored_games.specs.Forms.{form1}
use Rattle.stored_games.specs.Stored.{game_header, record_of, line_bytes, set_byte, stored}
use Rattle.stored_games.specs.Reading.{parts_of, routine_by_record, in_slots, game_in, counts_formed, parts_formed, is_formed}
use Rattle.stored_games.specs.Calls.{stored_verdict, load_verdict}
use Rattle.stored_games.specs.Examples.{examples, resting, read_examples}

pub as_stored : map (λ e. stored form1 e.game) examples ≡ map (λ e. e.bytes) examples
unfolding stored game_header record_of line_bytes set_byte from_bits joined_below list_below
as_stored = refl

pub as_read : map (λ e. load_verdict form1 resting e.bytes) read_examples ≡ map (λ e. refused e.number 0) read_examples
unfolding load_verdict stored_verdict is_formed counts_formed parts_formed parts_of game_in routine_by_record in_slots list_below is_sized fits_book
    routine_fits slot_fits entry_fits line_fits counters_fit signals_fit is_in all_below all_from any_below book_verdict layout_verdict directory_verdict
    steps_verdict nesting_verdict pausing_verdict routine_walk routine_part routine_of step_of block_by view_at step_at decoded row_of steps_before
    sum_below first_refusal directory
as_read = refl
