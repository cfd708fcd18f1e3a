-- Document 01's own example of what `rounds` prints, and the line of a refused book, by evaluation.
use Rattle.std.specs.Prelude.{◌≡◌, refl, []}
use Rattle.numbers.specs.Counting.{all_below, any_below, sum_below}
use Rattle.kinds.specs.Steps.{row_of, decoded, step_at}
use Rattle.blocks.specs.Blocks.{view_at, block_by, step_of, routine_of}
use Rattle.partners.specs.Partners.{partner_of}
use Rattle.verdicts.specs.Verdicts.{first_refusal}
use Rattle.layout.specs.Layout.{layout_verdict}
use Rattle.directory.specs.Directory.{steps_before, directory_verdict, routine_part}
use Rattle.book.specs.Book.{steps_verdict, routine_walk, nesting_verdict, pausing_verdict, book_verdict}
use Rattle.book.specs.Examples.{t3}
use Rattle.lines.specs.Lines.{is_in, appended}
use Rattle.game.specs.Game.{blank_game, with_start}
use Rattle.fitting.specs.Arrays.{entry_fits, line_fits, counters_fit, signals_fit}
use Rattle.fitting.specs.Routines.{routine_fits, slot_fits}
use Rattle.fitting.specs.Fitting.{is_sized, fits_book}
use Rattle.setup.specs.SetUp.{new_game, set_up}
use Rattle.round.specs.State.{numbers_with, is_end_there, is_there}
use Rattle.round.specs.Actions.{kept, each, at_start}
use Rattle.round.specs.Jumps.{past_partner, opening_before, from_end}
use Rattle.round.specs.Ticks.{waits_for, tick_of, tick, effect_on}
use Rattle.round.specs.Rounds.{ticks, all_done, turn, pass, instant, round}
use Rattle.round.specs.Answers.{marks_in, written, round_verdict, answer}
use Rattle.plays.specs.Plays.{is_over}
use Rattle.texts.specs.Texts.{ascii, decimal_within}
use Rattle.listing.specs.Listing.{round_line, mark_line, mark_lines, round_lines, refusal_line}
use Rattle.play_listing.specs.Printed.{lines_from, printed}

pub as_printed :
    (printed t3 ≡ ascii "round 1 passes 2 marks 0\nround 2 passes 2 marks 1\nmark 0 7\n")
    × (printed [] ≡ ascii "refused 1 0\n")
unfolding printed lines_from refusal_line round_lines mark_lines mark_line round_line ascii decimal_within is_over answer round_verdict written
    marks_in sum_below round instant pass turn all_done ticks effect_on tick tick_of waits_for from_end opening_before past_partner at_start each kept
    appended is_there is_end_there numbers_with set_up new_game blank_game with_start is_sized fits_book routine_fits slot_fits entry_fits line_fits
    counters_fit signals_fit is_in all_below any_below book_verdict layout_verdict directory_verdict steps_verdict nesting_verdict pausing_verdict
    routine_walk routine_part routine_of step_of block_by partner_of view_at step_at decoded row_of steps_before first_refusal
as_printed = (refl, refl)
