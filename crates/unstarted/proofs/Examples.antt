-- The examples of specs/Examples.antt hold, by evaluation.
use Rattle.std.specs.Prelude.{◌≡◌, refl, map}
use Rattle.numbers.specs.Counting.{sum_below}
use Rattle.directory.specs.Directory.{routine_part, steps_before}
use Rattle.book.specs.Written.{directory}
use Rattle.unstarted.specs.Unstarted.{with_steps, found_from, found_in, not_found, names_of}
use Rattle.unstarted.specs.Examples.{examples}

pub as_named : map (λ e. names_of e.book) examples ≡ map (λ e. e.names) examples
unfolding not_found found_in found_from with_steps routine_part steps_before sum_below directory
as_named = refl
