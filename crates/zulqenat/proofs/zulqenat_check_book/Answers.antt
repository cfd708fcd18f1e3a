-- `zulqenat::zulqenat_check_book` meets its contract: the verdict of what reading the book answers, by the contracts of the two calls.
use mathlib.Core.Path.{◌∙◌}
use Rattle.zulqenat.proofs.zulqenat_check_book.Goals as goal

pub returns : goal.returns
returns c = c.verdict_of.ensures ∙ c.read_book.ensures
