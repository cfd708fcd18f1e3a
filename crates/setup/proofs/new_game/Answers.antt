-- `setup::new_game` meets its contract: the blank game and the list with routine 0 are those that its callees ensure.
use Rattle.game.specs.Game.{blank_game}
use Rattle.setup.specs.SetUp.{new_game}
use Rattle.setup.proofs.new_game.Goals as goal

pub returns : goal.returns
unfolding new_game blank_game
returns c = rw (c.push-starting.ensures, c.blank_game-next.ensures)
