-- `hexadecimal::read_bytes` meets its contract: a word that stands for bytes stands for at most so many as the buffer holds.
use borrow.Author.Rules.{rules}
use Rattle.hexadecimal.specs.Hex.{is_hex}
use Rattle.hexadecimal.proofs.read_bytes.Goals as goal

pub fill-requires : goal.fill-requires
unfolding is_hex
fill-requires c = search rules
