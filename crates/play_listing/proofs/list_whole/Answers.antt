-- `play_listing::list_whole` meets its contract: no listing is longer than its buffer.
use Prim.Native.Nat.{◌≤◌}
use borrow.Author.Rules.{rules}
use lib.ListN.{length}
use Rattle.play_listing.proofs.Short.{longest_listing, printed_whole}
use Rattle.play_listing.proofs.list_whole.Goals as goal

pub returns : goal.returns
returns c =
    let s = c.args in
    let long : longest_listing ≤ length s.out.now = search rules in
    record {
      result_after = c.list_play.ensures;
      out_after = rw (← c.list_play.ensures) at (printed_whole s.book.now s.out.now long);
    }
