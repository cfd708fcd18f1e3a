-- `opening::open` meets its contract: those listed and the tables that `settle` gets are those that `join` and `broadcast` leave.
use Rattle.opening.proofs.open.Goals as goal

pub returns : goal.returns
returns c =
    let j = c.join-joined.ensures in
    let s = c.settle.ensures in
    record {
      value = rw (s.after, c.broadcast.ensures, j.after) (rw (c.broadcast.ensures, j.value, j.after) at s.value);
      after = rw (s.after, c.broadcast.ensures, j.value, j.after);
    }
