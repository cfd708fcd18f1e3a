-- `opening::take` meets its contract: its stores are the contract's, in the same order.
use Rattle.opening.proofs.take.Goals as goal

pub returns : goal.returns
returns c =
    rw (
      c.put_field-3.ensures,
      c.put_field-2.ensures,
      c.put_field.ensures,
      c.put_flag-3.ensures,
      c.put_flag-2.ensures,
      c.is_suspended.ensures,
      c.put_flag.ensures,
      c.from-2.ensures,
      c.from.ensures,
    )
