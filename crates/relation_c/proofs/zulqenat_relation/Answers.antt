-- `relation_c::zulqenat_relation` meets its contract: v and n are handed on as they are, since each fits 32 bits.
use mir.Facts.{to_z-of_z}
use Rattle.relation_c.proofs.zulqenat_relation.Goals as goal

pub returns : goal.returns
returns c = rw (to_z-of_z c.ranges.v, to_z-of_z c.ranges.n) at c.relation.ensures
