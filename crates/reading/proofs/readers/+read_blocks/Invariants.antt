-- The reader of a block and those of an if and of a while call each other; what falls along the cycle, so that it ends, is the depth that
-- is left, and at equal depths an if or a while within its block. The loop's invariant: what is left of the block from `at` on, with what
-- is told so far, is the whole block lowered by `low`; each turn of the loop takes one step out of it.
use Rattle.std.proofs.Common.{◌-◌, ◌≡◌, ◌*◌, ◌≤◌, ◌+◌}
use Rattle.blocks.specs.Blocks.{block_by, step_of, block_of}
use Rattle.reading.specs.Found.{view_by, lowered}
use Rattle.reading.proofs.readers.+read_blocks.Given as goal

abbrev pub decreases-read_block : goal.decreases-read_block
decreases-read_block l = 2 * l.depth + 1

abbrev pub decreases-read_if : goal.decreases-read_if
decreases-read_if l = 2 * l.depth

abbrev pub decreases-read_while : goal.decreases-read_while
decreases-read_while l = 2 * l.depth

abbrev pub invariant-read_block-loop-at : goal.invariant-read_block-loop-at
invariant-read_block-loop-at l =
    let place = view_by l.limits l.steps in
    (block_by place l.count (step_of place l.count l.depth) (l.count - l.at) l.at l.pauses l.lowest
    ≡ lowered l.low (block_of place l.count l.depth l.from))
    × (l.lowest ≤ l.count)

abbrev pub decreases-read_block-loop-at : goal.decreases-read_block-loop-at
decreases-read_block-loop-at l = l.count - l.at
