-- `pieces::whole_lines` meets its contract: behind the last end of a line is what stands before the first from the back.
use Prim.Native.Nat.{ℕ, zero, suc, ◌-◌, ◌≤◌}
use mathlib.Core.Bool.{Bool}
use mathlib.Core.List.{List}
use mathlib.Core.Path.{◌≡◌, sym, ap, ◌∙◌}
use native.Mathlib.Omega.{arith}
use lib.ListN.{length, get_or, take}
use lib.Seq.{take_all, take-suc}
use Rattle.std.specs.Prelude.{◌==◌, reverse}
use Rattle.std.specs.List.{position, position_or_len}
use Rattle.std.specs.Option.{unwrap_or}
use Rattle.std.proofs.lemmas.List.{reverse-append, length-reverse}
use Rattle.numbers.proofs.Tests.{by_flag}
use Rattle.words.proofs.Places.{or_end}
use Rattle.pieces.specs.Pieces.{line_end, whole_within, whole_lines}
use Rattle.pieces.proofs.whole_lines.Goals as goal

abbrev ends_line : ℕ → Bool
ends_line b = b == line_end

-- of the first n bytes
from_back : (s : List ℕ) (n : ℕ) → n ≤ length s → whole_within s n ≡ n - position_or_len ends_line (reverse (take n s))
unfolding whole_within
from_back s zero h = omega arith
from_back s (suc n) h =
    by_flag (ends_line (get_or s n 0))
    (λ t. rw (take-suc s n 0 h, reverse-append (take n s), t) (omega arith))
    (λ f. rw (take-suc s n 0 h, reverse-append (take n s), f) (omega (arith, from_back s n (omega arith))))

whole : (s : List ℕ) (k : ℕ) → k ≡ unwrap_or (position ends_line (reverse s)) (length s) → length s - k ≡ whole_lines s
whole s k e =
    let all : take (length s) s ≡ s = take_all (length s) s (omega arith) in
    let behind = or_end ends_line (reverse s) {n = length s} (sym (length-reverse s)) in
    let back = rw all at (from_back s (length s) (omega arith)) in
    ap (λ (n : ℕ). length s - n) (e ∙ behind) ∙ sym back

pub returns : goal.returns
returns c =
    let s = c.args.text.now in
    (whole s c.unwrap_or.result (rw c.behind_lines.ensures at c.unwrap_or.ensures), omega arith)
