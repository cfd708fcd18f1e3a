-- `Text::put` meets its contract. The loop's invariant: what is left of the text, put behind what is there by now, gives what the whole
-- text gives behind what was there.
use mathlib.Core.Path.{◌≡◌}
use lib.ListN.{drop}
use Rattle.texts.specs.Texts.{with_text}
use Rattle.texts.specs.Held.{held}
use Rattle.texts.proofs.Text.put.Given as goal

abbrev pub invariant-loop-c : goal.invariant-loop-c
invariant-loop-c l =
    (l.self.out.ghost_name ≡ l.initial.self.out.ghost_name)
    × (with_text (held l.self) (drop l.c-index l.text) ≡ with_text (held l.initial.self) l.text)
