-- The length of a stored game is found where it was not kept: the header and the lists' counts lie inside the game, so what stands behind
-- it in the buffer changes none of them, and of the game alone its end is its length.
use Prim.Native.Nat.{ℕ, ◌+◌, ◌≤◌}
use mathlib.Core.Path.{◌≡◌, sym, ap, ◌∙◌}
use mathlib.Core.List.{List, ◌++◌}
use native.Mathlib.Omega.{arith}
use lib.ListN.{length, drop, get_or-append}
use Rattle.numbers.specs.Numbers.{half_at}
use Rattle.numbers.specs.Buffers.{with_front}
use Rattle.stored_games.specs.declared.Form.{Form}
use Rattle.stored_games.specs.Forms.{form1}
use Rattle.stored_games.specs.Stored.{stored}
use Rattle.stored_games.specs.Reading.{parts_of}
use Rattle.stored_games.proofs.Forms.{form1_usable}
use Rattle.stored_games.proofs.Back.{stored_formed}
use Rattle.kept_games.specs.Kept.{end_in, kept_length}
use Rattle.kept_games.specs.Alike.{FindsLength}
use Rattle.kept_games.proofs.Front.{front_kept, read_accepted}

module _ (s rest : List ℕ) where
  half_inside : (i : ℕ) → i + 2 ≤ length s → half_at (s ++ rest) i ≡ half_at s i
  half_inside i h = rw (get_or-append s rest 0 i (omega arith), get_or-append s rest 0 (i + 1) (omega arith))

  parts_inside : (f : Form) → (parts_of f s).end ≤ length s → parts_of f (s ++ rest) ≡ parts_of f s
  unfolding parts_of
  parts_inside f h =
      let parts = parts_of f s in
      rw (
        half_inside 2 (omega arith),
        half_inside 6 (omega arith),
        half_inside parts.listed (omega arith),
        half_inside parts.starting (omega arith),
      )

pub finds_length : (book : List ℕ) → FindsLength book
unfolding kept_length
finds_length book g buffer a fits =
    let s = stored form1 g in
    let few : g.counts.signals ≤ form1.mostsignals = rw (ap (λ n. n.signals) fits.numbers) a.laid.counts.few_signals in
    let size = (stored_formed form1_usable a fits few).size in
    let end : end_in (with_front s buffer) ≡ length s =
    ap (λ p. p.end) (parts_inside s (drop (length s) buffer) form1 (omega (arith, size))) ∙ sym size
    in
    rw (end, front_kept s buffer, read_accepted a fits)
