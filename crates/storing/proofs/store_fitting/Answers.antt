-- `storing::store_fitting` meets its contract: the length that the buffer is held against is that of the stored game, so the game is
-- refused with 14 or written, as storing says of a game that fits.
use Prim.Native.Nat.{ℕ}
use mathlib.Core.Path.{◌≡◌, refl, sym, ◌∙◌}
use mathlib.Core.List.{List}
use native.Mathlib.Nat.{zero-add}
use native.Mathlib.Omega.{arith}
use lib.ListN.{length}
use Rattle.lines.specs.Lines.{used_of}
use Rattle.stored_games.specs.Stored.{stored, length_of}
use Rattle.stored_games.proofs.Ends.{stored_length}
use Rattle.stored_games.proofs.Keeping.{stores}
use Rattle.storing.proofs.Answers.{short_refuses_fitting, fitting_within}
use Rattle.game.specs.declared.Game.{Game}
use Rattle.fitting.specs.Fits.{Fits}
use Rattle.stored_games.specs.declared.Form.{Form}
use Rattle.stored_games.specs.Forms.{Usable}
use Rattle.storing.proofs.store_fitting.Goals as goal

-- the length of a fitting game, by the entries in use of its lists
long :
    {f : Form} {book : List ℕ} {g : Game} {n listed starting : ℕ} → Usable f → Fits book g →
    n ≡ length_of f g.counts listed starting → listed ≡ used_of g.listed → starting ≡ used_of g.starting → n ≡ length (stored f g)
long {g = g} usable fits e l s = let sized = fits.sized in rw (l, s) at e ∙ sym (stored_length usable g sized.listed sized.starting)

pub stored_length-requires : goal.stored_length-requires
stored_length-requires c =
    let (book, fits) = c.requires in
    record {
      within_limits = fitting_within book fits;
      listed_le_most_entries = (c.used.ensures.1, c.used-2.ensures.1);
    }

pub returns-then-out-stored_length : goal.returns-then-out-stored_length
returns-then-out-stored_length c =
    let (book, fits) = c.requires in
    let long = long c.args.form.usable fits c.stored_length.ensures c.used.ensures.0 c.used-2.ensures.0 in
    short_refuses_fitting _ _ _ _ _ book refl fits (omega (arith, long, c.if-out-stored_length.true))

pub write_game-requires : goal.write_game-requires
write_game-requires c =
    let (book, fits) = c.requires in
    let needed = rw (c.used-2.ensures.0, c.used.ensures.0) at c.stored_length.ensures in
    record {
      within_limits = fitting_within book fits;
      starting_in_bounds = omega (arith, needed, c.if-out-stored_length.false);
    }

pub returns : goal.returns
returns c =
    let a = c.args in
    let (book, fits) = c.requires in
    let long = long c.args.form.usable fits c.stored_length.ensures c.used.ensures.0 c.used-2.ensures.0 in
    let put = c.write_game.ensures in
    rw (put.place, put.buffer, zero-add (length (stored a.form.form a.game)))
    (sym (stores _ _ _ _ (book, fits, omega (arith, long, c.if-out-stored_length.false))))
