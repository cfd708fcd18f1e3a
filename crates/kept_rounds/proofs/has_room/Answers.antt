-- `kept_rounds::has_room` meets its contract: the buffers of the call itself are long enough for the marks of any round and for every game,
-- so the round is played and its game is stored; how long that is does not depend on them.
use Prim.Native.Nat.{ℕ, ◌*◌, ◌≤◌}
use mathlib.Core.Path.{◌≡◌, sym, ap, subst, ◌∙◌}
use mathlib.Core.List.{List}
use native.Mathlib.Omega.{arith}
use lib.Dec.{eqb, leb}
use Rattle.numbers.proofs.Counting.{count_all}
use Rattle.kinds.specs.Ops.{op_mark}
use Rattle.kinds.specs.Steps.{op_at}
use Rattle.layout.specs.Layout.{most_steps, steps_of}
use Rattle.book.specs.Book.{steps_part}
use Rattle.book.specs.Accepted.{Accepted}
use Rattle.game.specs.declared.Game.{Game}
use Rattle.fitting.specs.Fits.{Fits}
use Rattle.stored_games.specs.Calls.{StoreAnswer}
use Rattle.round.specs.Rounds.{round}
use Rattle.round.specs.Answers.{Answer, numbers_per_mark, space_for}
use Rattle.round.proofs.After.{round_fits}
use Rattle.kept_games.proofs.Longest.{longest_stored}
use Rattle.kept_rounds.proofs.Rounds.{stored_here, never_refused}
use Rattle.kept_rounds.proofs.has_room.Goals as goal

-- two numbers for each of at most 1,024 mark steps
few_marks : (book : List ℕ) → Accepted book → space_for book ≤ numbers_per_mark * most_steps
few_marks book a = omega (arith, count_all (λ p. eqb (op_at (steps_part book) p) op_mark) (steps_of book), a.laid.counts.few_steps)

pub round-played-requires : goal.round-played-requires
round-played-requires c = let (a, fits) = c.requires in (a, fits, few_marks _ a)

-- the game behind a round fits
fitting : {book : List ℕ} {g h : Game} → Accepted book → Fits book g → h ≡ (round book g).played.state.game → Fits book h
fitting {book = book} {g = g} a fits e = subst (Fits book) (sym e) (round_fits book a g fits)

pub store_fitting-requires : goal.store_fitting-requires
store_fitting-requires c =
    let (a, fits) = c.requires in (a, fitting a fits (ap (λ (a : Answer). a.game) c.round-played.ensures))

pub returns-in-Ok : goal.returns-in-Ok
returns-in-Ok c =
    let (a, fits) = c.requires in
    let next = ap (λ (a : Answer). a.game) c.round-played.ensures in
    let fit = fitting a fits next in
    let room = longest_stored c.args.book.now c.round-played.result.game a fit in
    let kept = stored_here a fit _ room (rw c.form_1.ensures at c.in-Ok.ensures) in
    ap (λ n. leb n c.args.room) (ap (λ (k : StoreAnswer). k.length) kept ∙ rw next)

pub returns-in-Err : goal.returns-in-Err
returns-in-Err c =
    let (a, fits) = c.requires in
    let fit = fitting a fits (ap (λ (a : Answer). a.game) c.round-played.ensures) in
    let room = longest_stored c.args.book.now c.round-played.result.game a fit in
    absurd (never_refused a fit _ room c.in-Err.field-0 (rw c.form_1.ensures at c.in-Err.ensures))
