-- `kept_rounds::play_fitting` meets its contract: past both checks there is room for the marks and for the game behind the round, so the
-- round is played and its game stored. A buffer of the longest stored game's length has room for every game; of a shorter one `has_room`
-- says it.
use Prim.Native.Nat.{ℕ, ◌<◌, ◌≤◌}
use mathlib.Core.List.{List}
use mathlib.Core.Path.{sym, ap, ap₂, subst, ◌∙◌}
use native.Mathlib.Omega.{arith}
use borrow.Author.Tests.{leb-true, leb-false}
use lib.ListN.{length}
use Rattle.book.specs.Accepted.{Accepted}
use Rattle.game.specs.declared.Game.{Game}
use Rattle.fitting.specs.Fits.{Fits}
use Rattle.stored_games.specs.Forms.{form1}
use Rattle.stored_games.specs.Stored.{stored}
use Rattle.round.specs.Rounds.{round}
use Rattle.round.specs.Answers.{Answer, space_for}
use Rattle.round.proofs.After.{round_fits}
use Rattle.kept_games.specs.Alike.{most_stored}
use Rattle.kept_games.specs.Kept.{played_kept}
use Rattle.kept_games.proofs.Longest.{longest_stored}
use Rattle.kept_rounds.proofs.Rounds.{played_short_marks, played_short_buffer, played_stored, stored_here, never_refused}
use Rattle.kept_rounds.proofs.play_fitting.Goals as goal
use Rattle.kept_rounds.proofs.play_fitting.Goals.{After-form_1}
use Rattle.kept_rounds.proofs.play_fitting.Goals.{else-buffer-lt-MOST_STORED-via-then-buffer-lt-MOST_STORED+else-not-has_room}
use Rattle.kept_rounds.proofs.play_fitting.Goals.{else-buffer-lt-MOST_STORED-via-else-buffer-lt-MOST_STORED}

-- the game behind the round
abbrev next : List ℕ → Game → Game
next book g = (round book g).played.state.game

-- every game behind a round has room in a buffer of the most bytes
long_enough :
    {book : List ℕ} {g : Game} {n : ℕ} → Accepted book → Fits book g → most_stored ≤ n → length (stored form1 (next book g)) ≤ n
long_enough {book = book} {g = g} a fits h = omega (arith, longest_stored book (next book g) a (round_fits book a g fits), h)

pub returns-then-marks-mark_steps : goal.returns-then-marks-mark_steps
returns-then-marks-mark_steps c =
    let (a, fits) = c.requires in
    let short : length c.args.marks.now < space_for c.args.book.now =
    omega (arith, c.mark_steps.ensures.0, c.if-marks-mark_steps.true) in
    sym (played_short_marks a fits _ _ short)

pub returns-then-not-has_room : goal.returns-then-not-has_room
returns-then-not-has_room c =
    let (a, fits) = c.requires in
    let space : space_for c.args.book.now ≤ length c.args.marks.now =
    omega (arith, c.mark_steps.ensures.0, c.if-marks-mark_steps.false) in
    let short = leb-false _ _ (sym c.has_room.ensures ∙ c.if-not-has_room.true) in
    sym (played_short_buffer a fits _ _ space short)

pub store_fitting-requires : goal.store_fitting-requires
store_fitting-requires c =
    let (a, fits) = c.requires in
    let given = ap (λ (a : Answer). a.game) c.round-played.ensures in
    (a, subst (Fits c.args.book.now) (sym given) (round_fits _ a _ fits))

-- past the second check there is room, in either branch of it
pub returns-in_err-length : goal.returns-in_err-length
returns-in_err-length c =
    let (a, fits) = c.requires in
    let given = ap (λ (a : Answer). a.game) c.round-played.ensures in
    let f = (goal.at.returns-in_err-length c).After-form_1 in
    let room : length (stored form1 (next c.args.book.now c.args.game)) ≤ length c.args.buffer.now =
    elim f.else-buffer-lt-MOST_STORED.branch [
      | else-buffer-lt-MOST_STORED-via-then-buffer-lt-MOST_STORED+else-not-has_room v ↦
          leb-true _ _ (sym v.has_room.ensures ∙ v.if-not-has_room.false)
      | else-buffer-lt-MOST_STORED-via-else-buffer-lt-MOST_STORED v ↦ long_enough a fits v.if-buffer-lt-MOST_STORED.false
    ]
    in
    absurd
    (never_refused a (round_fits _ a _ fits) _ room c.in_err-length.field-0.0
    (rw (c.form_1.ensures, given) at c.in_err-length.ensures))

pub returns : goal.returns
returns c =
    let (a, fits) = c.requires in
    let space : space_for c.args.book.now ≤ length c.args.marks.now =
    omega (arith, c.mark_steps.ensures.0, c.if-marks-mark_steps.false) in
    let r = (goal.at.returns c).After-form_1 in
    let room : length (stored form1 (next c.args.book.now c.args.game)) ≤ length c.args.buffer.now =
    elim r.else-buffer-lt-MOST_STORED.branch [
      | else-buffer-lt-MOST_STORED-via-then-buffer-lt-MOST_STORED+else-not-has_room w ↦
          leb-true _ _ (sym w.has_room.ensures ∙ w.if-not-has_room.false)
      | else-buffer-lt-MOST_STORED-via-else-buffer-lt-MOST_STORED w ↦ long_enough a fits w.if-buffer-lt-MOST_STORED.false
    ]
    in
    let given = ap (λ (a : Answer). a.game) c.round-played.ensures in
    let kept = stored_here a (round_fits _ a _ fits) _ room (rw (c.form_1.ensures, given) at c.in_ok-length.ensures) in
    rw c.as_verdict.ensures (ap₂ played_kept c.round-played.ensures kept ∙ sym (played_stored a fits _ _ space room))
