-- The game, the marks and the passes of an accepted round are those that the rules give, and no others. That the answer is accepted says
-- that the game fits; the rest is what is shown of the round that it has played.
use Prim.Native.Nat.{ℕ, ◌*◌, ◌≤◌, ◌<◌}
use mathlib.Core.Path.{◌≡◌, refl, subst}
use mathlib.Core.Bool.{false}
use mathlib.Core.List.{List, []}
use mathlib.Core.Logic.{dite}
use native.Mathlib.Bridge.{le_prop}
use native.Mathlib.Decide.{dec_lt}
use native.Mathlib.Omega.{arith}
use lib.ListN.{length, drop}
use lib.IntN.{ℤ}
use Rattle.verdicts.specs.Verdicts.{accepted}
use Rattle.layout.specs.Layout.{routines_of}
use Rattle.book.specs.Accepted.{Accepted}
use Rattle.game.specs.declared.Game.{Game}
use Rattle.game.specs.Game.{routine_at}
use Rattle.fitting.specs.Fits.{Fits}
use Rattle.round.specs.declared.Position.{Position}
use Rattle.round.specs.State.{State}
use Rattle.round.specs.Actions.{position_of}
use Rattle.round.specs.Rounds.{round}
use Rattle.round.specs.Answers.{marks_in, numbers_per_mark, answer, space_for}
use Rattle.round.proofs.Reasons.{accepted_played}
use Rattle.round.proofs.Once.{completed_once}
use Rattle.round.proofs.After.{round_fits}
use Rattle.round.proofs.Demand.{round_accepted}
use Rattle.rules.specs.Instructions.{nothing}
use Rattle.rules.specs.Residual.{residual, ◌⇝◌, same}
use Rattle.rules.specs.Scheduled.{scheduler_in}
use Rattle.rules.specs.Claims.{StandFor, threads_of, ByTheRules}
use Rattle.rules.proofs.Rounds.{round_given}
use Rattle.rules.proofs.Buffers.{written_marks, written_beyond, written_length}

-- a game between two rounds
between : Game → State
between g = record { game = g; present = []; end_signals = []; numbers = []; lost = 0; moved = false; eoi = false }

-- a game's own threads stand for it
threads_stand : (book : List ℕ) (a : Accepted book) (g : Game) → StandFor book a (threads_of book a g) g
threads_stand book a g r h = by (dec_lt r (routines_of book))
  where
    x : Position
    x = position_of (routine_at g r)

    by : (d : Dec (r < routines_of book)) → dite d (λ l. residual book a r l x) (λ n. nothing) ⇝ residual book a r h x
    by (yes l) = subst (λ (m : r < routines_of book). residual book a r l x ⇝ residual book a r m x) (le_prop l h) same
    by (no n) = absurd (n h)

-- whatever game a round is accepted for, the rules give its answer
pub round_by_the_rules :
    (book : List ℕ) (g : Game) (buffer : List ℤ) → (answer book g buffer).verdict ≡ accepted →
    ByTheRules book g buffer (answer book g buffer)
unfolding between scheduler_in
round_by_the_rules book g buffer e =
    let ((a, fits, space), played) = accepted_played book g buffer e in
    let (run, log, derived, passes, stands, positions) =
    round_given book a (threads_of book a g) (between g) [] fits (threads_stand book a g) in
    let last = (round book g).played.state in
    let marks = marks_in (round book g).played.trace in
    let room : numbers_per_mark * length marks ≤ length buffer = omega (arith, space, (completed_once book a g fits).space) in (
      a,
      log,
      run,
      scheduler_in last marks,
      rw played (
          record {
            lent_fits = fits;
            long_enough = space;
            verdict = rw played at e;
            derived = derived;
            passes = passes;
            scheduler = refl;
            positions = positions;
            standing = stands;
            fits = round_fits book a g fits;
            mark_count = refl;
            lost = refl;
            buffered = written_marks marks (drop (numbers_per_mark * length marks) buffer);
            beyond = written_beyond marks (drop (numbers_per_mark * length marks) buffer);
            same_length = written_length marks buffer room;
          }
          ),
    )

-- and a round is accepted for every game that fits an accepted book, if the buffer is long enough
pub every_round_by_the_rules :
    (book : List ℕ) (g : Game) (buffer : List ℤ) → Accepted book → Fits book g → space_for book ≤ length buffer →
    ByTheRules book g buffer (answer book g buffer)
every_round_by_the_rules book g buffer a f space = round_by_the_rules book g buffer (round_accepted book a g f buffer space)
