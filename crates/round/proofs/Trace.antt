-- The trace of a round agrees with the round, as the record of specs/claims/Trace.antt has it. Its fields, put together.
use Prim.Native.Nat.{ℕ}
use mathlib.Core.List.{List}
use Rattle.book.specs.Accepted.{Accepted}
use Rattle.game.specs.declared.Game.{Game}
use Rattle.fitting.specs.Fits.{Fits}
use Rattle.round.specs.claims.Trace.{TraceAgrees}
use Rattle.round.proofs.Accounts.{signals_completed, marks_completed}
use Rattle.round.proofs.Ends.{ends_counted, ended_in_trace}
use Rattle.round.proofs.Misses.{misses_agree}
use Rattle.round.proofs.Asked.{asked, completed_by_finding_lem}
use Rattle.round.proofs.TrueTrace.{comes, came, found, not_found_lem}
use Rattle.round.proofs.Replays.{contents_made}
use Rattle.round.proofs.NoEvents.{no_events_lem}
use Rattle.round.proofs.Ways.{stood, left_at_lem}

pub trace_agrees : (book : List ℕ) (a : Accepted book) (g : Game) → Fits book g → TraceAgrees book g
trace_agrees book a g f =
    record {
      signals = signals_completed book g;
      marks = marks_completed book g;
      ends = ended_in_trace book a g f;
      endings = ends_counted book a g f;
      misses = misses_agree book a g f;
      comes = comes book a g f;
      came = came book a g f;
      asked = asked book g;
      completed_by_finding = completed_by_finding_lem book g;
      found = found book a g f;
      not_found = not_found_lem book a g f;
      stood = λ before after h r. stood book a g f r before after h;
      left_at = left_at_lem book a g f;
      no_events = no_events_lem book a g f;
      contents = contents_made book g;
    }
