-- Any two answers that the rules give for one book, game and buffer are the same answer, which is the definition's. The rules lead to one
-- log, to one scheduler and to one instruction a thread, whichever way the book is parsed; scheduler, log and fitting leave one game, and
-- the marks one buffer.
use Prim.Native.Nat.{ℕ, ◌<◌}
use mathlib.Core.Path.{◌≡◌, sym, ap, subst, ◌∙◌}
use mathlib.Core.List.{List, []}
use lib.IntN.{ℤ}
use lib.ListN.{length}
use Rattle.layout.specs.Layout.{routines_of}
use Rattle.game.specs.declared.Game.{Game}
use Rattle.game.specs.Game.{routine_at}
use Rattle.round.specs.declared.Position.{Position}
use Rattle.round.specs.Actions.{position_of}
use Rattle.round.specs.Answers.{Answer, answer}
use Rattle.rules.specs.Instructions.{Instruction}
use Rattle.rules.specs.Schedulers.{Scheduler, with_current}
use Rattle.rules.specs.Instants.{Execution, Log, Round}
use Rattle.rules.specs.Positions.{last_of, LeftBy, stays, ended, paused}
use Rattle.rules.specs.Scheduled.{nothing_present, scheduler_of}
use Rattle.rules.specs.Claims.{ByTheRules}
use Rattle.rules.proofs.Walks.{Marks}
use Rattle.rules.proofs.Determined.{instant_determined}
use Rattle.rules.proofs.OneParse.{threads_same}
use Rattle.rules.proofs.Buffers.{Buffered, same_buffer}
use Rattle.rules.proofs.SameGame.{same_game}
use Rattle.rules.proofs.Adequacy.{every_round_by_the_rules}

-- a routine is left at one position
left_once :
    {size : ℕ} {before x y : Position} {e f : Execution} → LeftBy size before e x → LeftBy size before f y → e ≡ f → x ≡ y
left_once stays stays s = cc
left_once stays ended s = cc
left_once stays paused s = cc
left_once ended stays s = cc
left_once ended ended s = cc
left_once ended paused s = cc
left_once paused stays s = cc
left_once paused ended s = cc
left_once paused paused s = cc

pub same_answer :
    (book : List ℕ) (g : Game) (buffer : List ℤ) (x y : Answer) → ByTheRules book g buffer x → ByTheRules book g buffer y → x ≡ y
same_answer book g buffer x y (a, log, run, σ, p) (c, other, run', σ', q) =
    let derived = subst (λ (run : ℕ → Instruction). Round other run (scheduler_of g [] 0) run' σ') (threads_same book c a g) q.derived in
    let (logs, _, lasts) = instant_determined derived p.derived in
    let marks : Marks = σ.env.marks in
    let same : σ'.env.marks ≡ marks = ap (λ (τ : Scheduler). τ.env.marks) lasts in
    let cut : σ'.env.lost ≡ σ.env.lost = ap (λ (τ : Scheduler). τ.env.lost) lasts in
    let schedulers : scheduler_of x.game marks σ.env.lost ≡ scheduler_of y.game marks σ.env.lost =
    p.scheduler ∙ ap (λ (τ : Scheduler). with_current τ nothing_present) (sym lasts) ∙ sym q.scheduler
    ∙ ap (λ (τ : Scheduler). scheduler_of y.game τ.env.marks τ.env.lost) lasts in
    let positions : (r : ℕ) → r < routines_of book → position_of (routine_at x.game r) ≡ position_of (routine_at y.game r) =
    λ r l. left_once (p.positions r l) (q.positions r l) (ap (last_of r) (sym logs)) in
    let game = same_game book x.game y.game marks σ.env.lost p.fits q.fits schedulers positions in
    let verdict = p.verdict ∙ sym q.verdict in
    let passes = p.passes ∙ ap (λ (l : Log). length l) (sym logs) ∙ sym q.passes in
    let counted = p.mark_count ∙ sym (rw same at q.mark_count) in
    let lost = p.lost ∙ sym (q.lost ∙ cut) in
    let buffer =
    same_buffer marks x.buffer y.buffer buffer p.buffered (subst (λ (ms : Marks). Buffered ms y.buffer) same q.buffered)
    p.beyond (rw same at q.beyond) in
    λ i. record { verdict = verdict i; game = game i; passes = passes i; marks = counted i; lost = lost i; buffer = buffer i }

-- so it is the definition's
pub only_answer : (book : List ℕ) (g : Game) (buffer : List ℤ) (x : Answer) → ByTheRules book g buffer x → x ≡ answer book g buffer
only_answer book g buffer x given =
    let (a, _, _, _, p) = given in
    same_answer book g buffer x (answer book g buffer) given (every_round_by_the_rules book g buffer a p.lent_fits p.long_enough)
