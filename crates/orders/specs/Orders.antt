-- Outside orders: document 01, "The game", and refusals 8 and 9.
use Rattle.std.specs.Prelude.{ℕ, true, List, [], ◌∷◌, ltb, get_or, set}
use Rattle.kinds.specs.declared.Counts.{Counts}
use Rattle.verdicts.specs.declared.Verdict.{Verdict}
use Rattle.verdicts.specs.Verdicts.{refused, ◌or_else◌, unless}
use Rattle.layout.specs.Layout.{counts_of}
use Rattle.book.specs.Book.{book_verdict}
use Rattle.game.specs.declared.Game.{Game}
use Rattle.game.specs.Game.{routine_at, with_stop, with_suspend, with_resume, with_start, with_starting, with_broadcast, with_routine}
use Rattle.fitting.specs.Fitting.{fit_verdict}
use Rattle.game.specs.declared.Outcome.{Outcome}
use Rattle.game.specs.Outcomes.{unless_refused}

-- how many numbers an order of each kind may name: signals for kind 0, routines for 1 to 4; an unknown kind has none
abbrev pub order_count : Counts → ℕ → ℕ
order_count counts kind =
    let E = counts.signals in
    let R = counts.routines in
    get_or (E ∷ R ∷ R ∷ R ∷ R ∷ []) kind 0

-- 8. "An order of unknown kind, or a number not below its count."
abbrev pub number_verdict : List ℕ → ℕ → ℕ → Verdict
number_verdict s kind n = unless (ltb n (order_count (counts_of s) kind)) (refused 8 0)

-- "an order checks 1 to 7, then 9, 8", "The answer is the number and the place (0 from 8 on, unless said ..)"
unfoldable pub order_verdict : List ℕ → Game → ℕ → ℕ → Verdict
order_verdict s g kind n = book_verdict s or_else fit_verdict s g or_else number_verdict s kind n

-- "by kind: 0 broadcast a signal, 1 start, 2 stop, 3 suspend, 4 resume. Each joins its list for the next round."
unfoldable pub obeyed : Game → ℕ → ℕ → Game
obeyed g kind n =
    let x = routine_at g n in
    get_or
    (with_broadcast g (set g.broadcast n true)
    ∷ with_starting g (with_start g.starting n x.stage)
    ∷ with_routine g n (with_stop x)
    ∷ with_routine g n (with_suspend x)
    ∷ with_routine g n (with_resume x)
    ∷ [])
    kind g

-- an outside order: the answer, and the game with the order in its list, or as lent
unfoldable pub ordered : List ℕ → Game → ℕ → ℕ → Outcome
ordered s g kind n = unless_refused (order_verdict s g kind n) (obeyed g kind n) g
