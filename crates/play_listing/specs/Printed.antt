-- What the program `rounds` prints for a book: document 01, "Set plays", its last part. "The program `rounds` .. plays until every listed
-- routine has ended with none to start, at most 100 rounds."
use Rattle.std.specs.Prelude.{ℕ, zero, suc, ◌+◌, ◌*◌, ◌≤◌, ◌≡◌, Bool, true, ◌&&◌, not, ◌⊎◌, List, [], ◌∷◌, ◌++◌, map, eqb, ℤ, pos, length, replicate, take, if◌then◌else◌}
use Rattle.kinds.specs.Steps.{step_bytes}
use Rattle.layout.specs.Layout.{header_bytes, entry_bytes, most_routines, most_steps}
use Rattle.game.specs.declared.Game.{Game}
use Rattle.game.specs.Game.{blank_game}
use Rattle.setup.specs.SetUp.{set_up}
use Rattle.round.specs.Answers.{numbers_per_mark, Answer, answer}
use Rattle.plays.specs.Plays.{PlayCall, Play, is_over}
use Rattle.listing.specs.Listing.{round_lines, refusal_line}

-- "at most 100 rounds"
abbrev pub most_rounds : ℕ
most_rounds = 100

-- the bytes of a longest book: "The length is exactly 12 + 4R + 8S."
abbrev pub longest_book : ℕ
longest_book = header_bytes + entry_bytes * most_routines + step_bytes * most_steps

-- a buffer for as many marks as a book may have mark steps
abbrev pub mark_buffer : List ℤ
mark_buffer = replicate (numbers_per_mark * most_steps) (pos 0)

-- the answer of the round that is played next
abbrev pub next_answer : List ℕ → Game → Answer
next_answer book g = answer book g mark_buffer

-- the lines of a round with this number and this answer
abbrev pub lines_of : ℕ → Answer → List ℕ
lines_of n a = round_lines n a.passes (take (numbers_per_mark * a.marks) a.buffer)

-- the lines of at most k rounds from game g on, of which the first is round n
unfoldable pub lines_from : List ℕ → ℕ → ℕ → Game → List ℕ
lines_from book zero n g = []
lines_from book (suc k) n g =
    let a = next_answer book g in
    if is_over g then [] else lines_of n a ++ lines_from book k (n + 1) a.game

-- "For a refused book it prints only `refused` with number and place"
unfoldable pub printed : List ℕ → List ℕ
printed book =
    let o = set_up book blank_game in
    if eqb o.verdict.number 0 then lines_from book most_rounds 1 o.game else refusal_line o.verdict

-- the lines of rounds with these answers, of which the first is round n
unfoldable pub lines_of_all : ℕ → List Answer → List ℕ
lines_of_all n [] = []
lines_of_all n (a ∷ answers) = lines_of n a ++ lines_of_all (n + 1) answers

-- no round with these answers is played behind the end of a play that has come to game g
unfoldable pub until_over : Game → List Answer → Bool
until_over g [] = true
until_over g (a ∷ answers) = not (is_over g) && until_over a.game answers

-- what is printed of an accepted book: a play of rounds alone, each of them accepted, until it is over or has as many as are allowed
pub record PrintsPlay (book : List ℕ) : Type 0 where
  pub answers : List Answer
  pub game : Game
  pub play : Play book (map PlayCall.round answers) game
  pub lines : printed book ≡ lines_of_all 1 answers
  pub until : until_over (set_up book play.lent).game answers ≡ true
  pub few : length answers ≤ most_rounds
  pub ends : (is_over game ≡ true) ⊎ (length answers ≡ most_rounds)
