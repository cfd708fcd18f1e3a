-- Plays: what is done with a game from set-up on, and when a play is over.
use Rattle.std.specs.Prelude.{ℕ, ◌≡◌, Bool, ◌&&◌, List, [], ◌∷◌, eqb, ℤ}
use Rattle.numbers.specs.Counting.{all_below}
use Rattle.verdicts.specs.declared.Verdict.{Verdict}
use Rattle.verdicts.specs.Verdicts.{accepted}
use Rattle.lines.specs.Lines.{item_at, used_of}
use Rattle.game.specs.declared.Game.{Game}
use Rattle.game.specs.Game.{ended, routine_at}
use Rattle.setup.specs.SetUp.{set_up}
use Rattle.orders.specs.Orders.{ordered}
use Rattle.round.specs.Answers.{Answer, answer}

-- what is done in a play: a round is played, with this answer; an order of this kind and number is given, and this is told
pub data PlayCall : Type 0 where
  round : Answer → PlayCall
  order : ℕ → ℕ → Verdict → PlayCall

-- what is done from one game on leads to another: rounds that are accepted, each with any buffer for its marks, and orders, which may be
-- refused
pub data PlayFrom (book : List ℕ) : Game → List PlayCall → Game → Type 0 where
  here : {g : Game} → PlayFrom book g [] g
  plays :
      {g h : Game} {calls : List PlayCall} (buffer : List ℤ) →
      (answer book g buffer).verdict ≡ accepted →
      PlayFrom book (answer book g buffer).game calls h →
      PlayFrom book g (round (answer book g buffer) ∷ calls) h
  orders :
      {g h : Game} {calls : List PlayCall} (kind n : ℕ) →
      PlayFrom book (ordered book g kind n).game calls h →
      PlayFrom book g (order kind n (ordered book g kind n).verdict ∷ calls) h

-- a play of a book: what was done since set-up, and the game that it has come to
pub record Play (book : List ℕ) (calls : List PlayCall) (g : Game) : Type 0 where
  pub lent : Game
  pub accepts : (set_up book lent).verdict ≡ accepted
  pub from : PlayFrom book (set_up book lent).game calls g

-- "every listed routine has ended with none to start"
unfoldable pub is_over : Game → Bool
is_over g =
    eqb (used_of g.starting) 0
    && all_below (used_of g.listed) (λ i. eqb (routine_at g (item_at g.listed i)).stage ended)
