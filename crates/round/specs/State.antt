-- What is kept while a round is played (the paper's section 2.3, with the game), and what happens in it.
use Rattle.std.specs.Prelude.{ℕ, ◌-◌, Bool, false, ◌||◌, List, [], ◌∷◌, eqb, leb, length, get_or, ℤ, pos, if◌then◌else◌}
use Rattle.game.specs.declared.Game.{Game}
use Rattle.game.specs.Game.{routine_at}
use Rattle.game.specs.Game as stage

-- "Signals and numbers of a round are not kept in the game."
pub record State : Type 0 where
  pub game : Game
  -- the signals that are present, and the end signals, a flag for each routine (together the paper's events; term(t) is an end signal)
  pub present : List Bool
  pub end_signals : List Bool
  -- the numbers given so far, in order, each behind its signal (values)
  pub numbers : List (ℕ × ℤ)
  -- what the additions so far have cut off, all together
  pub lost : ℕ
  -- move and eoi
  pub moved : Bool
  pub eoi : Bool

-- a state with another game, other signals, other end signals, other numbers, another total of what was cut off, other flags
abbrev pub with_game : State → Game → State
with_game s g =
    record {
      game = g;
      present = s.present;
      end_signals = s.end_signals;
      numbers = s.numbers;
      lost = s.lost;
      moved = s.moved;
      eoi = s.eoi;
    }

abbrev pub with_present : State → List Bool → State
with_present s l =
    record {
      game = s.game;
      present = l;
      end_signals = s.end_signals;
      numbers = s.numbers;
      lost = s.lost;
      moved = s.moved;
      eoi = s.eoi;
    }

abbrev pub with_end_signals : State → List Bool → State
with_end_signals s l =
    record {
      game = s.game;
      present = s.present;
      end_signals = l;
      numbers = s.numbers;
      lost = s.lost;
      moved = s.moved;
      eoi = s.eoi;
    }

abbrev pub with_numbers : State → List (ℕ × ℤ) → State
with_numbers s l =
    record {
      game = s.game;
      present = s.present;
      end_signals = s.end_signals;
      numbers = l;
      lost = s.lost;
      moved = s.moved;
      eoi = s.eoi;
    }

abbrev pub with_lost : State → ℕ → State
with_lost s n =
    record {
      game = s.game;
      present = s.present;
      end_signals = s.end_signals;
      numbers = s.numbers;
      lost = n;
      moved = s.moved;
      eoi = s.eoi;
    }

abbrev pub with_moves : State → Bool → Bool → State
with_moves s moved eoi =
    record {
      game = s.game;
      present = s.present;
      end_signals = s.end_signals;
      numbers = s.numbers;
      lost = s.lost;
      moved = moved;
      eoi = eoi;
    }

-- what a try of ops 8 to 12 asks for: "its signal, the joined routine's end or the signal's k-th number"
pub data Thing : Type 0 where
  signal : ℕ → Thing
  end : ℕ → Thing
  number : ℕ → ℕ → Thing

-- An event of a round is something that happens in it (the paper's event is a signal here). A trace, the events in order, is kept beside
-- the state, which does not depend on it: a step gives a signal, with its k-th number or, for k = 0, with none; a routine ends; a
-- routine's try at a place finds a thing missing, or finds it and goes past; a routine writes a mark; a routine completes the step at a
-- place, so that its turn goes on behind it. Of a step that is completed this comes first, and then what else happens in it. A step that
-- halts the turn is not completed: a rest, a step whose thing is missing, the routine's end.
pub data Event : Type 0 where
  gave : ℕ → ℕ → Event
  ended : ℕ → Event
  missing : ℕ → ℕ → Thing → Event
  past : ℕ → ℕ → Thing → Event
  marked : ℕ → ℤ → Event
  completed : ℕ → ℕ → Event

-- the numbers given with signal e, in order: values(event)
unfoldable pub numbers_with : ℕ → List (ℕ × ℤ) → List ℤ
numbers_with e [] = []
numbers_with e (x ∷ xs) = let rest = numbers_with e xs in if eqb x.0 e then x.1 ∷ rest else rest

abbrev pub numbers_of : State → ℕ → List ℤ
numbers_of s e = numbers_with e s.numbers

-- the k-th of them
abbrev pub number_at : State → ℕ → ℕ → ℤ
number_at s e k = get_or (numbers_of s e) (k - 1) (pos 0)

-- A routine in this stage counts as ended for a join: stages 3 and 4, the highest. Document 02: "a routine that was stopped counts as ended
-- for joins, at any later time. .. Only a routine given stage 4 counts". Only the eight actions give stage 4, so within a round what comes
-- for a join is the routine's end.
abbrev pub counts_as_ended : ℕ → Bool
counts_as_ended k = leb stage.ended k

-- Routine r counts as ended, or its end signal is present: what a join asks, by rules 17, 18, 28 and 29.
-- "A join left waiting asks again at every try, by rules 17 and 28, whether the routine has ended."
unfoldable pub is_end_there : State → ℕ → Bool
is_end_there s r = counts_as_ended (routine_at s.game r).stage || get_or s.end_signals r false

unfoldable pub is_there : State → Thing → Bool
is_there s (signal e) = get_or s.present e false
is_there s (end r) = is_end_there s r
is_there s (number e k) = leb k (length (numbers_of s e))
