-- Two games as bytes, stated by hand and compared by evaluation: one as set up, and one in which every field is in use. Its routines have
-- flags that tell each of the five from the others. Then bytes that are read, and what is told of them: one fault each.
use Rattle.std.specs.Prelude.{ℕ, ◌+◌, ◌*◌, true, false, List, [], ◌∷◌, ◌++◌, map, pos, negsuc, length, take, drop, replicate, set}
use Rattle.numbers.specs.Bytes.{half_bytes}
use Rattle.book.specs.Written.{rest_for, signal, joined, book}
use Rattle.lines.specs.Lines.{empty, pushed}
use Rattle.game.specs.declared.Routine.{Routine}
use Rattle.game.specs.declared.Game.{Game}
use Rattle.game.specs.Game.{blank_for, with_starting}

-- a game, and its bytes in form 1
pub record Example : Type 0 where
  pub game : Game
  pub bytes : List ℕ

-- two routines and a signal, as set up: routine 0 is to start
abbrev as_set_up : Game
as_set_up = with_starting (blank_for (record { routines = 2; signals = 1; counters = 0 })) (pushed empty 0)

-- routine 0: not started, suspended, to stop
abbrev new : Routine
new =
    record {
      stage = 0;
      place = 0;
      left = 0;
      suspended = true;
      begun = false;
      stopping = true;
      suspending = false;
      resuming = false;
    }

-- routine 1: rested, suspended, at place 300, begun with 70,000 left, to resume
abbrev busy : Routine
busy =
    record {
      stage = 2;
      place = 300;
      left = 70000;
      suspended = true;
      begun = true;
      stopping = false;
      suspending = false;
      resuming = true;
    }

-- routine 2: ended, to suspend and to resume
abbrev over : Routine
over =
    record {
      stage = 3;
      place = 5;
      left = 0;
      suspended = false;
      begun = false;
      stopping = false;
      suspending = true;
      resuming = true;
    }

-- three routines, ten signals and two counters; 2 and 1 are listed, 0 is to start, signals 0, 3 and 9 are to be broadcast
abbrev in_use : Game
in_use =
    let none = blank_for (record { routines = 3; signals = 10; counters = 2 }) in
    record {
      counts = none.counts;
      routines = set (set (set none.routines 0 new) 1 busy) 2 over;
      counters = set (set none.counters 0 (negsuc 0)) 1 (pos 1000000);
      listed = pushed (pushed empty 2) 1;
      starting = pushed empty 0;
      broadcast = set (set (set none.broadcast 0 true) 3 true) 9 true;
    }

abbrev pub examples : List Example
examples =
    record {
      game = as_set_up;
      bytes =
          -- "form 1, R, E, C, and the offsets of records (14), counters and lists"
          (1 ∷ 0 ∷ 2 ∷ 0 ∷ 1 ∷ 0 ∷ 0 ∷ 0 ∷ 14 ∷ 0 ∷ 30 ∷ 0 ∷ 30 ∷ 0 ∷ [])
          ++ replicate 16 0
          -- "a 16-bit count and one byte a routine"
          ++ (0 ∷ 0 ∷ [])
          ++ (1 ∷ 0 ∷ 0 ∷ [])
          ++ replicate 8 0;
    }
    ∷ record {
      game = in_use;
      bytes =
          (1 ∷ 0 ∷ 3 ∷ 0 ∷ 10 ∷ 0 ∷ 2 ∷ 0 ∷ 14 ∷ 0 ∷ 38 ∷ 0 ∷ 46 ∷ 0 ∷ [])
          -- "stage, flags (1 suspended, 2 begun, 4 to stop, 8 to suspend, 16 to resume), place in 16 bits, count left in 32"
          ++ (0 ∷ 5 ∷ 0 ∷ 0 ∷ 0 ∷ 0 ∷ 0 ∷ 0 ∷ [])
          ++ (2 ∷ 19 ∷ 44 ∷ 1 ∷ 112 ∷ 17 ∷ 1 ∷ 0 ∷ [])
          ++ (3 ∷ 24 ∷ 5 ∷ 0 ∷ 0 ∷ 0 ∷ 0 ∷ 0 ∷ [])
          -- "Counters have 32 bits, two's complement."
          ++ (255 ∷ 255 ∷ 255 ∷ 255 ∷ 64 ∷ 66 ∷ 15 ∷ 0 ∷ [])
          ++ (2 ∷ 0 ∷ 2 ∷ 1 ∷ [])
          ++ (1 ∷ 0 ∷ 0 ∷ [])
          -- "signal i being bit i mod 8 of byte i / 8 (rounded down), lowest bit first"
          ++ (9 ∷ 2 ∷ 0 ∷ 0 ∷ 0 ∷ 0 ∷ 0 ∷ 0 ∷ []);
    }
    ∷ []

-- a book with a signal and two counters: routine 0 rests for 5 rounds, routine 1 gives the signal
abbrev pub resting : List ℕ
resting = book 1 2 ((rest_for (pos 5) ∷ []) ∷ (signal 0 ∷ []) ∷ [])

-- a game of it as bytes: routine 0 has rested, with 3 rounds left, and is listed; routine 1 is to start; the counters are at their ends;
-- the signal is to be broadcast. Header, records, counters, lists and set begin at 0, 14 and 22, 30 and 34, 38 and 41, and 44.
abbrev pub kept : List ℕ
kept =
    (1 ∷ 0 ∷ 2 ∷ 0 ∷ 1 ∷ 0 ∷ 2 ∷ 0 ∷ 14 ∷ 0 ∷ 30 ∷ 0 ∷ 38 ∷ 0 ∷ [])
    ++ (2 ∷ 2 ∷ 0 ∷ 0 ∷ 3 ∷ 0 ∷ 0 ∷ 0 ∷ [])
    ++ replicate 8 0
    ++ (64 ∷ 66 ∷ 15 ∷ 0 ∷ 192 ∷ 189 ∷ 240 ∷ 255 ∷ [])
    ++ (1 ∷ 0 ∷ 0 ∷ [])
    ++ (1 ∷ 0 ∷ 1 ∷ [])
    ++ (1 ∷ replicate 7 0)

-- the same with another list, at 38 or 41
abbrev pub list_at : ℕ → List ℕ → List ℕ
list_at i l = take i kept ++ half_bytes (length l) ++ l ++ drop (i + 3) kept

-- the bytes of a game of these counts, with all else 0
abbrev pub blank_of : ℕ → ℕ → ℕ → List ℕ
blank_of R E C =
    joined (map half_bytes (1 ∷ R ∷ E ∷ C ∷ 14 ∷ (14 + 8 * R) ∷ (14 + 8 * R + 4 * C) ∷ [])) ++ replicate (8 * R + 4 * C + 12) 0

-- bytes, and the number that is told of them; "both 0 where nothing is turned down"
pub record ReadExample : Type 0 where
  pub bytes : List ℕ
  pub number : ℕ

abbrev told : List ℕ → ℕ → ReadExample
told s k = record { bytes = s; number = k }

abbrev pub read_examples : List ReadExample
read_examples =
    -- as they are; with all five flags; with a place behind the last step
    told kept 0
    ∷ told (set kept 15 31) 0
    ∷ told (set kept 24 1) 0
    -- "A form other than 1"
    ∷ told (set kept 0 2) 13
    -- "an R, E or C beyond document 01's limits"; a game at the limits is of another book
    ∷ told (blank_of 0 1 2) 13
    ∷ told (blank_of 65 1 2) 13
    ∷ told (blank_of 2 65 2) 13
    ∷ told (blank_of 2 1 65) 13
    ∷ told (blank_of 1 0 0) 9
    ∷ told (blank_of 64 64 64) 9
    -- "a wrong offset or length"
    ∷ told (set kept 8 15) 13
    ∷ told (set kept 10 31) 13
    ∷ told (set kept 12 39) 13
    ∷ told (kept ++ 0 ∷ []) 13
    ∷ told (take 51 kept) 13
    ∷ told [] 13
    -- "a stage over 4"; one of 4 is not to be listed
    ∷ told (set kept 14 5) 13
    ∷ told (set kept 14 4) 9
    -- "an unnamed flag"
    ∷ told (set kept 15 34) 13
    -- "a list over 64"; one of 64 has a routine twice
    ∷ told (list_at 38 (replicate 65 0)) 13
    ∷ told (list_at 41 (replicate 65 1)) 13
    ∷ told (list_at 38 (replicate 64 0)) 9
    -- "or a set bit beyond E"
    ∷ told (set kept 44 3) 13
    ∷ told (set kept 51 128) 13
    -- "any other fault is one of fitting, told as 9": a list longer than R, an entry not below R, a routine twice
    ∷ told (list_at 38 (0 ∷ 1 ∷ 0 ∷ [])) 9
    ∷ told (list_at 38 (0 ∷ 2 ∷ [])) 9
    ∷ told (list_at 38 (0 ∷ 0 ∷ [])) 9
    -- a place beyond the count of steps, a counter above its range and one below, a count left with nothing begun
    ∷ told (set kept 24 2) 9
    ∷ told (set kept 30 65) 9
    ∷ told (set kept 34 191) 9
    ∷ told (set kept 15 0) 9
    ∷ []
