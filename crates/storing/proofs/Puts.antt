-- Bytes put into a buffer part behind part are put as one, and those that a writer puts too. A loop that puts one list behind another: its
-- start, a turn, how far it is and its end.
use Prim.Native.Nat.{ℕ, ◌+◌, ◌*◌, ◌≤◌}
use mathlib.Core.Path.{◌≡◌, refl, sym, ◌∙◌}
use mathlib.Core.List.{List, ◌++◌}
use native.Mathlib.Numerals.{add-one}
use native.Mathlib.Omega.{arith}
use lib.ListN.{length, length-append, take-append-drop}
use Rattle.numbers.proofs.Buffers.{part_behind}
use Rattle.stored_games.specs.Bits.{joined_below}
use Rattle.stored_games.proofs.Lengths.{joined_length}
use Rattle.storing.specs.declared.parts.Writer.{Writer}
use Rattle.storing.specs.Puts.{Put, Writes}

pub then :
    {at m r : ℕ} {a b x y z : List ℕ} → Put at a x y m → Put m b y z r → Put at (a ++ b) x z r
then {at = at} {a = a} {b = b} {x = x} one other =
    let long = length-append a b in
    record {
      room = omega (arith, long, other.room, one.place, one.same_length);
      place = omega (arith, long, other.place, one.place);
      same_length = other.same_length ∙ one.same_length;
      buffer = other.buffer ∙ rw (one.place, one.buffer) (part_behind at a b x (omega (arith, one.room)));
    }

pub writes_then : {a b : List ℕ} {x y z : Writer} → Writes a x y → Writes b y z → Writes (a ++ b) x z
writes_then one other =
    record { same_buffer = other.same_buffer ∙ one.same_buffer; put = then one.put other.put }

module _ (f : ℕ → List ℕ) where
  pub joined_starts : (x : Writer) → x.end ≤ length x.out.now → Writes (joined_below 0 f) x x
  unfolding joined_below
  joined_starts x h =
      record {
        same_buffer = refl;
        put =
            record {
              room = omega arith;
              place = omega arith;
              same_length = refl;
              buffer = sym (take-append-drop x.end x.out.now);
            };
      }

  module _ {x y : Writer} (done : ℕ) (puts : Writes (joined_below done f) x y) where
    pub joined_next : {z : Writer} → Writes (f done) y z → Writes (joined_below (done + 1) f) x z
    unfolding joined_below
    joined_next other = rw add-one (writes_then puts other)

    pub joined_place : (size : ℕ) → ((k : ℕ) → length (f k) ≡ size) → y.end ≡ x.end + done * size
    joined_place size each = omega (arith, puts.put.place, joined_length size done f each)

    pub joined_ends : {n : ℕ} → done ≤ n → n ≤ done → Writes (joined_below n f) x y
    joined_ends {n} l k = let end : n ≡ done = omega arith in rw end puts
