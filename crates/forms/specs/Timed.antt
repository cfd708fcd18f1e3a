-- The timed kinds, those of ops 7, 9 and 11: "rest n", "wait n" and "join n" (cooperate_n, await_n and join_n in the paper).
use Rattle.std.specs.Prelude.{ℕ, ◌<◌, Option, Some, None}
use Rattle.kinds.specs.declared.Kind.{Kind}
use Rattle.kinds.specs.declared.Kind.TheVariants.{Mark, Set, Add, Take, Signal, SignalNumber, Rest, RestFor, Wait, WaitFor}
use Rattle.kinds.specs.declared.Kind.TheVariants.{Join, JoinFor, Read, Start, Stop, Suspend, Resume, If, Else, While, End}

-- a step of a timed kind, with its n; 0 stands for an n of 0 or less
pub data Timed : Option Kind → ℕ → Type 0 where
  rest_for : {n : ℕ} → Timed (Some (RestFor n)) n
  wait_for : {e n : ℕ} → Timed (Some (WaitFor e n)) n
  join_for : {r n : ℕ} → Timed (Some (JoinFor r n)) n

-- "Begun is set only at a step of op 7, 9 or 11, and the count left then lies from 0 to n − 1": this step is one, and so much may be left
-- of its n
abbrev pub MayBeLeft : Option Kind → ℕ → Type 0
MayBeLeft st left = (n : ℕ) × Timed st n × (left < n)

-- the n of a timed kind; 0 for any other
abbrev pub kind_count : Kind → ℕ
kind_count (Mark n) = 0
kind_count (Set a n) = 0
kind_count (Add a n) = 0
kind_count (Take a b) = 0
kind_count (Signal a) = 0
kind_count (SignalNumber a b) = 0
kind_count Rest = 0
kind_count (RestFor n) = n
kind_count (Wait a) = 0
kind_count (WaitFor a n) = n
kind_count (Join a) = 0
kind_count (JoinFor a n) = n
kind_count (Read a b k) = 0
kind_count (Start a) = 0
kind_count (Stop a) = 0
kind_count (Suspend a) = 0
kind_count (Resume a) = 0
kind_count (If a b n) = 0
kind_count Else = 0
kind_count (While a b n) = 0
kind_count End = 0

-- the n of a timed step; 0 for any other
abbrev pub timed_count : Option Kind → ℕ
timed_count (Some k) = kind_count k
timed_count None = 0
