-- What is claimed of storing and reading together: document 02, Paper 2.
use Rattle.std.specs.Prelude.{ℕ, ◌<◌, ◌≤◌, ◌≡◌, List, ◌↔◌, length, get_or, take}
use Rattle.numbers.specs.Numbers.{byte_limit}
use Rattle.numbers.specs.Buffers.{with_front}
use Rattle.verdicts.specs.Verdicts.{accepted}
use Rattle.game.specs.declared.Game.{Game}
use Rattle.stored_games.specs.declared.Form.{Form}
use Rattle.stored_games.specs.Calls.{StoreAnswer, store_answer, loaded, storing}

-- every item of a list is a byte, as in all that a program is lent
abbrev pub AreBytes : List ℕ → Type 0
AreBytes s = (i : ℕ) → get_or s i 0 < byte_limit

-- the bytes that were written
abbrev pub bytes_written : StoreAnswer → List ℕ
bytes_written a = take a.length a.buffer

-- "a fitting game that is stored reads back as that game", whatever game is lent
abbrev pub ReadsBack : Form → List ℕ → Type 0
ReadsBack f book =
    (g lent : Game) (out : List ℕ) →
    (storing f book g out).verdict ≡ accepted →
    loaded f book (bytes_written (storing f book g out)) lent ≡ record { verdict = accepted; game = g }

-- "A stored game is accepted only if storing the game read from it gives those bytes again", in any buffer that is long enough
abbrev pub StoresAgain : Form → List ℕ → Type 0
StoresAgain f book =
    (s out : List ℕ) (lent : Game) →
    AreBytes s → (loaded f book s lent).verdict ≡ accepted → length s ≤ length out →
    storing f book (loaded f book s lent).game out ≡ store_answer accepted (length s) (with_front s out)

-- so no two lists of bytes are accepted for one game
abbrev pub OneStored : Form → List ℕ → Type 0
OneStored f book =
    (s t : List ℕ) (lent : Game) →
    AreBytes s → AreBytes t → (loaded f book s lent).verdict ≡ accepted → (loaded f book t lent).verdict ≡ accepted →
    (loaded f book s lent).game ≡ (loaded f book t lent).game → s ≡ t

-- a game that is stored once is stored in just those buffers that are at least as long as the answer says
abbrev pub NeedsLength : Form → List ℕ → Type 0
NeedsLength f book =
    (g : Game) (out other : List ℕ) →
    (storing f book g out).verdict ≡ accepted →
    ((storing f book g other).verdict ≡ accepted) ↔ ((storing f book g out).length ≤ length other)
