-- The names of a few books: a start counts in a block, in a while and behind a rest, and one in a routine that nobody starts does not. That
-- they are these is shown in proofs/Examples.antt, by evaluation.
use Rattle.std.specs.Prelude.{List, [], ◌∷◌, ℕ, pos}
use Rattle.book.specs.Written.{equal, mark, rest, start, if, else, while, end, book}

-- a book, and its routines that nobody starts
pub record Example : Type 0 where
  pub book : List ℕ
  pub names : List ℕ

abbrev pub examples : List Example
examples =
    -- routine 0 alone
    record { book = book 0 0 ((mark (pos 1) ∷ []) ∷ []); names = [] }
    -- routine 0 starts 1 in a block that is never entered; 2 starts 3, and nobody starts 2
    ∷ record {
      book = book 0 1 ((if 0 equal (pos 1) ∷ start 1 ∷ else ∷ rest ∷ end ∷ []) ∷ [] ∷ (start 3 ∷ []) ∷ [] ∷ []);
      names = 2 ∷ 3 ∷ [];
    }
    -- a chain against the order of the routines, through a while and behind a rest; 4 starts itself
    ∷ record {
      book =
          book 0 1 (
          (rest ∷ start 3 ∷ [])
          ∷ (start 0 ∷ [])
          ∷ (start 1 ∷ [])
          ∷ (while 0 equal (pos 0) ∷ start 2 ∷ rest ∷ end ∷ [])
          ∷ (start 4 ∷ [])
          ∷ []
          );
      names = 4 ∷ [];
    }
    ∷ []
