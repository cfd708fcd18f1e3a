-- What naming the routines answers, check by check: the refusal of the first check that turns it down, or the names.
use Prim.Native.Nat.{ℕ, ◌≤◌, ◌<◌}
use mathlib.Core.Path.{◌≡◌, sym, ap, ◌∙◌}
use mathlib.Core.List.{List}
use native.Mathlib.Omega.{arith}
use borrow.Author.Tests.{le-leb, lt-leb, ne_eqb}
use lib.ListN.{length}
use Rattle.numbers.specs.Buffers.{with_front}
use Rattle.verdicts.specs.declared.Verdict.{Verdict}
use Rattle.verdicts.specs.Verdicts.{accepted, refused}
use Rattle.verdicts.proofs.First.{or_else_refused, or_else_past}
use Rattle.layout.specs.Layout.{routines_of}
use Rattle.book.specs.Book.{book_verdict}
use Rattle.book.specs.Accepted.{Accepted}
use Rattle.book.proofs.Reasons.{accepted_exactly}
use Rattle.unstarted.specs.Unstarted.{names_of, short_names, names_verdict, names_for, names}

module _ (book buffer : List ℕ) where
  module _ (v : Verdict) where
    -- this verdict turns it down
    abbrev Refuses : Type 0
    Refuses = names_for v 0 buffer ≡ names book buffer

    refuses : v ≡ names_verdict book buffer → (v.number ≡ 0 → ⊥) → Refuses
    unfolding names
    refuses e n = rw (← e, ne_eqb v.number 0 n)

    -- 1 to 7
    pub book_refuses : v ≡ book_verdict book → (v.number ≡ 0 → ⊥) → Refuses
    unfolding names_verdict
    book_refuses e n = refuses (e ∙ sym (or_else_refused (book_verdict book) _ (rw (← e) n))) n

    -- 12
    pub short_refuses : v ≡ refused short_names 0 → Accepted book → length buffer < routines_of book → Refuses
    unfolding names_verdict
    short_refuses e a h =
        refuses
        (rw (or_else_past (book_verdict book) _ ((accepted_exactly book).1 a), lt-leb _ _ h) e)
        (λ z. omega (arith, ap (λ (w : Verdict). w.number) e, z))

  pub named :
      Accepted book → routines_of book ≤ length buffer →
      names_for accepted (length (names_of book)) (with_front (names_of book) buffer) ≡ names book buffer
  unfolding names names_verdict
  named a h = rw (or_else_past (book_verdict book) _ ((accepted_exactly book).1 a), le-leb _ _ h)
