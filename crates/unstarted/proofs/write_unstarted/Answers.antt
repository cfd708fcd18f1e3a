-- `write_unstarted` meets its contract: each check of the code is the next of the definition's, so a return is one of the three cases of
-- Answers.antt.
use Prim.Native.Nat.{ℕ}
use mathlib.Core.Path.{◌≡◌, refl, sym, ap}
use mathlib.Core.List.{List}
use native.Mathlib.Omega.{arith}
use borrow.Author.Rules.{rules}
use Rattle.std.specs.Prelude.{Err}
use Rattle.verdicts.proofs.Answers.{refuses}
use Rattle.book.proofs.Reasons.{accepted_exactly}
use Rattle.layout.specs.Layout.{most_routines}
use Rattle.unstarted.specs.Unstarted.{Search, none_found, with_found, no_flags, found_from, found_in}
use Rattle.unstarted.proofs.Answers.{book_refuses, short_refuses, named}
use Rattle.unstarted.proofs.write_unstarted.Goals as goal

-- a search that begins with no flag set and nothing listed finds the flags of the definition
found_flags :
    (book : List ℕ) (f : Search) → f ≡ found_from most_routines book 0 (with_found 0 (none_found no_flags)) →
    f.flags ≡ (found_in book no_flags).flags
unfolding found_in
found_flags book f e = ap (λ (g : Search). g.flags) e

pub returns-in_err-read_book : goal.returns-in_err-read_book
returns-in_err-read_book c =
    let e = c.in_err-read_book.field-0.0 in
    let told : c.from_residual.result ≡ Err e = search rules in
    rw told (book_refuses _ _ _ c.in_err-read_book.ensures (refuses e))

pub returns-then-names-all : goal.returns-then-names-all
returns-then-names-all c =
    let book = (accepted_exactly c.args.book.now).0 (sym c.in_ok-read_book.ensures) in
    short_refuses _ _ _ refl book (omega (arith, c.routines-all.ensures.0, c.if-names-all.true))

pub write_names-requires : goal.write_names-requires
write_names-requires c =
    let book = (accepted_exactly c.args.book.now).0 (sym c.in_ok-read_book.ensures) in
    (rw c.routines-all.ensures.0 book.laid.counts.few_routines, c.if-names-all.false)

pub returns : goal.returns
returns c =
    let book = (accepted_exactly c.args.book.now).0 (sym c.in_ok-read_book.ensures) in
    let found = found_flags c.args.book.now _ c.look_through.ensures in
    rw (c.write_names.ensures.value, c.write_names.ensures.names_after, found, c.routines-all.ensures.0)
    (named _ _ book (omega (arith, c.routines-all.ensures.0, c.if-names-all.false)))
