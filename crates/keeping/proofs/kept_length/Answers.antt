-- `keeping::kept_length` meets its contract: the bytes up to the end that the parts give are judged as a kept game of that length.
use Prim.Native.Nat.{ℕ}
use mathlib.Core.Path.{◌≡◌, ap, ◌∙◌}
use mathlib.Core.List.{[]}
use borrow.Author.Tests.{ne_eqb}
use lib.Dec.{eqb}
use Rattle.std.specs.Prelude.{Result, Ok, Err, if◌then◌else◌}
use Rattle.std.specs.Result.{result_and}
use Rattle.verdicts.specs.declared.Verdict.{Verdict}
use Rattle.verdicts.specs.declared.Refusal.{Refusal}
use Rattle.verdicts.specs.Verdicts.{verdict_of}
use Rattle.verdicts.proofs.Answers.{refuses}
use Rattle.game.specs.declared.Game.{Game}
use Rattle.stored_games.specs.declared.Parts.{Parts}
use Rattle.stored_games.specs.Calls.{StoreAnswer, store_answer}
use Rattle.storing.specs.declared.Stored.{Stored}
use Rattle.storing.specs.Answers.{answered}
use Rattle.kept_games.specs.Kept.{kept_length}
use Rattle.keeping.proofs.kept_length.Goals as goal

-- the length is told where the game is
length_told :
    (kept : Result Game Refusal) (told : Result ℕ Refusal) (end : ℕ) (v : Verdict) (s : Stored) → verdict_of kept ≡ v →
    told ≡ result_and kept (Ok end) → store_answer s.verdict s.length [] ≡ answered told [] →
    (s.verdict ≡ v) × (s.length ≡ (if eqb v.number 0 then end else 0))
length_told (Ok g) told end v s e m a =
    let all = rw m at a in
    (ap (λ (t : StoreAnswer). t.verdict) all ∙ e, rw (← e) (ap (λ (t : StoreAnswer). t.length) all))
length_told (Err r) told end v s e m a =
    let all = rw m at a in
    (ap (λ (t : StoreAnswer). t.verdict) all ∙ e, rw (← e, ne_eqb _ 0 (refuses r)) (ap (λ (t : StoreAnswer). t.length) all))

pub returns : goal.returns
unfolding kept_length
returns c =
    let bytes = c.in_form_1.ensures in
    let end = ap (λ (p : Parts). p.end) (rw (bytes.0, bytes.1) at c.parts-end.ensures.0) in
    rw (← end) (length_told _ _ _ _ _ c.read_kept.ensures.told c.and.ensures (c.from.ensures []))
