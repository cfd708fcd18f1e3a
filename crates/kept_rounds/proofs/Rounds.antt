-- What a round of a kept game answers, check by check: the refusal of the first part that refuses, reading the game, the round or storing,
-- or what they come to together.
use Prim.Native.Nat.{ℕ, ◌≤◌, ◌<◌}
use mathlib.Core.Path.{◌≡◌, refl, sym, ap, subst, ◌∙◌}
use mathlib.Core.List.{List}
use native.Mathlib.Omega.{arith}
use borrow.Author.Tests.{ne_eqb}
use lib.Dec.{eqb}
use lib.IntN.{ℤ}
use lib.ListN.{length}
use Rattle.numbers.specs.Buffers.{with_front}
use Rattle.numbers.proofs.Tests.{by_test}
use Rattle.verdicts.specs.declared.Refusal.{Refusal}
use Rattle.verdicts.proofs.Answers.{refuses}
use Rattle.verdicts.specs.Verdicts.{accepted, told, refused, ◌or_else◌}
use Rattle.book.specs.Accepted.{Accepted}
use Rattle.game.specs.declared.Game.{Game}
use Rattle.game.specs.Game.{blank_game}
use Rattle.fitting.specs.Fits.{Fits}
use Rattle.stored_games.specs.Forms.{form1}
use Rattle.stored_games.specs.Stored.{stored}
use Rattle.stored_games.specs.Reading.{game_in}
use Rattle.stored_games.specs.Calls.{short_buffer, loaded, StoreAnswer, store_answer, storing}
use Rattle.stored_games.specs.Reasons.{StoreReason}
use Rattle.stored_games.proofs.Reasons.{store_reason_only}
use Rattle.stored_games.proofs.Keeping.{Loadable, loads, store_verdict_lem, stores}
use Rattle.round.specs.Rounds.{round}
use Rattle.round.specs.Answers.{most_lost, space_for, played_out, answer}
use Rattle.round.proofs.After.{round_fits}
use Rattle.round.proofs.Lost.{answer_lost}
use Rattle.playing.proofs.Answering.{short_refuses, plays}
use Rattle.kept_games.specs.Kept.{kept_in, kept_verdict, KeptRound, refused_kept, played_kept, played_from, play_kept}

module _ (book buffer : List ℕ) (n : ℕ) (marks : List ℤ) where
  abbrev s : List ℕ
  s = kept_in buffer n

  -- 1 to 7, 13, 9
  pub play_unread :
      ((kept_verdict book buffer n).number ≡ 0 → ⊥) → play_kept book buffer n marks ≡ refused_kept (kept_verdict book buffer n) buffer marks
  unfolding play_kept loaded
  play_unread m = simp (ne_eqb _ 0 m) refl

  pub play_read : Loadable form1 book s → play_kept book buffer n marks ≡ played_from book (game_in form1 s) buffer marks
  unfolding play_kept
  play_read read = rw (loads form1 book s blank_game read) refl

  -- whatever is played, no more is cut off than a round can cut off
  played_lost : (g : Game) → (played_from book g buffer marks).lost ≤ most_lost
  unfolding played_from
  played_lost g =
      let a = answer book g marks in
      let t = storing form1 book a.game buffer in
      let v = a.verdict or_else t.verdict in
      by_test (λ (p : KeptRound). p.lost ≤ most_lost) (eqb v.number 0) {x = played_kept a t} {y = refused_kept v buffer marks}
      (λ e. answer_lost book g marks)
      (λ e. omega arith)

  kept_lost : (play_kept book buffer n marks).lost ≤ most_lost
  unfolding play_kept
  kept_lost =
      let l = loaded form1 book s blank_game in
      by_test (λ (p : KeptRound). p.lost ≤ most_lost) (eqb l.verdict.number 0) {x = played_from book l.game buffer marks}
      {y = refused_kept l.verdict buffer marks}
      (λ e. played_lost l.game)
      (λ e. omega arith)

  -- what is promised of whatever equals the definition's answer
  pub lost_promised : {p : KeptRound} → p ≡ play_kept book buffer n marks → p.lost ≤ most_lost
  lost_promised e = subst (λ (q : KeptRound). q.lost ≤ most_lost) (sym e) kept_lost

-- a round of a game that fits an accepted book
module _ {book : List ℕ} {g : Game} (a : Accepted book) (fits : Fits book g) (buffer : List ℕ) (marks : List ℤ) where
  abbrev next : Game
  next = (round book g).played.state.game

  -- 10
  pub played_short_marks : length marks < space_for book → played_from book g buffer marks ≡ refused_kept (refused 10 0) buffer marks
  unfolding played_from
  played_short_marks h = rw (← (short_refuses book g marks (refused 10 0) refl a fits h)) refl

  module _ (space : space_for book ≤ length marks) where
    -- 14
    pub played_short_buffer :
        length buffer < length (stored form1 next) → played_from book g buffer marks ≡ refused_kept (refused short_buffer 0) buffer marks
    unfolding played_from
    played_short_buffer h =
        let told = store_verdict_lem form1 book next buffer ∙ store_reason_only (StoreReason.short a (round_fits book a g fits) h) in
        rw (← (plays book g marks a fits space), told) refl

    pub played_stored :
        length (stored form1 next) ≤ length buffer →
        played_from book g buffer marks
        ≡ played_kept (played_out accepted (round book g) marks)
        (store_answer accepted (length (stored form1 next)) (with_front (stored form1 next) buffer))
    unfolding played_from
    played_stored h =
        rw (← (plays book g marks a fits space), stores form1 book next buffer (a, round_fits book a g fits, h)) refl

-- a game that fits is stored where there is room for it, and nothing turns it down
module _ {book : List ℕ} {g : Game} (a : Accepted book) (fits : Fits book g) (before : List ℕ) (room : length (stored form1 g) ≤ length before) where
  pub stored_here :
      {s : StoreAnswer} → s ≡ storing form1 book g before →
      s ≡ store_answer accepted (length (stored form1 g)) (with_front (stored form1 g) before)
  stored_here e = e ∙ stores form1 book g before (a, fits, room)

  pub never_refused : (r : Refusal) {out : List ℕ} → store_answer (told r) 0 out ≡ storing form1 book g before → ⊥
  never_refused r e = refuses r (ap (λ (s : StoreAnswer). s.verdict.number) (stored_here e))
