-- What is stored is read back, and what is read is stored again as it was: the claims about the calls, from the laws of games and bytes.
-- An answer that accepts is accepted for its reason, and that says all that the laws ask.
use Prim.Native.Nat.{ℕ, ◌≤◌}
use mathlib.Core.Path.{◌≡◌, refl, sym, ap, ◌∙◌}
use mathlib.Core.List.{List}
use native.Mathlib.Omega.{arith}
use lib.Dec.{eqb}
use lib.ListN.{length, drop}
use lib.Seq.{take-append_seam}
use Rattle.numbers.specs.Buffers.{with_front}
use Rattle.numbers.proofs.Tests.{by_test}
use Rattle.verdicts.specs.declared.Verdict.{Verdict}
use Rattle.verdicts.specs.Verdicts.{accepted}
use Rattle.layout.specs.Layout.{signals_of}
use Rattle.book.specs.Accepted.{Accepted}
use Rattle.game.specs.declared.Game.{Game}
use Rattle.fitting.specs.Fits.{Fits, GivesFitting}
use Rattle.stored_games.specs.declared.Form.{Form}
use Rattle.stored_games.specs.Forms.{form1, Usable, HoldsAll}
use Rattle.stored_games.specs.Stored.{stored}
use Rattle.stored_games.specs.Reading.{game_in}
use Rattle.stored_games.specs.Formed.{Formed}
use Rattle.stored_games.specs.Calls.{load_verdict, loaded, store_verdict, StoreAnswer, store_answer, storing}
use Rattle.stored_games.specs.Reasons.{StoreReason, LoadReason}
use Rattle.stored_games.specs.Claims.{AreBytes, bytes_written, ReadsBack, StoresAgain, OneStored, NeedsLength}
use Rattle.stored_games.proofs.Forms.{form1_usable}
use Rattle.stored_games.proofs.Again.{stored_again}
use Rattle.stored_games.proofs.Back.{game_back, stored_formed}
use Rattle.stored_games.proofs.Reasons.{store_reason, store_reason_only, load_reason, load_reason_only}

-- what is accepted is accepted for this
abbrev Storable : Form → List ℕ → Game → List ℕ → Type 0
Storable f book g out = Accepted book × Fits book g × (length (stored f g) ≤ length out)

abbrev pub Loadable : Form → List ℕ → List ℕ → Type 0
Loadable f book s = Accepted book × Formed f s × Fits book (game_in f s)

module _ {f : Form} {book : List ℕ} where
  store_clauses : {g : Game} {out : List ℕ} {v : Verdict} → StoreReason f book g out v → v ≡ accepted → Storable f book g out
  store_clauses (StoreReason.book t) e = absurd (omega (arith, ap (λ v. v.number) e))
  store_clauses (StoreReason.unfit a m) e = absurd (omega (arith, ap (λ v. v.number) e))
  store_clauses (StoreReason.short a f h) e = absurd (omega (arith, ap (λ v. v.number) e))
  store_clauses (StoreReason.nothing a f h) e = (a, f, h)

  pub load_clauses : {s : List ℕ} {v : Verdict} → LoadReason f book s v → v.number ≡ 0 → Loadable f book s
  load_clauses (LoadReason.book t) e = absurd (omega arith)
  load_clauses (LoadReason.unformed a m) e = absurd (omega arith)
  load_clauses (LoadReason.unfit a formed m) e = absurd (omega arith)
  load_clauses (LoadReason.nothing a formed fits) e = (a, formed, fits)

module _ (f : Form) (book : List ℕ) where
  -- the verdicts that the reasons speak of are those of the answers
  pub store_verdict_lem : (g : Game) (out : List ℕ) → (storing f book g out).verdict ≡ store_verdict f book g out
  unfolding storing
  store_verdict_lem g out =
      let v = store_verdict f book g out in
      by_test (λ (answer : StoreAnswer). answer.verdict ≡ v) (eqb v.number 0) (λ e. refl) (λ e. refl)

  store_accepts : (g : Game) (out : List ℕ) → (storing f book g out).verdict ≡ accepted → Storable f book g out
  store_accepts g out e = store_clauses (store_reason f book g out) (sym (store_verdict_lem g out) ∙ e)

  pub stores :
      (g : Game) (out : List ℕ) → Storable f book g out →
      storing f book g out ≡ store_answer accepted (length (stored f g)) (with_front (stored f g) out)
  unfolding storing
  stores g out (a, fits, h) = rw (store_reason_only (StoreReason.nothing a fits h))

  pub load_verdict_lem : (s : List ℕ) (lent : Game) → (loaded f book s lent).verdict ≡ load_verdict f book s
  unfolding loaded
  load_verdict_lem s lent = refl

  load_accepts : (s : List ℕ) (lent : Game) → (loaded f book s lent).verdict ≡ accepted → Loadable f book s
  load_accepts s lent e = load_clauses (load_reason f book s) (ap (λ (v : Verdict). v.number) (sym (load_verdict_lem s lent) ∙ e))

  pub loads : (s : List ℕ) (lent : Game) → Loadable f book s → loaded f book s lent ≡ record { verdict = accepted; game = game_in f s }
  unfolding loaded
  loads s lent (a, formed, fits) = rw (load_reason_only (LoadReason.nothing a formed fits))

  -- an accepted load gives a game that fits
  pub load_fits : (s : List ℕ) (lent : Game) → GivesFitting book (loaded f book s lent)
  load_fits s lent e = let all = load_accepts s lent e in rw (loads s lent all) all.2

  pub needs_length : NeedsLength f book
  needs_length g out other e =
      let (a, fits, h) = store_accepts g out e in
      rw (stores g out (a, fits, h)) (
        λ e. (store_accepts g other e).2,
        λ h. ap (λ (answer : StoreAnswer). answer.verdict) (stores g other (a, fits, h)),
      )

  module _ (usable : Usable f) where
    again : (s : List ℕ) → AreBytes s → Loadable f book s → stored f (game_in f s) ≡ s
    again s bytes (a, formed, fits) = stored_again usable s bytes formed

    pub stores_again : StoresAgain f book
    stores_again s out lent bytes e h =
        let (a, formed, fits) = load_accepts s lent e in
        let same = again s bytes (a, formed, fits) in
        rw (loads s lent (a, formed, fits)) (stores (game_in f s) out (a, fits, rw same h) ∙ rw same)

    pub one_stored : OneStored f book
    one_stored s t lent bytes others e d same =
        let first = load_accepts s lent e in
        let second = load_accepts t lent d in
        let games : game_in f s ≡ game_in f t = rw (loads s lent first, loads t lent second) at same in
        sym (again s bytes first) ∙ ap (stored f) games ∙ again t others second

    -- of a book whose signals the form holds
    reads_back_where : HoldsAll f → (Accepted book → signals_of book ≤ f.mostsignals) → ReadsBack f book
    reads_back_where all holds g lent out e =
        let (a, fits, h) = store_accepts g out e in
        let s = stored f g in
        let few : g.counts.signals ≤ f.mostsignals = rw (ap (λ n. n.signals) fits.numbers) (holds a) in
        let back = game_back usable a fits few all in
        let bytes : bytes_written (storing f book g out) ≡ s = rw (stores g out (a, fits, h)) (take-append_seam s (drop (length s) out)) in
        rw bytes
        (loads s lent (a, stored_formed usable a fits few, rw back fits) ∙ rw back)

    pub reads_back : HoldsAll f → signals_of book ≤ f.mostsignals → ReadsBack f book
    reads_back all few = reads_back_where all (λ a. few)

-- form 1 holds the signals of every accepted book
pub form1_reads_back : (book : List ℕ) → ReadsBack form1 book
form1_reads_back book = reads_back_where form1 book form1_usable refl (λ a. a.laid.counts.few_signals)
