-- Turns of the routines of an accepted book have the laws that the theory of passes asks of them, in every state that a round keeps sound.
-- Soundness stays (TurnSound.antt); what a turn does, how it comes out and what a try again does are gathered here, each from its own file.
use Prim.Native.Nat.{ℕ, ◌<◌}
use mathlib.Core.List.{List}
use Rattle.layout.specs.Layout.{routines_of}
use Rattle.book.specs.Accepted.{Accepted}
use Rattle.round.specs.claims.Sound.{Sound}
use Rattle.round.proofs.TurnLaws.{TurnLaws}
use Rattle.round.proofs.TurnSound.{turn_sound, next_pass_sound}
use Rattle.round.proofs.Turned.{turn_turned}
use Rattle.round.proofs.AfterTurn.{turn_over}
use Rattle.round.proofs.Outcomes.{turn_out, turn_continues, turn_calm}
use Rattle.round.proofs.Again.{misses_again_lem, turn_unchanged, goes_past_lem}

pub turn_laws : (book : List ℕ) → Accepted book → TurnLaws book (λ r. r < routines_of book) (Sound book)
turn_laws book a =
    record {
      stays = turn_sound book a;
      stays_next_pass = next_pass_sound;
      turned = turn_turned book a;
      over = λ r s l ok. turn_over book r s;
      out = λ r s l ok. turn_out book a r s l;
      continues = λ r s l ok. turn_continues book a r s l;
      calm = λ r s l ok. turn_calm book a r s l;
      misses_again = λ r p t s l ok. misses_again_lem book r p t s;
      unchanged = λ r p t s l ok. turn_unchanged book r p t s;
      goes_past = λ r p t s l ok. goes_past_lem book r p t s;
    }
