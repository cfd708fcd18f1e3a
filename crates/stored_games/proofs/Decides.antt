-- The test of the form passes exactly where each clause holds.
use Prim.Native.Nat.{ℕ, ◌*◌}
use mathlib.Core.Path.{◌≡◌}
use mathlib.Core.Bool.{true}
use mathlib.Core.List.{List}
use mathlib.Core.Logic.Iff
use mathlib.Core.Logic.{◌↔◌}
use lib.ListN.{get_or}
use Rattle.numbers.specs.Counting.{all_from}
use Rattle.game.specs.Game.{stopped}
use Rattle.fitting.proofs.Tests.{less, not_less, at_most, equal, fails, both, or_else, each}
use Rattle.stored_games.specs.declared.Form.{Form}
use Rattle.stored_games.specs.Forms.{byte_bits}
use Rattle.stored_games.specs.Reading.{counts_in, parts_of, record_at, signal_in, counts_formed, parts_formed, flag_limit, is_formed}
use Rattle.stored_games.specs.Formed.{Formed}

module _ (f : Form) (s : List ℕ) where
  pub formed_decides : (is_formed f s ≡ true) ↔ Formed f s
  unfolding is_formed counts_formed parts_formed all_from
  formed_decides =
      let counts = counts_in s in
      let parts = parts_of f s in
      Iff.trans
      (both
      (both
      (both
      (both (both (both (both (equal _ _) (at_most _ _)) (at_most _ _)) (at_most _ _)) (at_most _ _))
      (both (both (both (both (both (equal _ _) (equal _ _)) (equal _ _)) (at_most _ _)) (at_most _ _)) (equal _ _)))
      (each counts.routines _ (λ r l. both (at_most (get_or (record_at f s r) 0 0) stopped) (less (get_or (record_at f s r) 1 0) flag_limit))))
      (each (f.setsize * byte_bits) _ (λ e l. or_else _ (not_less e counts.signals) (fails (signal_in s parts.broadcast e))))) (
        λ h.
            let c = h.0.0.0 in
            let p = h.0.0.1 in
            record {
              number = c.0.0.0.0;
              some_routine = c.0.0.0.1;
              few_routines = c.0.0.1;
              few_signals = c.0.1;
              few_counters = c.1;
              records_at = p.0.0.0.0.0;
              counters_at = p.0.0.0.0.1;
              lists_at = p.0.0.0.1;
              few_listed = p.0.0.1;
              few_starting = p.0.1;
              size = p.1;
              stages = λ r l. (h.0.1 r l).0;
              flags = λ r l. (h.0.1 r l).1;
              no_signals_beyond = h.1;
            },
        λ h. (
          (
            (
              ((((h.number, h.some_routine), h.few_routines), h.few_signals), h.few_counters),
              (((((h.records_at, h.counters_at), h.lists_at), h.few_listed), h.few_starting), h.size),
            ),
            λ r l. (h.stages r l, h.flags r l),
          ),
          h.no_signals_beyond,
        ),
      )
