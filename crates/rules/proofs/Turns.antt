-- A turn of a routine is one run of its instruction by the paper's rules: what is left of the routine where the turn begins goes, with the
-- turn's status, to what is left where it ends. The routine is one block, and a turn that passes its end ends it.
use Prim.Native.Nat.{ℕ, ◌≤◌}
use mathlib.Core.Path.{◌≡◌, sym, ap, ◌∙◌}
use mathlib.Core.List.{List}
use native.Mathlib.Omega.{arith}
use Rattle.std.specs.Prelude.{Option}
use Rattle.kinds.specs.declared.Kind.{Kind}
use Rattle.kinds.specs.declared.Counts.{Counts}
use Rattle.kinds.specs.Steps.{step_at, steps_in}
use Rattle.kinds.proofs.Readable.{step_missing}
use Rattle.blocks.specs.Blocks.{View}
use Rattle.blocks.specs.Parse.{ParsedBlock}
use Rattle.layout.specs.Layout.{most_routines}
use Rattle.round.specs.declared.Ending.{Ending}
use Rattle.round.specs.declared.Ending.TheVariants.{Ended}
use Rattle.round.specs.declared.Position.{Position}
use Rattle.round.specs.declared.Act.TheVariants.{Halts}
use Rattle.round.specs.State.{State}
use Rattle.round.specs.Ticks.{Tick, fresh, tick, tick_at}
use Rattle.round.proofs.Leads.{form_at}
use Rattle.rules.specs.Instructions.{Status, TERM, Instruction, nothing}
use Rattle.rules.specs.Schedulers.{Scheduler}
use Rattle.rules.specs.Rules.{⟨◌&◌⟩⟶[◌]⟨◌&◌⟩}
use Rattle.rules.specs.Residual.{left_of_block, ◌⇝◌, same}
use Rattle.rules.specs.Scheduled.{scheduler_in}
use Rattle.rules.proofs.Walks.{Marks, Shows, ends_as, Ends, halts, goes}
use Rattle.rules.proofs.Nothings.{transitive, follows}
use Rattle.rules.proofs.Places.{block_end}
use Rattle.rules.proofs.Outcomes.{OfBlock, within, passes}
use Rattle.rules.proofs.Blocks.{block_claim}

-- i goes by the rules to what stands for `left`, with the status of a turn that ends with h at position y
pub record RunsTo (size : ℕ) (h : Ending) (y : Position) (i : Instruction) (σ τ : Scheduler) (left : Instruction) : Type 0 where
  pub after : Instruction
  pub status : Status
  pub rule : ⟨ i & σ ⟩⟶[ status ]⟨ after & τ ⟩
  pub shows : Shows size y h status
  pub leaves : after ⇝ left

module _ (counts : Counts) (r : ℕ) (steps : List ℕ) where
  abbrev step_of : ℕ → Option Kind
  step_of = step_at counts steps

  abbrev at : ℕ → View
  at = form_at counts steps

  module _ (few : counts.routines ≤ most_routines) where
    -- behind the last step the routine ends
    halts_ended : (x : Position) (s : State) → x.place ≡ steps_in steps → (tick counts r steps x s).act ≡ Halts Ended (fresh (steps_in steps))
    unfolding tick
    halts_ended x s l = ap (λ (a : Option Kind). (tick_at r steps x s a).act) (step_missing counts steps x.place (omega arith))

    module _ (h : Ending) (y : Position) (u : State) (us : Marks) {d : ℕ} (b : ParsedBlock at d 0 (steps_in steps)) where
      -- to what is left of the routine at y
      abbrev ByRules : Instruction → Scheduler → Type 0
      ByRules i σ = RunsTo (steps_in steps) h y i σ (scheduler_in u us) (left_of_block r step_of b y)

      past_last :
          {m : ℕ} {i : Instruction} {σ : Scheduler} {x : Position} {v : State} {vs : Marks} →
          x.place ≡ steps_in steps → ⟨ i & σ ⟩⟶[ TERM ]⟨ nothing & scheduler_in v vs ⟩ → Ends counts r steps h y u us m x v vs → ByRules i σ
      past_last {x = x} l run (halts e) =
          let q = sym (ap (λ (a : Tick). a.act) e) ∙ halts_ended x u l in
          let how : h ≡ Ended = cc in
          let there : y ≡ fresh (steps_in steps) = cc in
          let p : y.place ≡ steps_in steps = ap (λ (z : Position). z.place) there in
          record {
            after = nothing;
            status = TERM;
            rule = run;
            shows = rw how (ends_as there);
            leaves = rw (block_end r step_of b y p) same;
          }
      past_last {x = x} {v = v} l run (goes f e t) =
          let q = sym (ap (λ (a : Tick). a.act) e) ∙ halts_ended x v l in
          let z : ◌≡◌ {A = ℕ} 0 1 = cc in
          absurd (omega arith)

      whole : {n : ℕ} {i : Instruction} {s : State} {ms : Marks} →
          OfBlock counts r steps h y u us i (left_of_block r step_of b) 0 (steps_in steps) n s ms → ByRules i (scheduler_in s ms)
      whole (within run on w l m) = record { after = _; status = _; rule = run; shows = on.1; leaves = w }
      whole (passes m x v vs run l e t) = past_last e run t

    pub steps_by_rules :
        {h : Ending} {y : Position} {u : State} {us : Marks} {d : ℕ} (b : ParsedBlock at d 0 (steps_in steps))
        (n : ℕ) (x : Position) (s : State) (ms : Marks) (i : Instruction) →
        x.place ≤ steps_in steps → i ⇝ left_of_block r step_of b x → Ends counts r steps h y u us n x s ms →
        RunsTo (steps_in steps) h y i (scheduler_in s ms) (scheduler_in u us) (left_of_block r step_of b y)
    steps_by_rules {h} {y} {u} {us} b n x s ms i l w t =
        let to = whole h y u us b (block_claim counts r steps few h y u us b n x s ms (omega arith) l t) in
        let (k, alike, left) = follows w to.rule in
        record { after = k; status = to.status; rule = alike; shows = to.shows; leaves = transitive left to.leaves }
