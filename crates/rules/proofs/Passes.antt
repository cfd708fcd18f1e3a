-- A turn of a routine is what rules 33 and 34 do with its thread, a pass is an execution step, and the passes of a round are an instant.
-- By induction on routines and passes, from what is shown of a turn's steps; the threads' instructions keep standing for the positions, and
-- the positions are those that the log says.
use Prim.Native.Nat.{ℕ, zero, suc, ◌+◌, ◌<◌, ◌≤◌}
use mathlib.Core.Path.{◌≡◌, sym, ◌∙◌, ap, refl, subst}
use mathlib.Core.Bool.{Bool, true, false, ◌||◌, not}
use mathlib.Core.List.{List, [], ◌∷◌, ◌++◌, append-nil}
use mathlib.Core.Logic.{◌≢◌, ◌⊎◌, inl, inr}
use native.Mathlib.Omega.{arith}
use native.Mathlib.Bridge.{le_prop}
use native.Mathlib.Decide.{ℕ_discrete}
use native.Mathlib.Numerals.{add-one}
use borrow.Author.Tests.{eq-eqb, ne_eqb}
use lib.Dec.{eqb}
use lib.ListN.{length}
use Rattle.std.specs.Prelude.{if◌then◌else◌, Some}
use Rattle.numbers.specs.Counting.{All}
use Rattle.numbers.proofs.Tests.{clash}
use Rattle.kinds.specs.Steps.{steps_in}
use Rattle.layout.specs.Layout.{routines_of}
use Rattle.directory.specs.Directory.{routine_steps}
use Rattle.book.specs.Accepted.{Accepted}
use Rattle.game.specs.declared.Routine.{Routine}
use Rattle.game.specs.declared.Game.{Game}
use Rattle.lines.specs.Lines.{entries_of}
use Rattle.game.specs.Game.{routine_at}
use Rattle.game.specs.Game as game
use Rattle.round.specs.declared.Ending.{Ending}
use Rattle.round.specs.declared.Position.{Position}
use Rattle.round.specs.State.{State}
use Rattle.round.specs.Actions.{position_of}
use Rattle.round.specs.Rounds.{Ticks, most_ticks, after_turn, PlayedTurns, not_taken, taken, all_done, for_next_pass, ticks_of, turn, pass}
use Rattle.round.specs.Rounds.{instant}
use Rattle.round.specs.Answers.{marks_in}
use Rattle.round.specs.claims.Enough.{RoundEnds}
use Rattle.round.specs.claims.Sound.{Sound}
use Rattle.round.proofs.StartSound.{listed_below}
use Rattle.round.proofs.Standings.{same_standing}
use Rattle.round.proofs.TurnLaws.{is_going}
use Rattle.round.proofs.Parsed.{size_same}
use Rattle.round.proofs.Lasting.{routine_in_time}
use Rattle.round.proofs.Coming.{turn_untouched}
use Rattle.round.proofs.AfterTurn.{going_parts, position_after_lem, after_going, turn_by, turn_taken}
use Rattle.round.proofs.TurnSound.{turn_sound, next_pass_sound}
use Rattle.round.proofs.Turned.{turn_turned}
use Rattle.round.proofs.After.{pass_keeps}
use Rattle.round.proofs.Waiting.{done_append}
use Rattle.rules.specs.Instructions.{Status, Instruction}
use Rattle.rules.specs.Schedulers.{continuing, Scheduler, has, status_of}
use Rattle.rules.specs.Instants.{with_run, Execution, passed_over, executed, is_finished, rule33, rule34, StepLog, all_finished, InTurn}
use Rattle.rules.specs.Instants.{none, next, ExecutionStep, rule35, rule36, Log, rule37, rule38}
use Rattle.rules.specs.Positions.{last_in, last_of}
use Rattle.rules.specs.Residual.{residual, ◌⇝◌}
use Rattle.rules.specs.Scheduled.{scheduler_in}
use Rattle.rules.specs.Claims.{StandFor, TurnByRules, PassByRules, InstantByRules}
use Rattle.rules.proofs.Naming.{given}
use Rattle.rules.proofs.Walks.{Marks, Shows, ends_as, rests_as, misses_as, continues_as}
use Rattle.rules.proofs.Taken.{marks_then, ends_of_lem}
use Rattle.rules.proofs.Stages.{stage_continues, stage_pauses, stage_seen}
use Rattle.rules.proofs.Seen.{suspended_seen, after_seen, actual_seen, next_pass_seen}
use Rattle.rules.proofs.Routines.{routine_by_rules}
use Rattle.rules.proofs.Left.{Behind, shows_behind, behind_then}

-- b of rule 34
done_turn : {size : ℕ} {y : Position} {h : Ending} {α : Status} → Shows size y h α → is_finished (executed α) ≡ all_done (Some h ∷ [])
unfolding all_done
done_turn (ends_as e) = refl
done_turn (rests_as w e) = refl
done_turn (misses_as w e) = refl
done_turn continues_as = refl

-- why rule 33 passes over a routine
not_going : (suspended continues : Bool) → not (suspended || not continues) ≡ false → (suspended ≡ true) ⊎ (continues ≡ false)
not_going true continues h = inl refl
not_going false true h = clash refl h
not_going false false h = inr refl

-- rules 35 and 36
execution :
    {ts : List ℕ} {run run' : ℕ → Instruction} {σ σ' : Scheduler} {l : StepLog} → σ.actual ≡ ts → InTurn ts run σ l run' σ' →
    ExecutionStep run σ l run' σ'
execution e none = rule35 e
execution e (next first others) = rule36 e (next first others)

module _ (book : List ℕ) (a : Accepted book) where
  abbrev R : ℕ
  R = routines_of book

  module _
      (r : ℕ) (l : r < R) (run : ℕ → Instruction) (s : State) (stand : StandFor book a run s.game) (sound : Sound book s)
    where
      abbrev x : Routine
      x = routine_at s.game r

      abbrev steps : List ℕ
      steps = routine_steps book r

      abbrev t : Ticks
      t = ticks_of book r s

      -- behind a turn with an instruction i for what is left of its routine
      stands_after :
          (i : Instruction) → is_going s r ≡ true → i ⇝ residual book a r l t.position →
          StandFor book a (with_run run r i) (after_turn r t).game
      unfolding with_run
      stands_after i going w q m =
          let after : ℕ → Position = λ p. position_of (routine_at (after_turn r t).game p) in
          elim (ℕ_discrete q r) [
            | yes e ↦
                let standing = (turn_untouched book r s).standings r in
                let own : after r ≡ t.position = position_after_lem r s t standing going in
                subst (λ q. (m : q < R) → with_run run r i q ⇝ residual book a q m (after q)) (sym e)
                (λ m. rw (eq-eqb r r refl, own) (subst (λ m. i ⇝ residual book a r m t.position) (le_prop l m) w))
                m
            | no n ↦
                let other : after q ≡ position_of (routine_at s.game q) =
                sym (ap (λ (d : PlayedTurns). position_of (routine_at d.state.game q)) (turn_taken book r s going))
                ∙ ((turn_turned book a r s l sound).standings.others q n).position in
                rw (ne_eqb q r n, other) (stand q m)
          ]

      module _ (ms : Marks) where
        -- a rule gives the turn d, and leaves routine r where its thread's execution says
        abbrev ByRule : PlayedTurns → Type 0
        ByRule d =
            (run' : ℕ → Instruction) × (e : Execution) × TurnByRules book a run s ms run' r d e × Behind book r e s.game d.state.game

        turn_over_rule : is_going s r ≡ false → ByRule (not_taken s)
        unfolding all_done marks_in
        turn_over_rule h =
            let why : (has (scheduler_in s ms).threads.susp r ≡ true) ⊎ (status_of (scheduler_in s ms) r ≢ continuing) =
            elim (not_going x.suspended (eqb x.stage game.continuing) h) [
              | inl e ↦ inl (suspended_seen s ms r ∙ e)
              | inr e ↦ inr (λ c. stage_pauses x.stage e (sym (stage_seen s ms r) ∙ c))
            ]
            in
            (run, passed_over, record { derived = rw append-nil (rule33 why); finished = refl; standing = stand }, same_standing)

        turn_taken_rule : is_going s r ≡ true → ByRule (taken r t)
        turn_taken_rule going =
            let time = routine_in_time book a r l (position_of x) s in
            let (n, ends) = ends_of_lem book a r (most_ticks steps) (position_of x) s time sound ms in
            let inside : x.place ≤ steps_in steps = omega (arith, sound.fits.places_in_range r l, size_same book a r l) in
            let to = routine_by_rules book a r l n (position_of x) s ms (run r) inside (stand r l) ends in
            let (unsuspended, stage) = going_parts x.suspended x.stage going in
            let thread =
            rule34 (suspended_seen s ms r ∙ unsuspended) (stage_seen s ms r ∙ stage_continues x.stage stage) to.rule in
            let standing = (turn_untouched book r s).standings r in (
              with_run run r to.after,
              executed to.status,
              record {
                derived = rw (after_seen r t (ms ++ marks_in t.trace) to.shows) thread;
                finished = done_turn to.shows;
                standing = stands_after to.after going to.leaves;
              },
              shows_behind book r s.game (after_turn r t).game (size_same book a r l) to.shows (position_after_lem r s t standing going)
                  (after_going r s t standing going),
            )

        turn_given :
            (run' : ℕ → Instruction) × (e : Execution) × TurnByRules book a run s ms run' r (turn book r s) e
            × Behind book r e s.game (turn book r s).state.game
        turn_given = turn_by book r s ByRule turn_over_rule turn_taken_rule

  -- a turn, without where it leaves its routine
  pub turn_by_rules :
      (r : ℕ) → r < R → (run : ℕ → Instruction) (s : State) (ms : Marks) → StandFor book a run s.game → Sound book s →
      (run' : ℕ → Instruction) × (e : Execution) × TurnByRules book a run s ms run' r (turn book r s) e
  turn_by_rules r l run s ms stand sound = let (to, e, rule, _) = turn_given r l run s stand sound ms in (to, e, rule)

  -- each routine stands behind some turns where their log says
  abbrev AllBehind : StepLog → Game → Game → Type 0
  AllBehind l g h = (q : ℕ) → q < R → Behind book q (last_in q l) g h

  -- a turn leaves the others alone
  turn_behind :
      (r : ℕ) → r < R → (s : State) → Sound book s → (e : Execution) → Behind book r e s.game (turn book r s).state.game →
      (q : ℕ) → Behind book q (if eqb r q then e else passed_over) s.game (turn book r s).state.game
  turn_behind r l s sound e own q = elim (ℕ_discrete q r) [
    | yes same ↦
        rw (eq-eqb r q (sym same)) (subst (λ q. Behind book q e s.game (turn book r s).state.game) (sym same) own)
    | no n ↦ rw (ne_eqb r q (λ same. n (sym same))) ((turn_turned book a r s l sound).standings.others q n)
  ]

  -- some routines in turn
  turns_by_rules :
      (rs : List ℕ) → All (λ r. r < R) rs → (run : ℕ → Instruction) (s : State) (ms : Marks) → StandFor book a run s.game →
      Sound book s → let d = pass book rs s in
      (to : ℕ → Instruction) × (l : StepLog) × InTurn rs run (scheduler_in s ms) l to (scheduler_in d.state (ms ++ marks_in d.trace))
      × (all_finished l ≡ all_done d.turns) × StandFor book a to d.state.game × AllBehind l s.game d.state.game
  unfolding pass last_in all_finished
  turns_by_rules [] b run s ms stand sound =
      unfold all_done marks_in in (run, [], rw append-nil none, refl, stand, λ q m. same_standing)
  turns_by_rules (r ∷ rs) b run s ms stand sound =
      let first = turn book r s in
      let sound-first = turn_sound book a r s b.0 sound in
      let (to, e, rule, own) = turn_given r b.0 run s stand sound ms in
      let (last, l, others, done, stand-last, behind) =
      turns_by_rules rs b.1 to first.state (ms ++ marks_in first.trace) rule.standing sound-first in (
        last,
        (r, e) ∷ l,
        rw (← marks_then) (next rule.derived others),
        rw (done_append, rule.finished, done),
        stand-last,
        λ q m. behind_then book q _ (last_in q l) s.game first.state.game _ (turn_behind r b.0 s sound e own q) (behind q m),
      )

  -- the routines that the scheduler has in actual
  abbrev listed : State → List ℕ
  listed s = entries_of s.game.listed

  pass_given :
      (run : ℕ → Instruction) (s : State) (ms : Marks) → StandFor book a run s.game → Sound book s →
      let d = pass book (entries_of s.game.listed) s in
      (run' : ℕ → Instruction) × (l : StepLog) × PassByRules book a run s ms run' d l × AllBehind l s.game d.state.game
  pass_given run s ms stand sound =
      let (to, l, rule, done, stands, behind) = turns_by_rules (listed s) (listed_below sound) run s ms stand sound in
      (to, l, record { derived = execution (actual_seen s ms) rule; finished = done; standing = stands }, behind)

  pub pass_by_rules :
      (run : ℕ → Instruction) (s : State) (ms : Marks) → StandFor book a run s.game → Sound book s →
      (run' : ℕ → Instruction) × (l : StepLog) × PassByRules book a run s ms run' (pass book (entries_of s.game.listed) s) l
  pass_by_rules run s ms stand sound = let (to, l, rule, _) = pass_given run s ms stand sound in (to, l, rule)

  pub instant_given :
      (n : ℕ) (run : ℕ → Instruction) (s : State) (ms : Marks) → StandFor book a run s.game → Sound book s →
      RoundEnds book n (entries_of s.game.listed) s →
      let d = instant book n (entries_of s.game.listed) s in
      (run' : ℕ → Instruction) × (log : Log) × InstantByRules book a run s ms run' d log
      × ((q : ℕ) → q < R → Behind book q (last_of q log) s.game d.played.state.game)
  unfolding instant RoundEnds last_of
  instant_given zero run s ms stand sound ends = absurd ends
  instant_given (suc n) run s ms stand sound (inl done) =
      let (to, l, rule, behind) = pass_given run s ms stand sound in
      rw done (
        to,
        l ∷ [],
        record { derived = rule37 rule.derived (rule.finished ∙ done); passes = refl; standing = rule.standing },
        behind,
      )
  instant_given (suc n) run s ms stand sound (inr (undone, ends)) =
      let rs = listed s in
      let first = pass book rs s in
      let u = for_next_pass first.state in
      let (sound-last, kept) = pass_keeps book a rs (listed_below sound) s sound in
      let same : listed u ≡ rs = ap (λ l. entries_of l) kept.listed in
      let sound-again = next_pass_sound first.state sound-last in
      let (to, l, rule, behind) = pass_given run s ms stand sound in
      let flags = next_pass_seen first.state (ms ++ marks_in first.trace) in
      given (rw same at (instant_given n to u (ms ++ marks_in first.trace) rule.standing sound-again (rw same ends)))
      (λ (last, log, others, later).
      rw undone (
        last,
        l ∷ log,
        record {
          derived = rw (← marks_then) (rule38 {run'' = last} rule.derived (rule.finished ∙ undone) (rw flags at others.derived));
          passes = ap (λ k. k + 1) others.passes ∙ add-one (length log);
          standing = others.standing;
        },
        λ q m. behind_then book q (last_in q l) (last_of q log) s.game first.state.game _ (behind q m) (later q m),
      ))

  pub instant_by_rules :
      (n : ℕ) (run : ℕ → Instruction) (s : State) (ms : Marks) → StandFor book a run s.game → Sound book s →
      RoundEnds book n (entries_of s.game.listed) s →
      (run' : ℕ → Instruction) × (log : Log) × InstantByRules book a run s ms run' (instant book n (entries_of s.game.listed) s) log
  instant_by_rules n run s ms stand sound ends = let (to, log, rule, _) = instant_given n run s ms stand sound ends in (to, log, rule)
