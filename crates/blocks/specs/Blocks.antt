-- Blocks: how they nest, and whether they pause.
-- Document 01: "A block is a run of steps, and a step may hold blocks: an if one or two (a missing second does nothing), a while one."
use Rattle.std.specs.Prelude.{ℕ, zero, suc, ◌+◌, ◌-◌, min, Bool, true, false, ◌&&◌, ◌||◌, List, ltb, if◌then◌else◌}
use Rattle.std.specs.Prelude.{Option, Some, None, Result, Ok, Err}
use Rattle.kinds.specs.declared.Kind.{Kind}
use Rattle.kinds.specs.declared.Counts.{Counts}
use Rattle.forms.specs.declared.Form.{Form}
use Rattle.forms.specs.declared.Form.TheVariants.{Plain, Pausing, IfOpening, ElseMarker, WhileOpening, EndMarker}
use Rattle.blocks.specs.declared.Fault.{Fault}
use Rattle.blocks.specs.declared.Fault.TheVariants.{Unreadable, Misnested}
use Rattle.blocks.specs.declared.Walked.{Walked}
use Rattle.forms.specs.Forms.{form_of, is_else, is_end}
use Rattle.kinds.specs.Steps.{step_at}

-- what stands at a place of a routine: a step, a step that is turned down, or nothing, behind the last step
pub data View : Type 0 where
  beyond : View
  unreadable : View
  stands : Form → View

abbrev pub seen : Option Kind → View
seen (Some k) = stands (form_of k)
seen None = unreadable

-- places are counted from the routine's own first step, where the part of the book begins; it has n steps
unfoldable pub view_at : Counts → List ℕ → ℕ → ℕ → View
view_at counts part n p = if ltb p n then seen (step_at counts part p) else beyond

abbrev pub else_at : View → Bool
else_at beyond = false
else_at unreadable = false
else_at (stands f) = is_else f

-- what reading a block or a step finds: what it is past, or a fault
abbrev pub Walk : Type 0
Walk = Result Walked Fault

-- past it, with the place behind it, whether it pauses, and the lowest while in it whose body doesn't
abbrev pub past : ℕ → Bool → ℕ → Walk
past q u l = Ok (record { behind = q; pauses = u; lowest = l })

-- past a block or a step go on with what is found of it
abbrev pub and_then : Walk → (ℕ → Bool → ℕ → Walk) → Walk
and_then (Ok w) next = next w.behind w.pauses w.lowest
and_then (Err f) next = Err f

-- A step opened at p whose last block stops at q ends behind the end there.
-- "for an unclosed opening, the innermost one open at the routine's end"; another marker at q is wrong.
abbrev pub closed : View → ℕ → ℕ → Bool → ℕ → Walk
closed beyond p q u l = Err (Misnested p)
closed unreadable p q u l = Err (Unreadable q)
closed (stands f) p q u l = if is_end f then past (q + 1) u l else Err (Misnested q)

-- "Nesting goes to depth 16."
abbrev pub deepest : ℕ
deepest = 16

-- a routine of n steps; n also stands for no while, where the lowest whose body doesn't pause is told
module _ (at : ℕ → View) (n : ℕ) where
  -- whether it pauses: "an if does if it has both blocks and both pause"; the second block, behind the else at q
  abbrev pub else_by : (ℕ → Walk) → ℕ → ℕ → Bool → ℕ → Walk
  else_by block p q u l = and_then (block (q + 1)) (λ r v m. closed (at r) p r (u && v) (min l m))

  abbrev pub if_by : (ℕ → Walk) → ℕ → Walk
  if_by block p = and_then (block (p + 1)) (λ q u l. if else_at (at q) then else_by block p q u l else closed (at q) p q false l)

  -- "Nothing else pauses, a while included. The body of each while must pause."
  abbrev pub while_by : (ℕ → Walk) → ℕ → Walk
  while_by block p = and_then (block (p + 1)) (λ q u l. closed (at q) p q false (if u then l else p))

  -- a step, whose blocks are read by readers of an if and of a while
  abbrev pub step_by : (ℕ → Walk) → (ℕ → Walk) → Form → ℕ → Walk
  step_by ifs whiles Plain p = past (p + 1) false n
  step_by ifs whiles Pausing p = past (p + 1) true n
  step_by ifs whiles IfOpening p = ifs p
  step_by ifs whiles ElseMarker p = Err (Misnested p)
  step_by ifs whiles WhileOpening p = whiles p
  step_by ifs whiles EndMarker p = Err (Misnested p)

  -- "A block pauses if one of its steps does.": the step at p, and the rest
  abbrev pub block_step : (Form → ℕ → Walk) → (ℕ → Bool → ℕ → Walk) → View → ℕ → Bool → ℕ → Walk
  block_step step rest beyond p u l = past p u l
  block_step step rest unreadable p u l = Err (Unreadable p)
  block_step step rest (stands f) p u l =
      if is_else f || is_end f
      then past p u l
      else and_then (step f p) (λ q v m. rest q (u || v) (min l m))

  -- the steps from p on, at most k of them, up to a marker or the end
  unfoldable pub block_by : (Form → ℕ → Walk) → ℕ → ℕ → Bool → ℕ → Walk
  block_by step zero p u l = past p u l
  block_by step (suc k) p u l = block_step step (block_by step k) (at p) p u l

  -- "depth 17" is wrong at the opening itself; d is the depth left, and n - q the steps left
  unfoldable pub step_of : ℕ → Form → ℕ → Walk
  step_of zero f p = step_by (λ q. Err (Misnested q)) (λ q. Err (Misnested q)) f p
  step_of (suc d) f p =
      let block : ℕ → Walk = λ q. block_by (step_of d) (n - q) q false n in
      step_by (if_by block) (while_by block) f p

  abbrev pub block_of : ℕ → ℕ → Walk
  block_of d p = block_by (step_of d) (n - p) p false n

  abbrev pub if_of : ℕ → ℕ → Walk
  if_of d p = if_by (block_of d) p

  abbrev pub while_of : ℕ → ℕ → Walk
  while_of d p = while_by (block_of d) p

  -- a marker that stops the routine's own block is "a marker without its opening"
  unfoldable pub routine_of : Walk
  routine_of = and_then (block_of deepest 0) (λ q u l. if ltb q n then Err (Misnested q) else past q u l)
