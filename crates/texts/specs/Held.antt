-- What a text holds, and what it holds with one text more.
use Rattle.std.specs.Prelude.{ℕ, ◌≡◌, List}
use Rattle.texts.specs.Texts.{Filled, filled, with_text}
use Rattle.texts.specs.declared.Text.{Text}

abbrev pub held : Text → Filled
held t = filled t.out.now t.used

-- a text is put behind what is there, into the same buffer
pub record Puts (before : Text) (text : List ℕ) (after : Text) : Type 0 where
  pub same_buffer : after.out.ghost_name ≡ before.out.ghost_name
  pub put : held after ≡ with_text (held before) text
