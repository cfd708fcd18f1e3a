-- What a step is to the blocks around it: document 01, on blocks and pausing.
use Rattle.std.specs.Prelude.{Bool, true, false, eqb, if◌then◌else◌}
use Rattle.kinds.specs.declared.Kind.{Kind}
use Rattle.kinds.specs.declared.Kind.TheVariants.{Mark, Set, Add, Take, Signal, SignalNumber, Rest, RestFor, Wait, WaitFor}
use Rattle.kinds.specs.declared.Kind.TheVariants.{Join, JoinFor, Read}
use Rattle.kinds.specs.declared.Kind.TheVariants.{Start, Stop, Suspend, Resume, If, Else, While, End}
use Rattle.forms.specs.declared.Form.{Form}
use Rattle.forms.specs.declared.Form.TheVariants.{Plain, Pausing, IfOpening, ElseMarker, WhileOpening, EndMarker}

-- "Op 6 pauses; op 7 does if n is at least 1; .. Nothing else pauses, a while included."; whether an if does is said of its blocks
abbrev pub form_of : Kind → Form
form_of (Mark n) = Plain
form_of (Set a n) = Plain
form_of (Add a n) = Plain
form_of (Take a b) = Plain
form_of (Signal a) = Plain
form_of (SignalNumber a b) = Plain
form_of Rest = Pausing
form_of (RestFor n) = if eqb n 0 then Plain else Pausing
form_of (Wait a) = Plain
form_of (WaitFor a n) = Plain
form_of (Join a) = Plain
form_of (JoinFor a n) = Plain
form_of (Read a b k) = Plain
form_of (Start a) = Plain
form_of (Stop a) = Plain
form_of (Suspend a) = Plain
form_of (Resume a) = Plain
form_of (If a b n) = IfOpening
form_of Else = ElseMarker
form_of (While a b n) = WhileOpening
form_of End = EndMarker

abbrev pub is_else : Form → Bool
is_else Plain = false
is_else Pausing = false
is_else IfOpening = false
is_else ElseMarker = true
is_else WhileOpening = false
is_else EndMarker = false

abbrev pub is_end : Form → Bool
is_end Plain = false
is_end Pausing = false
is_end IfOpening = false
is_end ElseMarker = false
is_end WhileOpening = false
is_end EndMarker = true
