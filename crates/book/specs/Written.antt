-- Books written down as bytes, for examples: steps by document 01's table of ops, routines by their steps.
use Rattle.std.specs.Prelude.{ℕ, ◌+◌, ◌*◌, length, ℤ, pos}
use mathlib.Core.List.{List, [], ◌∷◌, ◌++◌, map, foldr}
use Rattle.numbers.specs.Bytes.{half_bytes, word_bytes, complement}
use Rattle.kinds.specs.Ops.{op_mark, op_set, op_add, op_take, op_signal, op_signal_number, op_rest, op_rest_for, op_wait, op_wait_for, op_join}
use Rattle.kinds.specs.Ops.{op_join_for, op_read, op_start, op_stop, op_suspend, op_resume, op_if, op_else, op_while, op_end}

-- "steps of 8 bytes: op (8 bits), a (8 bits), b (16 bits), n (32 bits, two's complement)"
abbrev pub step : ℕ → ℕ → ℕ → ℤ → List ℕ
step op a b n = op ∷ a ∷ half_bytes b ++ word_bytes (complement n)

-- "b relation (0 equal, 1 less, 2 greater)"
abbrev pub equal : ℕ
equal = 0

abbrev pub less : ℕ
less = 1

abbrev pub greater : ℕ
greater = 2

-- the ops of document 01's table, in its order and with the fields that it names; "Fields not named are 0."
abbrev pub mark : ℤ → List ℕ
mark n = step op_mark 0 0 n

abbrev pub set : ℕ → ℤ → List ℕ
set a n = step op_set a 0 n

abbrev pub add : ℕ → ℤ → List ℕ
add a n = step op_add a 0 n

abbrev pub take : ℕ → ℕ → List ℕ
take a b = step op_take a b (pos 0)

abbrev pub signal : ℕ → List ℕ
signal a = step op_signal a 0 (pos 0)

abbrev pub signal_number : ℕ → ℕ → List ℕ
signal_number a b = step op_signal_number a b (pos 0)

abbrev pub rest : List ℕ
rest = step op_rest 0 0 (pos 0)

abbrev pub rest_for : ℤ → List ℕ
rest_for n = step op_rest_for 0 0 n

abbrev pub wait : ℕ → List ℕ
wait a = step op_wait a 0 (pos 0)

abbrev pub wait_for : ℕ → ℤ → List ℕ
wait_for a n = step op_wait_for a 0 n

abbrev pub join : ℕ → List ℕ
join a = step op_join a 0 (pos 0)

abbrev pub join_for : ℕ → ℤ → List ℕ
join_for a n = step op_join_for a 0 n

abbrev pub read : ℕ → ℕ → ℤ → List ℕ
read a b k = step op_read a b k

abbrev pub start : ℕ → List ℕ
start a = step op_start a 0 (pos 0)

abbrev pub stop : ℕ → List ℕ
stop a = step op_stop a 0 (pos 0)

abbrev pub suspend : ℕ → List ℕ
suspend a = step op_suspend a 0 (pos 0)

abbrev pub resume : ℕ → List ℕ
resume a = step op_resume a 0 (pos 0)

abbrev pub if : ℕ → ℕ → ℤ → List ℕ
if a b n = step op_if a b n

abbrev pub else : List ℕ
else = step op_else 0 0 (pos 0)

abbrev pub while : ℕ → ℕ → ℤ → List ℕ
while a b n = step op_while a b n

abbrev pub end : List ℕ
end = step op_end 0 0 (pos 0)

abbrev pub joined : {A : Type 0} → List (List A) → List A
joined l = foldr ◌++◌ [] l

-- "Header of 12 bytes: routines R .., steps S .., signals E .., counters C .., offset of the directory (12), offset of the steps (12 +
-- 4R)."
abbrev pub header : ℕ → ℕ → ℕ → ℕ → List ℕ
header R S E C = half_bytes R ++ half_bytes S ++ half_bytes E ++ half_bytes C ++ half_bytes 12 ++ half_bytes (12 + 4 * R)

-- "Directory: R entries, first step and step count": the entries of routines with these step counts, from step p on
unfoldable pub directory : ℕ → List ℕ → List ℕ
directory p [] = []
directory p (n ∷ ns) = half_bytes p ++ half_bytes n ++ directory (p + n) ns

-- a book of E signals, C counters and these routines, each a list of steps
abbrev pub book : ℕ → ℕ → List (List (List ℕ)) → List ℕ
book E C routines =
    let steps = joined routines in
    header (length routines) (length steps) E C ++ directory 0 (map length routines) ++ joined steps

-- a book of one signal, one counter and one routine
abbrev pub one_routine : List (List ℕ) → List ℕ
one_routine steps = book 1 1 (steps ∷ [])
