-- Of two instructions that are the same but for nothings in front, the first does what the second does, and what is left of them differs
-- in no more than that. By the rules of a sequence and of a while; a nothing terminates at once, by rule 2.
use Rattle.rules.specs.Instructions.{Status, Instruction}
use Rattle.rules.specs.Schedulers.{Scheduler}
use Rattle.rules.specs.Rules.{⟨◌&◌⟩⟶[◌]⟨◌&◌⟩, rule2, rule3, rule4, rule7, rule8}
use Rattle.rules.specs.Residual.{◌⇝◌, same, drop, first, body}

pub transitive : {i j k : Instruction} → i ⇝ j → j ⇝ k → i ⇝ k
transitive same s = s
transitive (drop a b) s = drop a (transitive b s)
transitive (first a) same = first a
transitive (first a) (drop b s) = drop (transitive a b) s
transitive (first a) (first b) = first (transitive a b)
transitive (body a) same = body a
transitive (body a) (body b) = body (transitive a b)

pub follows :
    {i j j' : Instruction} {σ τ : Scheduler} {α : Status} →
    i ⇝ j → ⟨ j & σ ⟩⟶[ α ]⟨ j' & τ ⟩ →
    (i' : Instruction) × ⟨ i & σ ⟩⟶[ α ]⟨ i' & τ ⟩ × (i' ⇝ j')
follows same d = (_, d, same)
follows (drop a b) d = let u = follows a rule2 in let v = follows b d in (v.0, rule3 u.1 v.1, v.2)
follows (first a) (rule3 d g) = let u = follows a d in (_, rule3 u.1 g, same)
follows (first a) (rule4 d n) = let u = follows a d in (_, rule4 u.1 n, first u.2)
follows (body a) (rule7 d g) = let u = follows a d in (_, rule7 u.1 g, same)
follows (body a) (rule8 d n) = let u = follows a d in (_, rule8 u.1 n, body u.2)
