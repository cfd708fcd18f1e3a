-- The kinds of an order by their numbers: document 01, "by kind: 0 broadcast a signal, 1 start, 2 stop, 3 suspend, 4 resume."
use Rattle.std.specs.Prelude.{ℕ, ◌≡◌, ◌≤◌, Result, MatchResult}
use Rattle.layout.specs.Layout.{most_routines, most_signals, most_counters}
use Rattle.orders.specs.Orders.{order_count}
use Rattle.verdicts.specs.declared.Refusal.{Refusal}
use Rattle.verdicts.specs.declared.Refusal.TheVariants.{WrongOrder}
use Rattle.ordering.specs.declared.OrderKind.{OrderKind}
use Rattle.ordering.specs.declared.OrderKind.TheVariants.{Broadcast, Start, Stop, Suspend, Resume}

abbrev pub number_of : OrderKind → ℕ
number_of Broadcast = 0
number_of Start = 1
number_of Stop = 2
number_of Suspend = 3
number_of Resume = 4

-- the kind of a number, or the refusal of an order of unknown kind
abbrev pub IsKind : ℕ → Result OrderKind Refusal → Type 0
IsKind n r = MatchResult r (λ kind. n ≡ number_of kind) (λ refusal. (5 ≤ n) × (refusal ≡ WrongOrder))

-- how many numbers an order of a kind can name at most, whatever the book
abbrev pub most_named : OrderKind → ℕ
most_named kind = order_count (record { routines = most_routines; signals = most_signals; counters = most_counters }) (number_of kind)
