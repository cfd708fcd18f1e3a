-- The ops by their numbers: document 01's table.
use Rattle.std.specs.Prelude.{ℕ}

abbrev pub op_mark : ℕ
op_mark = 0

abbrev pub op_set : ℕ
op_set = 1

abbrev pub op_add : ℕ
op_add = 2

abbrev pub op_take : ℕ
op_take = 3

abbrev pub op_signal : ℕ
op_signal = 4

abbrev pub op_signal_number : ℕ
op_signal_number = 5

abbrev pub op_rest : ℕ
op_rest = 6

abbrev pub op_rest_for : ℕ
op_rest_for = 7

abbrev pub op_wait : ℕ
op_wait = 8

abbrev pub op_wait_for : ℕ
op_wait_for = 9

abbrev pub op_join : ℕ
op_join = 10

abbrev pub op_join_for : ℕ
op_join_for = 11

abbrev pub op_read : ℕ
op_read = 12

abbrev pub op_start : ℕ
op_start = 13

abbrev pub op_stop : ℕ
op_stop = 14

abbrev pub op_suspend : ℕ
op_suspend = 15

abbrev pub op_resume : ℕ
op_resume = 16

abbrev pub op_if : ℕ
op_if = 17

abbrev pub op_else : ℕ
op_else = 18

abbrev pub op_while : ℕ
op_while = 19

abbrev pub op_end : ℕ
op_end = 20
