-- "Load zeroes the need, then sets initial chart states, and start values in value and, for inputs, buffer."
use Rattle.std.specs.Prelude.{ℕ, ◌+◌, ◌*◌, eqb, set}
use Rattle.rules_walks.specs.Choose.{choose}
use Rattle.rules_walks.specs.Walk.{up_to}
use Rattle.rules_tables.specs.Kind.{basic, input}
use Rattle.rules_tables.specs.Frame.{Table, flag_at, field_at}
use Rattle.rules_tables.specs.declared.Shape.{Shape}
use Rattle.rules_tables.specs.Ids.{elements, variables, variable_frame}
use Rattle.rules_store.specs.Layout.{need}
use Rattle.rules_store.specs.Word.{Store, put_chart_state, put_value, put_buffer}

abbrev pub zeroes : (n : ℕ) → Store → Store
zeroes n s = up_to (λ (k : ℕ) (x : Store). set x k 0) n s

-- "basic: b initial state"
unfoldable pub initial : Table → (el : ℕ) → Store → Store
initial T el s = choose (eqb (flag_at T el) basic) (put_chart_state el (field_at T el 1) s) s

-- "b, c start value, high and low half"
unfoldable pub start_value : Table → Shape → (v : ℕ) → ℕ
start_value T S v = field_at T (variable_frame S v) 1 * 65536 + field_at T (variable_frame S v) 2

unfoldable pub start : Table → Shape → (v : ℕ) → Store → Store
start T S v s =
    choose (eqb (flag_at T (variable_frame S v)) input)
    (put_buffer S v (start_value T S v) (put_value S v (start_value T S v) s))
    (put_value S v (start_value T S v) s)

unfoldable pub loaded : Table → Shape → Store → Store
loaded T S s = up_to (start T S) (variables S) (up_to (initial T) (elements S) (zeroes (need S) s))
