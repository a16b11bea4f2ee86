-- The partners of an interface: "as many event inputs as outputs and as many input as output variables ..; the k-th belong together".
use Rattle.std.specs.Prelude.{ℕ}
use Rattle.rules_walks.specs.First.{Sought}
use Rattle.rules_tables.specs.Kind.{input, output}
use Rattle.rules_tables.specs.Frame.{Table, field_at}
use Rattle.rules_tables.specs.declared.Shape.{Shape}
use Rattle.rules_tables.specs.Ids.{first_input, first_output, first_variable, inputs, outputs, variables, input_frame, output_frame, variable_frame}
use Rattle.rules_tables.specs.Owned.{any, rank, nth}

-- the element of an event input, an event output, a variable
abbrev pub input_owner : Table → Shape → (i : ℕ) → ℕ
input_owner T S i = field_at T (input_frame S i) 0

abbrev pub output_owner : Table → Shape → (o : ℕ) → ℕ
output_owner T S o = field_at T (output_frame S o) 0

abbrev pub variable_owner : Table → Shape → (v : ℕ) → ℕ
variable_owner T S v = field_at T (variable_frame S v) 0

-- the event output that belongs to event input i, and the other way round
unfoldable pub partner_output : Table → Shape → (i : ℕ) → Sought
partner_output T S i = nth T (first_output S) (outputs S) any (input_owner T S i) (rank T (first_input S) any (input_owner T S i) i)

unfoldable pub partner_input : Table → Shape → (o : ℕ) → Sought
partner_input T S o = nth T (first_input S) (inputs S) any (output_owner T S o) (rank T (first_output S) any (output_owner T S o) o)

-- the output variable that belongs to input variable v
unfoldable pub partner_variable : Table → Shape → (v : ℕ) → Sought
partner_variable T S v = nth T (first_variable S) (variables S) output (variable_owner T S v) (rank T (first_variable S) input (variable_owner T S v) v)
