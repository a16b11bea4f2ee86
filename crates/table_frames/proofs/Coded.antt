-- What the code keeps and asks, in the words of its proofs.
use Rattle.std.specs.Prelude.{List, [], ◌∷◌, Bool, ℕ, map, get_or, eqb}
use Rattle.rules_tables.specs.Frame.{field_at}
use Rattle.rules_tables.specs.Form.{form, forms}
use Rattle.table_frames.specs.Form.{in_bytes}
use Rattle.table_frames.specs.declared.form.Form.{Form as InBytes}
use Rattle.table_frames.specs.declared.kind.Kind.{Kind}
use Rattle.table_frames.specs.declared.kind.Kind.TheVariants.{Element, EventInput, EventOutput, Variable, Association, ChartState, Transition, Action, Step, EventConnection, DataConnection}

-- the form of kind k
abbrev pub held : (k : ℕ) → InBytes
held k = get_or (map in_bytes forms) k (in_bytes (form 0 [] 0))

-- the kinds that a table has, in its order
abbrev pub all_kinds : List Kind
all_kinds = Element ∷ EventInput ∷ EventOutput ∷ Variable ∷ Association ∷ ChartState ∷ Transition ∷ Action ∷ Step ∷ EventConnection ∷ DataConnection ∷ []

-- a field is zero
abbrev pub zero_at : List ℕ → (f j : ℕ) → Bool
zero_at T f j = eqb (field_at T f j) 0
