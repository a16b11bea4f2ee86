-- The number of a class of parts, in the order of `class_at`.
use Rattle.std.specs.Prelude.{ℕ, Option, None, Some}
use Rattle.table_network.specs.declared.class.Class.{Class}
use Rattle.table_network.specs.declared.class.Class.TheVariants.{EventInputs, EventOutputs, Inputs, Outputs, Internals, Unknowns}

abbrev pub class_number : Class → ℕ
class_number EventInputs = 0
class_number EventOutputs = 1
class_number Inputs = 2
class_number Outputs = 3
class_number Internals = 4
class_number Unknowns = 5

-- that of what may be no part
abbrev pub class_or_none : Option Class → ℕ
class_or_none None = 6
class_or_none (Some c) = class_number c
