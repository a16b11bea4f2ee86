-- Where each word of the store lies, and how many it needs. No other file knows a place in the store.
use Rattle.std.specs.Prelude.{ℕ, ◌+◌, ◌*◌}
use Rattle.rules_tables.specs.declared.Shape.{Shape}
use Rattle.rules_tables.specs.Ids.{elements, inputs, variables}

-- ---- words: "16 + 3 per element + 3 per event input + 2 per variable"
unfoldable pub need : Shape → ℕ
need S = 16 + 3 * elements S + 3 * inputs S + 2 * variables S

-- "Then per element: chart state (basic, else 0), due flag, due time."
unfoldable pub element_at : (el : ℕ) → ℕ
element_at el = 16 + 3 * el

-- "Per event input: waiting flag, birth, last update."
unfoldable pub input_at : Shape → (i : ℕ) → ℕ
input_at S i = 16 + 3 * elements S + 3 * i

-- "Per variable: value, buffer (0 unless an input)."
unfoldable pub variable_at : Shape → (v : ℕ) → ℕ
variable_at S v = 16 + 3 * elements S + 3 * inputs S + 2 * v
