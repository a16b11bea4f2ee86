-- "Store words are 32-bit": the words of the variables.
use Rattle.std.specs.Prelude.{ℕ, ◌<◌}
use Rattle.rules_tables.specs.declared.Shape.{Shape}
use Rattle.rules_tables.specs.Ids.{variables}
use Rattle.rules_store.specs.Word.{Store, value, buffer}

pub record Wide (S : Shape) (s : Store) : Type 0 where
  pub values : (v : ℕ) → v < variables S → value S s v < 4294967296
  pub buffers : (v : ℕ) → v < variables S → buffer S s v < 4294967296
