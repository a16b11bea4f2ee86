-- How many bytes the code says an event input writes, by the sort of its element.
use Rattle.std.specs.Prelude.{◌≡◌, List, ℕ, length}
use Rattle.std.proofs.Common.{ap, ◌∙◌}
use Rattle.rules_tables.specs.Kind.{sink}
use Rattle.rules_tables.specs.Frame.{flag_at}
use Rattle.rules_tables.specs.declared.Shape.{Shape}
use Rattle.rules_moves.specs.Partner.{input_owner}
use Rattle.rules_moves.specs.Record.{record_size}
use Rattle.moves_take.specs.Received.{Sized}
use Rattle.rules_moves.proofs.laws.Record.{record_length, sink_writes, others_write_none}

-- what an event input writes by its element's sort
module _ (T : List ℕ) (S : Shape) (i : ℕ) where
  pub sink_sized : flag_at T (input_owner T S i) ≡ sink → Sized T S i (record_size T S i)
  sink_sized e = record { bytes_are = λ birth time s. ap length (sink_writes T S i e birth time s) ∙ record_length T S i birth time s }

  pub others_sized : (flag_at T (input_owner T S i) ≡ sink → ⊥) → Sized T S i 0
  others_sized e = record { bytes_are = λ birth time s. ap length (others_write_none T S i e birth time s) }
