-- A span that is the one asked for and lies in the table.
use Rattle.std.specs.Prelude.{ℕ, ◌+◌, ◌≤◌, List, ◌≡◌}
use Rattle.rules_tables.specs.Frame.{frames_of}
use Rattle.rules_tables.specs.declared.Span.{Span}

-- a span that is s and lies in the table
pub record Within (T : List ℕ) (s r : Span) : Type 0 where
  pub same : r ≡ s
  pub inside : r.first + r.count ≤ frames_of T
