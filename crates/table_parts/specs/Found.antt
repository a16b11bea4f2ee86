-- What code answers for a search.
use Rattle.rules_walks.specs.First.{Sought, one, missing}
use Rattle.std.specs.Prelude.{ℕ, Option, Some, None}

-- what code answers for a search
abbrev pub found_of : Sought → Option ℕ
found_of (one j) = Some j
found_of missing = None
