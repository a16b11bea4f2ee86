-- What the code asks, in the words of its proofs.
use Rattle.std.specs.Prelude.{List, Bool, ℕ, ◌+◌}
use Rattle.rules_tables.specs.Kind.{step, variable}
use Rattle.rules_tables.specs.Place.{owner_of, owned_by}

-- the result of the i-th step from b on is of element el
abbrev pub result_at : List ℕ → (b el i : ℕ) → Bool
result_at T b el i = owned_by T variable (owner_of T step (b + i)) el
