-- A decimal number read: 1 to 18 digits, so that it fits.
use Rattle.std.specs.Prelude.{List, Bool, ℕ, zero, suc, ◌+◌, ◌*◌, ◌-◌, eqb, leb, ltb, length, get_or, Option, Some, None}
use Rattle.rules_walks.specs.Pick.{pick, both}
use Rattle.rules_walks.specs.All.{all_to}

unfoldable pub is_decimal : ℕ → Bool
is_decimal c = both (leb 48 c) (leb c 57)

-- what its first i characters count
unfoldable pub number_to : List ℕ → (i : ℕ) → ℕ
number_to L zero = 0
number_to L (suc i) = number_to L i * 10 + (get_or L i 0 - 48)

unfoldable pub decimal_at : List ℕ → (i : ℕ) → Bool
decimal_at L i = is_decimal (get_or L i 0)

unfoldable pub number_of : List ℕ → Option ℕ
number_of L = pick (eqb (length L) 0) None (pick (ltb 18 (length L)) None (pick (all_to (decimal_at L) (length L)) (Some (number_to L (length L))) None))
