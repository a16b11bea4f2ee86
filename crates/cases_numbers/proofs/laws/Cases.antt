-- The one claim over the cases of numbers, computed.
use Rattle.std.specs.Prelude.{◌≡◌, refl, Bool, true, not, List, [], ◌∷◌}
use Rattle.rules_walks.specs.Choose.{choose}
use Rattle.rules_walks.specs.Pick.{pick, both}
use Rattle.rules_numbers.specs.Clip.{clip, quotient, least, greatest}
use Rattle.rules_numbers.specs.Operation.{operation}
use Rattle.rules_numbers.specs.Truth.{true_value, outcome}
use Rattle.rules_numbers.specs.Equal.{eq_z}
use Rattle.cases_numbers.specs.Cases.{answer, truth, Case, cases}

-- each is answered as it should be
abbrev right : Case → Bool
right k = both (eq_z (answer k.asked) k.want) (pick k.is_true (truth k.asked) (not (truth k.asked)))

abbrev all : List Case → Bool
all [] = true
all (k ∷ ks) = both (right k) (all ks)

pub all_right : all cases ≡ true
unfolding operation true_value outcome clip quotient least greatest choose
all_right = refl
