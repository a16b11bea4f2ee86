-- Computed: the constants are the rows of the definitions' cases.
use mathlib.Core.Path.{refl}
use Rattle.cases_main.proofs.data.row_at.Goals as goal

pub returns : goal.returns
returns c = refl
