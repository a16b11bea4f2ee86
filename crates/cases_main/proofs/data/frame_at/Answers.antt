-- Computed: the constants are the frames of the definitions, field by field.
use mathlib.Core.Path.{refl}
use Rattle.rules_numbers.specs.Bytes.{half_at}
use Rattle.cases_tables.specs.Worked.{worked}
use Rattle.cases.specs.Cases.{frames_in}
use Rattle.cases_main.specs.Rows.{frames}
use Rattle.cases_main.proofs.data.frame_at.Goals as goal

pub returns : goal.returns
unfolding frames frames_in worked half_at
returns c = refl
