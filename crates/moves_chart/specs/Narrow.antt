-- What a reader of a guard promises beside it: its variables, where it has any, are halves of a frame.
use Rattle.std.specs.Prelude.{ℕ, ◌<◌}
use Rattle.rules_moves.specs.declared.Guard.{Guard}
use Rattle.rules_moves.specs.declared.Guard.TheVariants.{Always, Equals, Differs, Below, AtMost}

abbrev pub Halves : ℕ → ℕ → Type 0
Halves d e = (d < 65536) × (e < 65536)

abbrev pub Narrow : Guard → Type 0
Narrow Always = Unit {0}
Narrow (Equals d e) = Halves d e
Narrow (Differs d e) = Halves d e
Narrow (Below d e) = Halves d e
Narrow (AtMost d e) = Halves d e
