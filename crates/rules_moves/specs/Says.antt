-- What each guard says of the values of its variables, in words of numbers alone.
use Rattle.std.specs.Prelude.{◌≡◌, ℕ, ℤ, ◌<ℤ◌, ◌≤ℤ◌}
use Rattle.rules_moves.specs.declared.Guard.{Guard}
use Rattle.rules_moves.specs.declared.Guard.TheVariants.{Always, Equals, Differs, Below, AtMost}

abbrev pub Says : (ℕ → ℤ) → Guard → Type 0
Says read Always = Unit {0}
Says read (Equals d e) = read d ≡ read e
Says read (Differs d e) = read d ≡ read e → ⊥
Says read (Below d e) = read d <ℤ read e
Says read (AtMost d e) = read d ≤ℤ read e
