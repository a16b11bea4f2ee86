-- What a function that prints hands to its caller.
use Rattle.std.specs.Prelude.{◌≡◌, List, ℕ, ◌+◌, ◌≤◌, length}
use Rattle.std.proofs.lemmas.List.Edits.{sets}

-- P printed from `at` on, up to `most` at most
pub record Printed (P : List ℕ) (at most r : ℕ) (text text' : List ℕ) : Type 0 where
  pub place_is : r ≡ at + length P
  pub text_is : text' ≡ sets text at P
  pub room : r ≤ most
