-- What the code of a move leaves: the store after it, and what it writes at a place of the output; and how many untrue steps were made with it.
use Rattle.std.specs.Prelude.{ℕ, ◌+◌, List, ◌≡◌}
use Rattle.std.proofs.lemmas.List.Edits.{sets}
use Rattle.rules_tables.specs.declared.Shape.{Shape}
use Rattle.rules_moves.specs.declared.Next.{Next}
use Rattle.rules_moves.specs.Next.{move_by, untrue_by, written_by, size_by}

-- move n was made, store s having become s' and output o o', from place `at` to place p, and u untrue steps u'
pub record Made (T : List ℕ) (S : Shape) (time : ℕ) (n : Next) (s s' o o' : List ℕ) (at p u u' : ℕ) : Type 0 where
  pub store : s' ≡ move_by T S time n s
  pub output : o' ≡ sets o at (written_by T S time n s)
  pub place : p ≡ at + size_by T S time n s
  pub untrue_told : u' ≡ u + untrue_by T S time n s
