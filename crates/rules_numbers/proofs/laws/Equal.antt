-- The test of equality tells whether two signed values are the same.
use Rattle.std.specs.Prelude.{◌≡◌, refl, true, ℤ, pos, negsuc}
use Rattle.std.proofs.Common.{ap, subst, eqb-true, eq-eqb}
use Rattle.rules_walks.proofs.laws.Pick.{clash}
use Rattle.rules_numbers.specs.Equal.{eq_z}

pub equal_same : (a b : ℤ) → eq_z a b ≡ true → a ≡ b
equal_same (pos a) (pos b) e = ap pos (eqb-true a b e)
equal_same (pos a) (negsuc b) e = clash e
equal_same (negsuc a) (pos b) e = clash e
equal_same (negsuc a) (negsuc b) e = ap negsuc (eqb-true a b e)

pub equal_self : (a : ℤ) → eq_z a a ≡ true
equal_self (pos a) = eq-eqb a a refl
equal_self (negsuc a) = eq-eqb a a refl

pub same_equal : {a b : ℤ} → a ≡ b → eq_z a b ≡ true
same_equal {a} {b} e = subst (λ (z : ℤ). eq_z a z ≡ true) e (equal_self a)
