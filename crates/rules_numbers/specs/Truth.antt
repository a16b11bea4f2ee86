-- "Each operation shall tell, besides its result, whether the result is the true one; a clipped result and a division by zero are not."
use Rattle.std.specs.Prelude.{Bool, false, List, [], ◌∷◌, ℕ, zero, suc, ℤ, pos, negsuc, neg_ℤ, ◌+ℤ◌, ◌-ℤ◌, ◌*ℤ◌, get_or}
use Rattle.rules_numbers.specs.declared.Outcome.{Outcome}
use Rattle.rules_numbers.specs.Clip.{clip, quotient, least, greatest}
use Rattle.rules_numbers.specs.Equal.{eq_z}
use Rattle.rules_numbers.specs.Operation.{operation}

-- the true value of an operation, a whole number of any size, where it has one
pub data TrueValue : Type 0 where
  exactly : ℤ → TrueValue
  undefined : TrueValue

-- a division by zero has no true value
abbrev pub divided : ℤ → ℤ → TrueValue
divided b (pos zero) = undefined
divided b (pos (suc d)) = exactly (quotient b (pos (suc d)))
divided b (negsuc d) = exactly (quotient b (negsuc d))

-- The true values of the operations in the order of their numbers.
abbrev pub true_values : ℤ → ℤ → ℤ → List TrueValue
true_values b c age =
    exactly b  -- 0 copy b
    ∷ exactly (b +ℤ c)  -- 1 add
    ∷ exactly (b -ℤ c)  -- 2 subtract c from b
    ∷ exactly (neg_ℤ b)  -- 3 negate b
    ∷ exactly (b *ℤ c)  -- 4 multiply
    ∷ divided b c  -- 5 divide b by c toward zero
    ∷ exactly (least b c)  -- 6 minimum
    ∷ exactly (greatest b c)  -- 7 maximum
    ∷ exactly age  -- 8 age
    ∷ []

-- the true value of operation n; no frame has a number above 8
unfoldable pub true_value : ℕ → ℤ → ℤ → ℤ → TrueValue
true_value n b c age = get_or (true_values b c age) n undefined

-- the result r is the true value
abbrev pub agrees : ℤ → TrueValue → Bool
agrees r (exactly z) = eq_z r z
agrees r undefined = false

-- what is told of a result r and a true value: the one, and whether it is the other
abbrev pub telling : ℤ → TrueValue → Outcome
telling r v = record { result = r; is_true = agrees r v }

-- of a value that is told as it is, and of one that is clipped
abbrev pub itself : ℤ → Outcome
itself z = telling z (exactly z)

abbrev pub clipped : ℤ → Outcome
clipped z = telling (clip z) (exactly z)

-- what operation n tells
unfoldable pub outcome : ℕ → ℤ → ℤ → ℤ → Outcome
outcome n b c age = telling (operation n b c age) (true_value n b c age)

-- its result is the true one
abbrev pub is_true : ℕ → ℤ → ℤ → ℤ → Bool
is_true n b c age = (outcome n b c age).is_true
