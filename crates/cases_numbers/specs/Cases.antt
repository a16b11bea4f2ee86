-- The examples of document 01 on numbers, with others at both ends of the range and at a zero divisor, each with whether it is true: one table, one claim.
use Rattle.std.specs.Prelude.{Bool, true, false, List, [], ◌∷◌, ℕ, ℤ, pos, neg_ℤ}
use Rattle.rules_numbers.specs.Word.{ticks_of}
use Rattle.rules_numbers.specs.Clip.{lowest, highest}
use Rattle.rules_numbers.specs.Operation.{operation}
use Rattle.rules_numbers.specs.Truth.{is_true}

-- what is asked: an operation of b, c and the age, or a DT's ticks
pub data Asked : Type 0 where
  step : ℕ → ℤ → ℤ → ℤ → Asked
  wait : ℤ → Asked

abbrev pub answer : Asked → ℤ
answer (step op b c age) = operation op b c age
answer (wait dt) = pos (ticks_of dt)

-- whether it is the true one; ticks are always
abbrev pub truth : Asked → Bool
truth (step op b c age) = is_true op b c age
truth (wait dt) = true

pub record Case : Type 0 where
  pub asked : Asked
  pub want : ℤ
  pub is_true : Bool

abbrev gives : Asked → ℤ → Case
gives a z = record { asked = a; want = z; is_true = true }

-- a result that is not the true one
abbrev yields : Asked → ℤ → Case
yields a z = record { asked = a; want = z; is_true = false }

abbrev plus : ℕ → ℤ
plus n = pos n

abbrev minus : ℕ → ℤ
minus n = neg_ℤ (pos n)

abbrev pub cases : List Case
cases =
    yields (step 3 lowest (plus 0) (plus 0)) (plus 2147483647)
    ∷ yields (step 5 lowest (minus 1) (plus 0)) (plus 2147483647)
    ∷ gives (step 5 (minus 7) (plus 2) (plus 0)) (minus 3)
    ∷ gives (step 5 (plus 7) (minus 2) (plus 0)) (minus 3)
    ∷ gives (step 5 (minus 7) (minus 2) (plus 0)) (plus 3)
    ∷ yields (step 5 (minus 7) (plus 0) (plus 0)) (plus 0)
    ∷ gives (step 0 lowest (plus 5) (plus 9)) lowest
    ∷ yields (step 1 highest (plus 1) (plus 0)) highest
    ∷ yields (step 1 lowest (minus 1) (plus 0)) lowest
    ∷ gives (step 1 highest lowest (plus 0)) (minus 1)
    ∷ yields (step 2 lowest (plus 1) (plus 0)) lowest
    ∷ gives (step 2 (plus 3) (plus 5) (plus 0)) (minus 2)
    ∷ gives (step 3 highest (plus 0) (plus 0)) (minus 2147483647)
    ∷ yields (step 4 lowest highest (plus 0)) lowest
    ∷ yields (step 4 lowest lowest (plus 0)) highest
    ∷ gives (step 4 (plus 46340) (minus 46340) (plus 0)) (minus 2147395600)
    ∷ yields (step 4 (plus 46341) (minus 46341) (plus 0)) lowest
    ∷ gives (step 6 (minus 1) (plus 1) (plus 0)) (minus 1)
    ∷ gives (step 7 (minus 1) (plus 1) (plus 0)) (plus 1)
    ∷ gives (step 8 (minus 1) (plus 1) (plus 9)) (plus 9)
    ∷ gives (step 1 (plus 2147483646) (plus 1) (plus 0)) highest
    ∷ gives (step 2 (minus 2147483647) (plus 1) (plus 0)) lowest
    ∷ gives (step 5 lowest (plus 1) (plus 0)) lowest
    ∷ yields (step 5 (plus 0) (plus 0) (plus 0)) (plus 0)
    ∷ gives (wait (plus 50)) (plus 50)
    ∷ gives (wait (minus 1)) (plus 0)
    ∷ []
