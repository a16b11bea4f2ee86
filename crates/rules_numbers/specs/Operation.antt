-- The operations of a step.
use Rattle.std.specs.Prelude.{List, [], ◌∷◌, ℕ, ℤ, pos, neg_ℤ, ◌+ℤ◌, ◌-ℤ◌, ◌*ℤ◌, get_or}
use Rattle.rules_numbers.specs.Clip.{clip, quotient, least, greatest}

-- The operations in the order of their numbers. Copy and negate use b only, age neither.
abbrev pub operations : ℤ → ℤ → ℤ → List ℤ
operations b c age =
    b  -- 0 copy b
    ∷ clip (b +ℤ c)  -- 1 add
    ∷ clip (b -ℤ c)  -- 2 subtract c from b
    ∷ clip (neg_ℤ b)  -- 3 negate b
    ∷ clip (b *ℤ c)  -- 4 multiply
    ∷ clip (quotient b c)  -- 5 divide b by c toward zero
    ∷ least b c  -- 6 minimum
    ∷ greatest b c  -- 7 maximum
    ∷ age  -- 8 age
    ∷ []

-- the result of operation n; no frame has a number above 8
unfoldable pub operation : ℕ → ℤ → ℤ → ℤ → ℤ
operation n b c age = get_or (operations b c age) n (pos 0)
