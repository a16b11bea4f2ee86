-- Computed examples: what no law says of the rules of numbers, so that code and definition cannot change it together.
use Rattle.std.specs.Prelude.{◌≡◌, refl, Bool, true, false, [], ◌∷◌, map, ℕ, ℤ, pos, negsuc}
use Rattle.rules_walks.specs.Choose.{choose}
use Rattle.rules_numbers.specs.Bytes.{half_at, word_at, half_bytes, word_bytes}
use Rattle.rules_numbers.specs.Clip.{lowest, highest, clip, quotient, least, greatest}
use Rattle.rules_numbers.specs.declared.Outcome.{Outcome}
use Rattle.rules_numbers.specs.Operation.{operation}
use Rattle.rules_numbers.specs.Truth.{true_value, outcome}
use Rattle.rules_numbers.specs.Word.{ticks_of}

-- ---- divide toward zero: 7 and -7 by 2 and -2; a zero divisor gives 0
pub divided : map (λ (b : ℤ). quotient b (pos 2)) (pos 7 ∷ negsuc 6 ∷ []) ≡ pos 3 ∷ negsuc 2 ∷ []
unfolding quotient
divided = refl

pub divided_by_negative : map (λ (b : ℤ). quotient b (negsuc 1)) (pos 7 ∷ negsuc 6 ∷ []) ≡ negsuc 2 ∷ pos 3 ∷ []
unfolding quotient
divided_by_negative = refl

pub divided_by_zero : map (λ (b : ℤ). quotient b (pos 0)) (pos 7 ∷ negsuc 6 ∷ []) ≡ pos 0 ∷ pos 0 ∷ []
unfolding quotient
divided_by_zero = refl

-- ---- of -1 and 1, both ways round
pub minimum : least (negsuc 0) (pos 1) ∷ least (pos 1) (negsuc 0) ∷ [] ≡ negsuc 0 ∷ negsuc 0 ∷ []
unfolding least choose
minimum = refl

pub maximum : greatest (negsuc 0) (pos 1) ∷ greatest (pos 1) (negsuc 0) ∷ [] ≡ pos 1 ∷ pos 1 ∷ []
unfolding greatest choose
maximum = refl

-- ---- "a clipped result and a division by zero are not" true: -2147483648 negated and divided by -1, 2147483647 + 1, 0 and 7 divided by 0
abbrev told : ℤ → Bool → Outcome
told z t = record { result = z; is_true = t }

pub untrue_results :
    outcome 3 lowest (pos 0) (pos 0)
    ∷ outcome 5 lowest (negsuc 0) (pos 0)
    ∷ outcome 1 highest (pos 1) (pos 0)
    ∷ outcome 5 (pos 0) (pos 0) (pos 0)
    ∷ outcome 5 (pos 7) (pos 0) (pos 0)
    ∷ []
    ≡ told highest false ∷ told highest false ∷ told highest false ∷ told (pos 0) false ∷ told (pos 0) false ∷ []
unfolding outcome operation true_value clip quotient choose
untrue_results = refl

-- -7 divided by 2, and a result exactly at an end: 2147483646 + 1, -2147483647 - 1, -2147483648 divided by 1
pub true_results :
    outcome 5 (negsuc 6) (pos 2) (pos 0)
    ∷ outcome 1 (pos 2147483646) (pos 1) (pos 0)
    ∷ outcome 2 (negsuc 2147483646) (pos 1) (pos 0)
    ∷ outcome 5 lowest (pos 1) (pos 0)
    ∷ []
    ≡ told (negsuc 2) true ∷ told highest true ∷ told lowest true ∷ told lowest true ∷ []
unfolding outcome operation true_value clip quotient choose
true_results = refl

-- copy, minimum, maximum and age, of -2147483648 and 2147483647
pub always_true : map (λ (n : ℕ). outcome n lowest highest (pos 50)) (0 ∷ 6 ∷ 7 ∷ 8 ∷ []) ≡ told lowest true ∷ told lowest true ∷ told highest true ∷ told (pos 50) true ∷ []
unfolding outcome operation true_value least greatest choose
always_true = refl

-- ---- a negative DT counts as 0
pub ticks : map ticks_of (pos 50 ∷ negsuc 49 ∷ []) ≡ 50 ∷ 0 ∷ []
ticks = refl

-- ---- high byte first
pub read_high_first : word_at (1 ∷ 2 ∷ 3 ∷ 4 ∷ []) 0 ≡ 16909060
unfolding word_at half_at
read_high_first = refl

pub written_high_first : word_bytes 16909060 ≡ 1 ∷ 2 ∷ 3 ∷ 4 ∷ []
unfolding word_bytes half_bytes
written_high_first = refl
