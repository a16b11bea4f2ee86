-- Words and numbers as text, in ASCII.
use Rattle.std.specs.Prelude.{ℕ, zero, suc, ◌+◌, ◌-◌, ◌/◌, ◌%◌, List, [], ◌∷◌, ◌++◌, ltb}
use Prim.Native.Char.{code}
use Prim.Native.String.{String, [] as empty, ◌∷◌ as ◌then◌}
use Rattle.rules_walks.specs.Choose.{choose}

-- the codes of the characters of a text
abbrev pub codes : String → List ℕ
codes empty = []
codes (c then cs) = code c ∷ codes cs

-- the decimal digits of a number, as far as k of them go
unfoldable pub decimal_to : (k n : ℕ) → List ℕ
decimal_to zero n = []
decimal_to (suc k) n = choose (ltb n 10) ((48 + n) ∷ []) (decimal_to k (n / 10) ++ ((48 + n % 10) ∷ []))

-- a number below 2^64 has at most 20
unfoldable pub decimal : (n : ℕ) → List ℕ
decimal n = decimal_to 20 n

-- a word read as a signed number, in two's complement
unfoldable pub signed : (w : ℕ) → List ℕ
signed w = choose (ltb w 2147483648) (decimal w) (codes "-" ++ decimal (4294967296 - w))
