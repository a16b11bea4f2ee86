-- The cases of numbers as the program has them: in words, a row each. The definitions answer each row as it should be.
use Rattle.std.specs.Prelude.{Bool, List, map, ℕ, zero, suc, ℤ, pos, nat_abs}
use Rattle.rules_walks.specs.Pick.{pick}
use Rattle.rules_numbers.specs.Word.{signed, word, ticks_of}
use Rattle.rules_numbers.specs.Operation.{operation}
use Rattle.rules_numbers.specs.Truth.{is_true}
use Rattle.cases_numbers.specs.Cases.{Asked, step, wait, Case, cases}
use Rattle.cases_numbers.specs.declared.Row.{Row}
use Rattle.cases_numbers.specs.declared.Told.{Told}

-- a case as a row: what is asked (0 an operation, 1 a DT's ticks), its number, two words, the age, what must come out, and 1 where that is the true one
abbrev pub as_row : Asked → ℤ → Bool → Row
as_row (step op b c age) z t = (0, op, word b, word c, nat_abs age, word z, pick t 1 0)
as_row (wait dt) z t = (1, 0, word dt, 0, 0, word z, pick t 1 0)

abbrev pub rows : List Row
rows = map (λ (k : Case). as_row k.asked k.want k.is_true) cases

abbrev pub none : Row
none = (0, 0, 0, 0, 0, 0, 0)

-- what the definitions answer: a word, and 1 where it is the true one
abbrev pub answers : ℕ → ℕ → ℕ → ℕ → ℕ → Told
answers zero n b c age = (word (operation n (signed b) (signed c) (pos age)), pick (is_true n (signed b) (signed c) (pos age)) 1 0)
answers (suc what) n b c age = (ticks_of (signed b), 1)

unfoldable pub answered : Row → Told
answered r = answers r.0 r.1 r.2 r.3 r.4
