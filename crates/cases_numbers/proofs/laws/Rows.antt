-- The definitions answer each row of the program as the row says.
use Rattle.std.specs.Prelude.{◌≡◌, refl, Bool, true, ℕ, zero, suc, ◌<◌, ltb, eqb, get_or}
use Rattle.std.proofs.Common.{ltb-true, eqb-true}
use Rattle.rules_walks.specs.Choose.{choose}
use Rattle.rules_walks.specs.Pick.{both}
use Rattle.rules_walks.proofs.laws.Pick.{both3}
use Rattle.rules_walks.specs.All.{all_to}
use Rattle.rules_walks.proofs.laws.All.{all_at}
use Rattle.rules_numbers.specs.Word.{signed, ticks_of}
use Rattle.rules_numbers.specs.Clip.{clip, quotient, least, greatest}
use Rattle.rules_numbers.specs.Operation.{operation}
use Rattle.rules_numbers.specs.Truth.{true_value, outcome}
use Rattle.cases_numbers.specs.declared.Row.{Row}
use Rattle.cases_numbers.specs.Rows.{rows, none, answers, answered}

pub else_ticks : (what n b c age : ℕ) → (what ≡ 0 → ⊥) → answers what n b c age ≡ (ticks_of (signed b), 1)
else_ticks zero n b c age h = absurd (h refl)
else_ticks (suc what) n b c age h = refl

-- ---- each row can be asked, and is answered as it should be
fine : ℕ → Bool
fine i = let r = get_or rows i none in both (ltb r.4 2147483648) (both (eqb (answered r).0 r.5) (eqb (answered r).1 r.6))

all_fine : all_to fine 26 ≡ true
unfolding fine answered operation true_value outcome clip quotient least greatest choose all_to
all_fine = refl

module _ (i : ℕ) (h : i < 26) where
  abbrev r : Row
  r = get_or rows i none

  parts : (ltb r.4 2147483648 ≡ true) × (eqb (answered r).0 r.5 ≡ true) × (eqb (answered r).1 r.6 ≡ true)
  unfolding fine
  parts = both3 (ltb r.4 2147483648) (eqb (answered r).0 r.5) (eqb (answered r).1 r.6) (all_at fine 26 i h all_fine)

  pub young : r.4 < 2147483648
  young = ltb-true _ _ parts.0

  pub right : (answered r).0 ≡ r.5
  right = eqb-true _ _ parts.1

  pub rightly_told : (answered r).1 ≡ r.6
  rightly_told = eqb-true _ _ parts.2
