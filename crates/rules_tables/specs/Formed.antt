-- What a frame that has its form is known to have: the parts of refusal 2's test, each as a fact.
use Rattle.std.specs.Prelude.{◌≡◌, List, true, ℕ, ◌≤◌, ◌<◌}
use Rattle.rules_walks.specs.All.{all_to}
use Rattle.rules_tables.specs.Frame.{kind_at, flag_at}
use Rattle.rules_tables.specs.Place.{count_to, order_at}
use Rattle.rules_tables.specs.Form.{form_of, used_of, clear_at, steps_ok}

-- of what stands in the frame itself
pub record Body (T : List ℕ) (f : ℕ) : Type 0 where
  pub flag : flag_at T f ≤ (form_of (kind_at T f)).flags
  pub steps : steps_ok T f ≡ true
  pub clear : all_to (clear_at T f (used_of (kind_at T f) (flag_at T f))) 5 ≡ true

pub record Formed (T : List ℕ) (f : ℕ) : Type 0 where
  pub low : 1 ≤ kind_at T f
  pub high : kind_at T f ≤ 11
  pub order : order_at T f ≡ true
  pub room : count_to T (kind_at T f) f < (form_of (kind_at T f)).most
  pub body : Body T f
