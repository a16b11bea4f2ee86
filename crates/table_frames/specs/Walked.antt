-- What a walk over the frames, kind by kind, knows where it stands: how many have their form, and where each kind began.
use Rattle.std.specs.Prelude.{ℕ, ◌+◌, ◌≤◌, ◌<◌, List, ◌≡◌, true, false, length, get_or}
use Rattle.rules_tables.specs.Frame.{frames_of, kind_at}
use Rattle.rules_tables.specs.Place.{below_to}
use Rattle.rules_tables.specs.Form.{form_of, body_ok, form_ok}

-- the frames from `start` to before r are of kind k, with the body of its form, and no more than a table may have
pub record KindTo (T : List ℕ) (k start r : ℕ) : Type 0 where
  pub from : start ≤ r
  pub within : r ≤ frames_of T
  pub few : r ≤ start + (form_of k).most
  pub kinds : (i : ℕ) → start ≤ i → i < r → kind_at T i ≡ k
  pub bodies : (i : ℕ) → start ≤ i → i < r → body_ok T i ≡ true

-- and frame r is not one more
pub record KindEnd (T : List ℕ) (k start r : ℕ) : Type 0 where
  pub run : KindTo T k start r
  pub stopped : r < frames_of T → r < start + (form_of k).most → kind_at T r ≡ k → body_ok T r ≡ false

-- the kinds below k are walked: the first f frames have their form and are of such a kind, and frame f is not one more; `from` has the starts up to k
pub record Walked (T from : List ℕ) (k f : ℕ) : Type 0 where
  pub size : length from ≡ 13
  pub within : f ≤ frames_of T
  pub formed : (i : ℕ) → i < f → form_ok T i ≡ true
  pub below : (i : ℕ) → i < f → kind_at T i < k
  pub stopped : f < frames_of T → kind_at T f < k → form_ok T f ≡ false
  pub starts : (j : ℕ) → j ≤ k → get_or from j 0 ≡ below_to T j f
