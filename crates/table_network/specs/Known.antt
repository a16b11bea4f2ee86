-- What the passes know of the frames that they walk over.
use Rattle.std.specs.Prelude.{◌≡◌, List, true, ℕ, ◌<◌, ◌≤◌, min, length, get_or}
use Rattle.rules_walks.specs.All.{all_to}
use Rattle.rules_tables.specs.Frame.{kind_at, frames_of}
use Rattle.rules_tables.specs.Place.{below_to, Starts}
use Rattle.rules_tables.specs.Form.{form_ok}
use Rattle.rules_tables.specs.Reference.{refers_ok}

-- of the first n frames, those of kind k are the ones from lo to hi
pub record Stretch (T : List ℕ) (k n lo hi : ℕ) : Type 0 where
  pub rise : lo ≤ hi
  pub within : hi ≤ n
  pub before : (i : ℕ) → i < lo → kind_at T i ≡ k → ⊥
  pub inside : (i : ℕ) → lo ≤ i → i < hi → kind_at T i ≡ k
  pub after : (i : ℕ) → hi ≤ i → i < n → kind_at T i ≡ k → ⊥

-- the first n frames have their form, and `from` tells where their kinds begin: at n where it says more
pub record Stretches (T from : List ℕ) (n : ℕ) : Type 0 where
  pub within : n ≤ frames_of T
  pub form : all_to (form_ok T) n ≡ true
  pub size : length from ≡ 13
  pub starts : (k : ℕ) → k < 13 → min (get_or from k 0) n ≡ below_to T k n

-- and they refer rightly; `at` tells where the kinds begin in the whole table, and so how many frames of a kind there are
pub record Known (T at from : List ℕ) (n : ℕ) : Type 0 where
  pub few : frames_of T ≤ 4096
  pub counts : Starts T at
  pub stretches : Stretches T from n
  pub refers : all_to (refers_ok T) n ≡ true
