-- What an event input, and an element's due words, were given.
use Rattle.std.specs.Prelude.{◌≡◌, List, ℕ}
use Rattle.rules_tables.specs.declared.Shape.{Shape}
use Rattle.rules_store.specs.Word.{due_flag, due_time, waiting, birth_of, last_update}

-- what event input i was given
pub record Input (S : Shape) (i flag birth last : ℕ) (s : List ℕ) : Type 0 where
  pub waits : waiting S s i ≡ flag
  pub born : birth_of S s i ≡ birth
  pub updated : last_update S s i ≡ last

-- what element el was given
pub record Due (el flag at : ℕ) (s : List ℕ) : Type 0 where
  pub flagged : due_flag s el ≡ flag
  pub timed : due_time s el ≡ at
