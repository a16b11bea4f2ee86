-- What the code that takes an event leaves: store, output and the place after what was written.
use Rattle.std.specs.Prelude.{ℕ, ◌+◌, ◌≡◌, List, length}
use Rattle.std.proofs.lemmas.List.Edits.{sets}
use Rattle.rules_tables.specs.Frame.{flag_at}
use Rattle.rules_tables.specs.declared.Shape.{Shape}
use Rattle.rules_store.specs.Word.{birth_of, last_update}
use Rattle.rules_moves.specs.Partner.{input_owner}
use Rattle.rules_moves.specs.Take.{taken}
use Rattle.rules_moves.specs.Record.{put_out}

-- it has so many bytes, whatever the birth and the store
pub record Sized (T : List ℕ) (S : Shape) (i z : ℕ) : Type 0 where
  pub bytes_are : (birth time : ℕ) (s : List ℕ) → length (put_out T S i birth time s) ≡ z

-- what is known of the event that waits at event input i of store s: its element, that element's sort, its birth and its last update
pub record Event (T : List ℕ) (S : Shape) (s : List ℕ) (i sort el birth last : ℕ) : Type 0 where
  pub sort_is : sort ≡ flag_at T (input_owner T S i)
  pub element_is : el ≡ input_owner T S i
  pub birth_is : birth ≡ birth_of S s i
  pub last_is : last ≡ last_update S s i

-- event input i was taken, store s having become s' and output o o', from place `at` to place r
pub record Received (T : List ℕ) (S : Shape) (i time : ℕ) (s s' o o' : List ℕ) (at r : ℕ) : Type 0 where
  pub store_is : s' ≡ taken T S i time s
  pub output_is : o' ≡ sets o at (put_out T S i (birth_of S s i) time s)
  pub place_is : r ≡ at + length (put_out T S i (birth_of S s i) time s)
