-- "A record: element, event input (2 bytes each), birth, last update, now, then associated values in table order (4 each)."
use Rattle.std.specs.Prelude.{ℕ, ◌+◌, ◌*◌, List, [], ◌++◌, eqb}
use Rattle.rules_walks.specs.Choose.{choose}
use Rattle.rules_walks.specs.Count.{count_if}
use Rattle.rules_walks.specs.Walk.{up_to}
use Rattle.rules_numbers.specs.Bytes.{half_bytes, word_bytes}
use Rattle.rules_tables.specs.Kind.{sink, of_input}
use Rattle.rules_tables.specs.Frame.{flag_at, field_at}
use Rattle.rules_tables.specs.declared.Shape.{Shape}
use Rattle.rules_tables.specs.Ids.{associations, association_frame}
use Rattle.rules_store.specs.Word.{last_update, value}
use Rattle.rules_moves.specs.Partner.{input_owner}
use Rattle.rules_moves.specs.Carry.{voice, speaks}
use Rattle.rules_moves.specs.Take.{sampled}

unfoldable pub head : ℕ → ℕ → ℕ → ℕ → ℕ → List ℕ
head el i birth last time = half_bytes el ++ half_bytes i ++ word_bytes birth ++ word_bytes last ++ word_bytes time

-- the value of association j, if it is one of event input i, after those before
unfoldable pub value_of : List ℕ → Shape → List ℕ → ℕ → ℕ → List ℕ → List ℕ
value_of T S s i j bytes =
    choose (speaks T S (voice of_input i) j) (bytes ++ word_bytes (value S s (field_at T (association_frame S j) 1))) bytes

unfoldable pub values : List ℕ → Shape → List ℕ → ℕ → List ℕ
values T S s i = up_to (value_of T S s i) (associations S) []

-- the record that taking event input i from store s writes, with this birth; the values are those just sampled
unfoldable pub record_of : List ℕ → Shape → ℕ → ℕ → ℕ → List ℕ → List ℕ
record_of T S i birth time s =
    head (input_owner T S i) i birth (last_update S s i) time ++ values T S (sampled T S i s) i

-- its length in bytes
unfoldable pub record_size : List ℕ → Shape → ℕ → ℕ
record_size T S i = 16 + 4 * count_if (speaks T S (voice of_input i)) (associations S)

-- what taking event input i writes: "Sink: a record is written."
unfoldable pub put_out : List ℕ → Shape → ℕ → ℕ → ℕ → List ℕ → List ℕ
put_out T S i birth time s = choose (eqb (flag_at T (input_owner T S i)) sink) (record_of T S i birth time s) []
