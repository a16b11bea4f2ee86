-- "Fire event e with birth t: for each connection of e in table order, the input becomes waiting with birth t and last update now; if it waited already, the
-- overwritten count rises. Each data connection from a variable that e carries copies value to buffer; no other buffer changes."
use Rattle.std.specs.Prelude.{ℕ, Bool, eqb}
use Rattle.rules_walks.specs.Choose.{choose}
use Rattle.rules_walks.specs.Walk.{up_to}
use Rattle.rules_tables.specs.Frame.{Table, field_at}
use Rattle.rules_tables.specs.declared.Shape.{Shape}
use Rattle.rules_tables.specs.Ids.{connections, links, connection_frame, link_frame}
use Rattle.rules_store.specs.Word.{Store, counted, overwritten, put_overwritten, waiting, put_input, value, put_buffer}
use Rattle.rules_moves.specs.declared.Voice.{Voice}
use Rattle.rules_moves.specs.Carry.{voice_of, carries}

-- event input i becomes waiting
unfoldable pub mark : Shape → (birth time i : ℕ) → Store → Store
mark S birth time i s = put_input S i 1 birth time (put_overwritten (counted (waiting S s i) (overwritten s)) s)

-- event connection j, if it is one of event output o
unfoldable pub connect : Table → Shape → (o birth time j : ℕ) → Store → Store
connect T S o birth time j s =
    choose (eqb (field_at T (connection_frame S j) 0) o) (mark S birth time (field_at T (connection_frame S j) 1) s) s

abbrev pub connects : Table → Shape → (o birth time : ℕ) → Store → Store
connects T S o birth time s = up_to (connect T S o birth time) (connections S) s

-- data connection j, if its source passes the test
unfoldable pub copy_if : Table → Shape → (ℕ → Bool) → (j : ℕ) → Store → Store
copy_if T S p j s =
    choose (p (field_at T (link_frame S j) 0)) (put_buffer S (field_at T (link_frame S j) 1) (value S s (field_at T (link_frame S j) 0)) s) s

-- data connection j, if the event carries its source
abbrev pub copy : Table → Shape → Voice → (j : ℕ) → Store → Store
copy T S w = copy_if T S (carries T S w)

abbrev pub copies : Table → Shape → Voice → Store → Store
copies T S w s = up_to (copy T S w) (links S) s

-- event output o is fired with this birth at this time
unfoldable pub fire : Table → Shape → (o birth time : ℕ) → Store → Store
fire T S o birth time s = copies T S (voice_of T S o) (connects T S o birth time s)
