-- "Idle, something waiting: take the least by (last update, element priority, local priority)."
use Rattle.std.specs.Prelude.{ℕ, Bool, eqb, ltb}
use Rattle.rules_walks.specs.Pick.{pick}
use Rattle.rules_walks.specs.Choose.{choose}
use Rattle.rules_walks.specs.Walk.{up_to}
use Rattle.rules_tables.specs.Frame.{Table, flag_at, field_at}
use Rattle.rules_tables.specs.declared.Shape.{Shape}
use Rattle.rules_tables.specs.Ids.{inputs, input_frame}
use Rattle.rules_store.specs.Word.{Store, waiting, last_update}
use Rattle.rules_moves.specs.declared.Key.{Key}
use Rattle.std.specs.Prelude.{Option, Some, None}

-- by what event input i is chosen
abbrev pub key_of : Table → Shape → Store → (i : ℕ) → Key
key_of T S s i = record { last = last_update S s i; priority = field_at T (field_at T (input_frame S i) 0) 0; local = flag_at T (input_frame S i) }

-- the least so far, with its key, or none
abbrev pub Best : Type 0
Best = Option (ℕ × Key)

-- last update before element priority before local priority
unfoldable pub beats : Key → Key → Bool
beats k h =
    pick (eqb k.last h.last)
    (pick (eqb k.priority h.priority) (ltb k.local h.local) (ltb k.priority h.priority))
    (ltb k.last h.last)

unfoldable pub better : (i : ℕ) → Key → Best → Best
better i k None = Some (i, k)
better i k (Some (j, h)) = pick (beats k h) (Some (i, k)) (Some (j, h))

-- event input i, if it waits, against the least so far
unfoldable pub look : Table → Shape → Store → (i : ℕ) → Best → Best
look T S s i x = choose (eqb (waiting S s i) 0) x (better i (key_of T S s i) x)

unfoldable pub least : Table → Shape → Store → Best
least T S s = up_to (look T S s) (inputs S) None
