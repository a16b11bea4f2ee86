-- Advance and arrival, as what they do once nothing refuses them, and their own refusals.
use Rattle.std.specs.Prelude.{ℕ, List, Bool, not, eqb, ltb, get_or}
use Rattle.rules_walks.specs.Pick.{both, either}
use Rattle.rules_walks.specs.Choose.{choose}
use Rattle.rules_walks.specs.Walk.{up_to}
use Rattle.rules_walks.specs.All.{any_to}
use Rattle.rules_walks.specs.Count.{count_if}
use Rattle.rules_tables.specs.Kind.{source, of_output}
use Rattle.rules_tables.specs.Frame.{flag_at, field_at}
use Rattle.rules_tables.specs.declared.Shape.{Shape}
use Rattle.rules_tables.specs.Ids.{elements, first_output, outputs, associations, association_frame}
use Rattle.rules_store.specs.Word.{largest_time, now_of, put_now, due_flag, due_time, put_value}
use Rattle.rules_store.specs.Due.{due_at, put_due}
use Rattle.rules_tables.specs.Owned.{any, nth}
use Rattle.rules_moves.specs.Partner.{output_owner}
use Rattle.rules_moves.specs.Carry.{voice, speaks}
use Rattle.rules_moves.specs.Fire.{fire}
use Rattle.rules_moves.specs.Take.{fire_found}

-- ---- "Advance to t sets now, then fires, with birth t, each delay due at t and clears it."
-- delay el fires, with birth t, and is cleared; it has one event output
unfoldable pub expired : List ℕ → Shape → ℕ → ℕ → List ℕ → List ℕ
expired T S t el s = put_due S el 0 0 (fire_found T S (nth T (first_output S) (outputs S) any el 0) t t s)

-- element el, if it is due at t
unfoldable pub expire : List ℕ → Shape → ℕ → ℕ → List ℕ → List ℕ
expire T S t el s = choose (due_at s t el) (expired T S t el s) s

unfoldable pub advanced : List ℕ → Shape → ℕ → List ℕ → List ℕ
advanced T S t s = up_to (expire T S t) (elements S) (put_now t s)

-- 7: "advance to a time before now or above the largest"
unfoldable pub wrong_time : List ℕ → ℕ → Bool
wrong_time s t = either (ltb t (now_of s)) (ltb largest_time t)

-- 8: "advance beyond the due time of a delay"
unfoldable pub due_before : List ℕ → ℕ → ℕ → Bool
due_before s t el = both (not (eqb (due_flag s el) 0)) (ltb (due_time s el) t)

unfoldable pub beyond_due : Shape → List ℕ → ℕ → Bool
beyond_due S s t = any_to (due_before s t) (elements S)

-- ---- "Arrival puts its values into the associated output variables in table order, then fires with the given birth."
unfoldable pub give : List ℕ → Shape → ℕ → List ℕ → ℕ → List ℕ → List ℕ
give T S o values j s =
    choose (speaks T S (voice of_output o) j)
    (put_value S (field_at T (association_frame S j) 1) (get_or values (count_if (speaks T S (voice of_output o)) j) 0) s)
    s

unfoldable pub arrived : List ℕ → Shape → ℕ → ℕ → List ℕ → List ℕ → List ℕ
arrived T S o birth values s = fire T S o birth (now_of s) (up_to (give T S o values) (associations S) s)

-- 9: "arrival names no event output of a source"
unfoldable pub of_source : List ℕ → Shape → ℕ → Bool
of_source T S o = both (ltb o (outputs S)) (eqb (flag_at T (output_owner T S o)) source)

-- 11: "number of values differs from the event's associations"
unfoldable pub value_count : List ℕ → Shape → ℕ → ℕ
value_count T S o = count_if (speaks T S (voice of_output o)) (associations S)
