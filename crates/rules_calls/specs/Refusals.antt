-- Why a call is refused past 4: "Then 5, 6 and the call's own, rising."
use Rattle.std.specs.Prelude.{ℕ, List, eqb, ltb, length}
use Rattle.rules_walks.specs.Pick.{pick}
use Rattle.rules_tables.specs.declared.Shape.{Shape}
use Rattle.rules_store.specs.Layout.{need}
use Rattle.rules_store.specs.Word.{now_of}
use Rattle.rules_store.specs.WellFormed.{well_formed}
use Rattle.rules_calls.specs.Calls.{wrong_time, beyond_due, of_source, value_count}

-- ---- the refusals past 4
-- 5: "store shorter than its need"
unfoldable pub load_refusal : Shape → List ℕ → ℕ
load_refusal S s = pick (ltb (length s) (need S)) 5 0

-- 6: "store not well formed"
unfoldable pub store_refusal : List ℕ → Shape → List ℕ → ℕ
store_refusal T S s = pick (ltb (length s) (need S)) 5 (pick (well_formed T S s) 0 6)

-- the first of two
abbrev pub or_else : ℕ → ℕ → ℕ
or_else q p = pick (eqb q 0) p q

-- 7, 8
unfoldable pub time_refusal : Shape → List ℕ → ℕ → ℕ
time_refusal S s t = pick (wrong_time s t) 7 (pick (beyond_due S s t) 8 0)

unfoldable pub advance_refusal : List ℕ → Shape → List ℕ → ℕ → ℕ
advance_refusal T S s t = or_else (store_refusal T S s) (time_refusal S s t)

-- 9, 10, 11
unfoldable pub event_refusal : List ℕ → Shape → List ℕ → ℕ → ℕ → List ℕ → ℕ
event_refusal T S s o birth values =
    pick (of_source T S o) (pick (ltb (now_of s) birth) 10 (pick (eqb (length values) (value_count T S o)) 0 11)) 9

unfoldable pub arrival_refusal : List ℕ → Shape → List ℕ → ℕ → ℕ → List ℕ → ℕ
arrival_refusal T S s o birth values = or_else (store_refusal T S s) (event_refusal T S s o birth values)
