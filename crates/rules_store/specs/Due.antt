-- The next due time, and the one writer of due words, which keeps it. Document 02, A5: "word 9 tells whether a due flag is set, word 10 the earliest time or 0.
-- START, STOP, advance and load all keep it right". Looking goes through all elements, whatever their sort, and reads nothing but their due words.
use Rattle.std.specs.Prelude.{Bool, not, ℕ, zero, suc, eqb, ltb}
use Rattle.rules_walks.specs.Pick.{both, either}
use Rattle.rules_walks.specs.Choose.{choose}
use Rattle.rules_tables.specs.declared.Shape.{Shape}
use Rattle.rules_tables.specs.Ids.{elements}
use Rattle.rules_store.specs.declared.NextDue.{NextDue}
use Rattle.rules_store.specs.Word.{Store, due_flag, due_time, set_due, put_next}

-- element el is due at the time t
unfoldable pub due_at : Store → (t el : ℕ) → Bool
due_at s t el = both (not (eqb (due_flag s el) 0)) (eqb (due_time s el) t)

-- ---- looking
abbrev pub nothing_due : NextDue
nothing_due = record { due = 0; time = 0 }

abbrev pub due_then : (t : ℕ) → NextDue
due_then t = record { due = 1; time = t }

-- t where nothing else is due or t comes before it, else what was the earliest
unfoldable pub sooner : (t : ℕ) → NextDue → NextDue
sooner t a = choose (either (eqb a.due 0) (ltb t a.time)) (due_then t) a

-- the earliest due time of the first n elements, of those whose due flag is set
unfoldable pub earliest : Store → (n : ℕ) → NextDue
earliest s zero = nothing_due
earliest s (suc n) = choose (eqb (due_flag s n) 0) (earliest s n) (sooner (due_time s n) (earliest s n))

-- ---- the one writer of due words
unfoldable pub put_due : Shape → (el flag time : ℕ) → Store → Store
put_due S el flag time s = put_next (earliest (set_due el flag time s) (elements S)) (set_due el flag time s)
