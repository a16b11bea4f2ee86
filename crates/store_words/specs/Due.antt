-- When the next due time is known without looking.
use Rattle.std.specs.Prelude.{Bool, not, ℕ, eqb, leb}
use Rattle.rules_walks.specs.Pick.{both, either}
use Rattle.rules_store.specs.declared.NextDue.{NextDue}

-- an element that gets this due flag and the time t is due, and what was the next due time, a, is not before t
unfoldable pub comes_first : (flag t : ℕ) → NextDue → Bool
comes_first flag t a = both (not (eqb flag 0)) (either (eqb a.due 0) (leb t a.time))
