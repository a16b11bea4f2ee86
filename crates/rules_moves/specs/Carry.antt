-- Which variables an event carries. This is the one place that says so, for every kind of element. Copying every connected value instead of these
-- once threw good cartons off a line: the gate got the next carton's weight with this carton's event.
use Rattle.std.specs.Prelude.{ℕ, Bool, eqb}
use Rattle.rules_walks.specs.Pick.{pick, both}
use Rattle.rules_walks.specs.All.{any_to}
use Rattle.rules_walks.specs.First.{Sought, one, missing}
use Rattle.rules_tables.specs.Kind.{none, interface, of_input, of_output}
use Rattle.rules_tables.specs.Frame.{Table, flag_at, field_at}
use Rattle.rules_tables.specs.declared.Shape.{Shape}
use Rattle.rules_tables.specs.Ids.{associations, association_frame}
use Rattle.rules_moves.specs.declared.Voice.{Voice}
use Rattle.rules_moves.specs.Partner.{output_owner, partner_input, partner_variable}

-- the associations that speak for an event output: those of this flag with this event
abbrev pub voice : (flag event : ℕ) → Voice
voice flag event = record { flag = flag; event = event }

-- no association has this flag
abbrev pub no_voice : Voice
no_voice = voice 2 0

-- an event output speaks by its own associations; "an interface's output carries the partners of the inputs associated with its partner event"
abbrev pub heard_from : Sought → Voice
heard_from (one i) = voice of_input i
heard_from missing = no_voice

unfoldable pub voice_of : Table → Shape → (o : ℕ) → Voice
voice_of T S o = pick (eqb (flag_at T (output_owner T S o)) interface) (heard_from (partner_input T S o)) (voice of_output o)

-- association j is one of them
unfoldable pub speaks : Table → Shape → Voice → (j : ℕ) → Bool
speaks T S w j = both (eqb (flag_at T (association_frame S j)) w.flag) (eqb (field_at T (association_frame S j) 0) w.event)

abbrev pub or_none : Sought → ℕ
or_none (one v) = v
or_none missing = none

-- the variable that association j has the event carry: its own, or for an interface its partner
unfoldable pub carried_by : Table → Shape → Voice → (j : ℕ) → ℕ
carried_by T S w j =
    pick (speaks T S w j)
    (pick (eqb w.flag of_output) (field_at T (association_frame S j) 1) (or_none (partner_variable T S (field_at T (association_frame S j) 1))))
    none

-- the event carries variable v
unfoldable pub carries : Table → Shape → Voice → (v : ℕ) → Bool
carries T S w v = any_to (λ j. eqb (carried_by T S w j) v) (associations S)
