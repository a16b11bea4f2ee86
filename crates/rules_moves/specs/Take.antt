-- Move 1: the least waiting event is taken. "It stops waiting. Associated inputs get value from buffer."
use Rattle.std.specs.Prelude.{ℕ, ◌+◌, List, Bool, eqb}
use Rattle.rules_walks.specs.Choose.{choose}
use Rattle.rules_walks.specs.Walk.{up_to}
use Rattle.rules_walks.specs.First.{Sought, one, missing}
use Rattle.rules_numbers.specs.Word.{signed, ticks_of}
use Rattle.rules_tables.specs.Kind.{basic, interface, delay, of_input}
use Rattle.rules_tables.specs.Frame.{flag_at, field_at}
use Rattle.rules_tables.specs.declared.Shape.{Shape}
use Rattle.rules_tables.specs.Ids.{first_input, first_variable, variables, associations, association_frame}
use Rattle.rules_store.specs.Running.{awake}
use Rattle.rules_store.specs.Word.{put_owner, put_running, due_flag, birth_of, put_input, value, put_value, buffer}
use Rattle.rules_store.specs.Due.{put_due}
use Rattle.rules_tables.specs.Owned.{any, rank, nth}
use Rattle.rules_moves.specs.Partner.{input_owner, partner_output, partner_variable}
use Rattle.rules_moves.specs.Carry.{voice, speaks}
use Rattle.rules_moves.specs.Fire.{fire}

-- association j, if it is one of event input i: its variable's value becomes what its buffer holds
unfoldable pub sample : List ℕ → Shape → ℕ → ℕ → List ℕ → List ℕ
sample T S i j s =
    choose (speaks T S (voice of_input i) j)
    (put_value S (field_at T (association_frame S j) 1) (buffer S s (field_at T (association_frame S j) 1)) s)
    s

abbrev pub samples : List ℕ → Shape → ℕ → List ℕ → List ℕ
samples T S i s = up_to (sample T S i) (associations S) s

-- "Interface: the associated inputs' values go to their partners, then the partner event is fired with the same birth."
unfoldable pub pass_to : Shape → Sought → ℕ → List ℕ → List ℕ
pass_to S (one u) v s = put_value S u (value S s v) s
pass_to S missing v s = s

unfoldable pub pass : List ℕ → Shape → ℕ → ℕ → List ℕ → List ℕ
pass T S i j s =
    choose (speaks T S (voice of_input i) j)
    (pass_to S (partner_variable T S (field_at T (association_frame S j) 1)) (field_at T (association_frame S j) 1) s)
    s

abbrev pub passes : List ℕ → Shape → ℕ → List ℕ → List ℕ
passes T S i s = up_to (pass T S i) (associations S) s

unfoldable pub fire_found : List ℕ → Shape → Sought → ℕ → ℕ → List ℕ → List ℕ
fire_found T S (one o) birth time s = fire T S o birth time s
fire_found T S missing birth time s = s

-- "Delay: START sets due to now + DT (a negative DT counts as 0), STOP clears it." DT is its one variable; START comes first of its event inputs
unfoldable pub ticks_in : Shape → List ℕ → Sought → ℕ
ticks_in S s (one v) = ticks_of (signed (value S s v))
ticks_in S s missing = 0

unfoldable pub dt_of : List ℕ → Shape → ℕ → List ℕ → ℕ
dt_of T S el s = ticks_in S s (nth T (first_variable S) (variables S) any el 0)

unfoldable pub is_start : List ℕ → Shape → ℕ → ℕ → Bool
is_start T S el i = eqb (rank T (first_input S) any el i) 0

-- document 02, A3: it "counts from the first START, and later ones before the output have no effect". So a START that finds the delay due leaves it as it is
unfoldable pub started : List ℕ → Shape → ℕ → ℕ → List ℕ → List ℕ
started T S el time s = choose (eqb (due_flag s el) 0) (put_due S el 1 (time + dt_of T S el s) s) s

unfoldable pub start_stop : List ℕ → Shape → ℕ → ℕ → ℕ → List ℕ → List ℕ
start_stop T S el i time s = choose (is_start T S el i) (started T S el time s) (put_due S el 0 0 s)

-- "Basic: mode 1, live."
unfoldable pub wake : ℕ → ℕ → ℕ → List ℕ → List ℕ
wake el i birth s = put_running (awake birth) (put_owner (el + 1) (i + 1) s)

-- it stops waiting, and the associated inputs are sampled
unfoldable pub sampled : List ℕ → Shape → ℕ → List ℕ → List ℕ
sampled T S i s = samples T S i (put_input S i 0 0 0 s)

-- what the event, with this birth, does at element el of this sort before anything is fired; s is the store with its inputs sampled
unfoldable pub settle : ℕ → List ℕ → Shape → ℕ → ℕ → ℕ → ℕ → List ℕ → List ℕ
settle sort T S el i birth time s =
    choose (eqb sort basic) (wake el i birth s)
    (choose (eqb sort interface) (passes T S i s)
    (choose (eqb sort delay) (start_stop T S el i time s) s))

unfoldable pub settled : List ℕ → Shape → ℕ → ℕ → List ℕ → List ℕ
settled T S i time s = settle (flag_at T (input_owner T S i)) T S (input_owner T S i) i (birth_of S s i) time (sampled T S i s)

-- the event output that taking event input i fires, if any: "then the partner event is fired"
unfoldable pub fired_by : List ℕ → Shape → ℕ → Sought
fired_by T S i = choose (eqb (flag_at T (input_owner T S i)) interface) (partner_output T S i) missing

-- it is fired "with the same birth"
unfoldable pub taken : List ℕ → Shape → ℕ → ℕ → List ℕ → List ℕ
taken T S i time s = fire_found T S (fired_by T S i) (birth_of S s i) time (settled T S i time s)
