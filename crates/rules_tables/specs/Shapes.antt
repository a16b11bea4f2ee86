-- The shapes of elements: what parts an element of each sort has. Parts are counted in the whole table, by kind byte.
use Rattle.std.specs.Prelude.{ℕ, ◌+◌, min, Bool, true, not, eqb}
use Rattle.rules_walks.specs.Pick.{pick, both, either}
use Rattle.rules_walks.specs.Count.{count_if}
use Rattle.rules_tables.specs.Kind.{element, event_input, event_output, variable, interface, delay, source, sink}
use Rattle.rules_tables.specs.Frame.{Table, kind_at, flag_at, field_at, frames_of}
use Rattle.rules_tables.specs.Place.{count_to}

-- the class of part that a frame is: 0 event input, 1 event output, 2 input, 3 output, 4 internal variable, 5 a variable of no known flag, 6 no part
unfoldable pub class_at : Table → (f : ℕ) → ℕ
class_at T f =
    pick (eqb (kind_at T f) event_input) 0
    (pick (eqb (kind_at T f) event_output) 1 (pick (eqb (kind_at T f) variable) (min (flag_at T f) 3 + 2) 6))

-- frame f is a part of class c of element el
unfoldable pub part_at : Table → (c el f : ℕ) → Bool
part_at T c el f = both (eqb (class_at T f) c) (eqb (field_at T f 0) el)

-- how many parts of class c element el has
unfoldable pub parts : Table → (c el : ℕ) → ℕ
parts T c el = count_if (part_at T c el) (frames_of T)

abbrev pub event_inputs : Table → (el : ℕ) → ℕ
event_inputs T el = parts T 0 el

abbrev pub event_outputs : Table → (el : ℕ) → ℕ
event_outputs T el = parts T 1 el

abbrev pub inputs : Table → (el : ℕ) → ℕ
inputs T el = parts T 2 el

abbrev pub outputs : Table → (el : ℕ) → ℕ
outputs T el = parts T 3 el

abbrev pub internals : Table → (el : ℕ) → ℕ
internals T el = parts T 4 el

abbrev pub unknowns : Table → (el : ℕ) → ℕ
unknowns T el = parts T 5 el

-- "A source has no event inputs and only output variables."
unfoldable pub source_shape : Table → (el : ℕ) → Bool
source_shape T el =
    both (eqb (event_inputs T el) 0) (both (eqb (inputs T el) 0) (both (eqb (internals T el) 0) (eqb (unknowns T el) 0)))

-- "A sink has no event outputs and only input variables."
unfoldable pub sink_shape : Table → (el : ℕ) → Bool
sink_shape T el =
    both (eqb (event_outputs T el) 0) (both (eqb (outputs T el) 0) (both (eqb (internals T el) 0) (eqb (unknowns T el) 0)))

-- "An interface has as many event inputs as outputs and as many input as output variables, and no internal ones"
unfoldable pub interface_shape : Table → (el : ℕ) → Bool
interface_shape T el =
    both (eqb (event_inputs T el) (event_outputs T el)) (both (eqb (inputs T el) (outputs T el)) (eqb (internals T el) 0))

-- "A delay has two event inputs (first START, second STOP), one event output, one variable, an input (DT)."
unfoldable pub delay_shape : Table → (el : ℕ) → Bool
delay_shape T el =
    both (eqb (event_inputs T el) 2)
    (both (eqb (event_outputs T el) 1)
    (both (eqb (inputs T el) 1)
    (both (eqb (outputs T el) 0) (both (eqb (internals T el) 0) (eqb (unknowns T el) 0)))))

-- element el, were it of this sort; a basic element may have any parts
unfoldable pub shape_as : (sort : ℕ) → Table → (el : ℕ) → Bool
shape_as sort T el =
    pick (eqb sort interface) (interface_shape T el)
    (pick (eqb sort delay) (delay_shape T el)
    (pick (eqb sort source) (source_shape T el) (pick (eqb sort sink) (sink_shape T el) true)))

-- frame f, if it is an element, has its shape
unfoldable pub shape_ok : Table → (f : ℕ) → Bool
shape_ok T f = either (not (eqb (kind_at T f) element)) (shape_as (flag_at T f) T (count_to T element f))
