-- What the program `show` prints: the chart states and values of a store by element, readable by a person.
use Rattle.std.specs.Prelude.{ℕ, List, [], ◌++◌, eqb}
use Rattle.rules_walks.specs.Choose.{choose}
use Rattle.rules_tables.specs.Kind.{basic, interface, delay, source, input, output}
use Rattle.rules_tables.specs.Frame.{Table, flag_at}
use Rattle.rules_tables.specs.declared.Shape.{Shape}
use Rattle.rules_tables.specs.Ids.{elements, variables, variable_frame}
use Rattle.rules_store.specs.Word.{Store, chart_state, value}
use Rattle.rules_moves.specs.Partner.{variable_owner}
use Rattle.rules_traces.specs.Gather.{gather}
use Rattle.rules_shows.specs.Words.{codes, decimal, signed}

-- ---- words: the sort of an element, the role of a variable
unfoldable pub sort_word : (sort : ℕ) → List ℕ
sort_word sort =
    choose (eqb sort basic) (codes "basic")
    (choose (eqb sort interface) (codes "interface") (choose (eqb sort delay) (codes "delay") (choose (eqb sort source) (codes "source") (codes "sink"))))

unfoldable pub role_word : (role : ℕ) → List ℕ
role_word role = choose (eqb role input) (codes "  input ") (choose (eqb role output) (codes "  output ") (codes "  internal "))

-- ---- lines
-- of variable v: its role, id and value
unfoldable pub variable_line : Table → Shape → Store → (v : ℕ) → List ℕ
variable_line T S s v = role_word (flag_at T (variable_frame S v)) ++ (decimal v ++ (codes " = " ++ (signed (value S s v) ++ codes "\n")))

-- where it belongs to element el
unfoldable pub variable_text : Table → Shape → Store → (el v : ℕ) → List ℕ
variable_text T S s el v = choose (eqb (variable_owner T S v) el) (variable_line T S s v) []

-- of element el: its id, its sort and, where that has a chart, the state
unfoldable pub state_text : (sort : ℕ) → Store → (el : ℕ) → List ℕ
state_text sort s el = choose (eqb sort basic) (codes ", state " ++ decimal (chart_state s el)) []

unfoldable pub element_line : Table → Store → (el : ℕ) → List ℕ
element_line T s el = codes "element " ++ (decimal el ++ (codes " " ++ (sort_word (flag_at T el) ++ (state_text (flag_at T el) s el ++ codes "\n"))))

-- an element with its variables, by id
unfoldable pub element_text : Table → Shape → Store → (el : ℕ) → List ℕ
element_text T S s el = element_line T s el ++ gather (variable_text T S s el) (variables S)

-- how many frames were read
unfoldable pub frames_line : (n : ℕ) → List ℕ
frames_line n = codes "frames " ++ (decimal n ++ codes "\n")

-- all of it
unfoldable pub shown_text : Table → Shape → Store → (n : ℕ) → List ℕ
shown_text T S s n = frames_line n ++ gather (element_text T S s) (elements S)
