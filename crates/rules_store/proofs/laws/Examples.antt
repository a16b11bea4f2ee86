-- Computed examples: where the words of the worked table's store lie, 39 in all, so that a reader and its writer cannot change places together; and what no
-- law says of well-formed stores, of the running block and of load.
use Rattle.std.specs.Prelude.{◌≡◌, refl, true, false, List, [], ◌∷◌, map, ℕ, ◌+◌, ◌*◌, ◌≤◌, ◌<◌, get_or, set, replicate}
use Rattle.rules_walks.specs.All.{all_to}
use borrow.Author.Tests.{le-leb, lt-leb}
use Rattle.rules_walks.specs.First.{one}
use Rattle.rules_walks.specs.Choose.{choose}
use Rattle.rules_walks.specs.Walk.{up_to}
use Rattle.rules_tables.specs.declared.Shape.{Shape}
use Rattle.rules_tables.specs.Frame.{flag_at, field_at}
use Rattle.rules_tables.specs.Ids.{inputs, variables, action_frame}
use Rattle.rules_store.specs.declared.NextDue.{NextDue}
use Rattle.rules_store.specs.declared.Running.{Running}
use Rattle.rules_store.specs.Layout.{need, element_at, input_at, variable_at}
use Rattle.rules_store.specs.Due.{nothing_due, due_then, sooner, earliest, put_due}
use Rattle.rules_store.specs.Load.{initial, start_value, start, loaded}
use Rattle.rules_store.specs.Running.{entered}
use Rattle.rules_store.specs.WellFormed.{spare_ok, is_next, next_ok, rest_ok, running_ok, due_ok, parts_ok, well_formed, step_ok}
use Rattle.rules_store.specs.Word.{now_of, put_now, running_element, current_event, put_owner, running_of, put_running, put_overwritten, counted, put_untrue, spare_at, spare_word, put_chart_state, due_flag, due_time, set_due, next_due, put_next, put_input, put_value, put_buffer}

-- "A source, a block that doubles, a sink; store need 39."
abbrev shape : Shape
shape =
    record {
      elements_end = 3;
      inputs_end = 5;
      outputs_end = 7;
      variables_end = 11;
      associations_end = 15;
      states_end = 17;
      transitions_end = 19;
      actions_end = 20;
      steps_end = 21;
      connections_end = 23;
      links_end = 25;
    }

abbrev block : Running
block = record { birth = 13; mode = 14; live = 15; action = 16; step = 17 }

-- the words of a store at these places
abbrev at : List ℕ → List ℕ → List ℕ
at ps s = map (λ (p : ℕ). get_or s p 0) ps

pub need_39 : need shape ≡ 39
unfolding need inputs variables
need_39 = refl

-- "Words 0 to 8: now; running element plus 1, or 0; current event plus 1, or 0; its birth; mode; live flag; action number; step number; overwritten count"
pub first_words : at (0 ∷ 1 ∷ 2 ∷ 3 ∷ 4 ∷ 5 ∷ 6 ∷ 7 ∷ 8 ∷ []) (put_now 10 (put_owner 11 12 (put_running block (put_overwritten 18 (replicate 39 0)))))
    ≡ 10 ∷ 11 ∷ 12 ∷ 13 ∷ 14 ∷ 15 ∷ 16 ∷ 17 ∷ 18 ∷ []
unfolding put_now put_owner put_running put_overwritten
first_words = refl

-- "Word 11 counts untrue steps since load"
pub untrue_word : at (10 ∷ 11 ∷ 12 ∷ []) (put_untrue 5 (replicate 39 0)) ≡ 0 ∷ 5 ∷ 0 ∷ []
unfolding put_untrue
untrue_word = refl

-- "Word 9 tells whether a due flag is set, word 10 the earliest time or 0."
pub next_words : at (8 ∷ 9 ∷ 10 ∷ 11 ∷ []) (put_next (due_then 5) (replicate 39 7)) ≡ 7 ∷ 1 ∷ 5 ∷ 7 ∷ []
unfolding put_next
next_words = refl

-- "Words 9 to 15 zero.", but for words 9, 10 and 11
pub spare_words : map (spare_word (0 ∷ 1 ∷ 2 ∷ 3 ∷ 4 ∷ 5 ∷ 6 ∷ 7 ∷ 8 ∷ 9 ∷ 10 ∷ 11 ∷ 12 ∷ 13 ∷ 14 ∷ 15 ∷ 16 ∷ [])) (0 ∷ 1 ∷ 2 ∷ 3 ∷ []) ≡ 12 ∷ 13 ∷ 14 ∷ 15 ∷ []
unfolding spare_word spare_at
spare_words = refl

-- ---- the counts: they "stop at 4,294,967,295"
pub count_rises : counted 1 7 ≡ 8
unfolding counted
count_rises = refl

pub count_rests : counted 0 7 ≡ 7
unfolding counted
count_rests = refl

pub count_reaches_its_end : counted 1 4294967294 ≡ 4294967295
unfolding counted
count_reaches_its_end = refl

pub count_stops : counted 1 4294967295 ≡ 4294967295
unfolding counted
count_stops = refl

-- "Then per element: chart state (basic, else 0), due flag, due time."
pub element_words : at (19 ∷ 20 ∷ 21 ∷ []) (put_chart_state 1 5 (set_due 1 6 7 (replicate 39 0))) ≡ 5 ∷ 6 ∷ 7 ∷ []
unfolding put_chart_state set_due element_at
element_words = refl

-- "Per event input: waiting flag, birth, last update."
pub input_words : at (28 ∷ 29 ∷ 30 ∷ []) (put_input shape 1 5 6 7 (replicate 39 0)) ≡ 5 ∷ 6 ∷ 7 ∷ []
unfolding put_input input_at
input_words = refl

-- "Per variable: value, buffer (0 unless an input)."
pub variable_words : at (37 ∷ 38 ∷ []) (put_value shape 3 5 (put_buffer shape 3 6 (replicate 39 0))) ≡ 5 ∷ 6 ∷ []
unfolding put_value put_buffer variable_at inputs variables
variable_words = refl

-- ---- well formed: a network without parts, where only the first sixteen words are asked
abbrev none : Shape
none =
    record {
      elements_end = 0;
      inputs_end = 0;
      outputs_end = 0;
      variables_end = 0;
      associations_end = 0;
      states_end = 0;
      transitions_end = 0;
      actions_end = 0;
      steps_end = 0;
      connections_end = 0;
      links_end = 0;
    }

-- the store of zeros but for this word
abbrev but : ℕ → ℕ → List ℕ
but p x = set (replicate 16 0) p x

-- "Times are whole ticks, read unsigned, 0 to 2,147,483,647."
pub now_ends : map (well_formed [] none) (but 0 2147483647 ∷ but 0 2147483648 ∷ []) ≡ true ∷ false ∷ []
unfolding well_formed spare_ok next_ok is_next earliest next_due running_ok rest_ok parts_ok all_to now_of running_element current_event running_of spare_word spare_at inputs variables
now_ends = refl

-- "idle means words 1 to 7 zero" (word 4 is the mode); "overwritten count"; "Words 9 to 15 zero.", but for word 11, and 9 and 10 are so where nothing is due
pub zero_words : map (λ (p : ℕ). well_formed [] none (but p 1)) (1 ∷ 2 ∷ 3 ∷ 5 ∷ 6 ∷ 7 ∷ 8 ∷ 9 ∷ 10 ∷ 11 ∷ 12 ∷ 15 ∷ [])
    ≡ false ∷ false ∷ false ∷ false ∷ false ∷ false ∷ true ∷ false ∷ false ∷ true ∷ false ∷ false ∷ []
unfolding well_formed spare_ok next_ok is_next earliest next_due running_ok rest_ok parts_ok all_to now_of running_element current_event running_of spare_word spare_at inputs variables
zero_words = refl

-- "A due flag is only on a delay, due from now to 4,294,967,294": a delay, where now is 5
pub due_ends : map (λ (t : ℕ). due_ok (1 ∷ 2 ∷ []) (set (set (set (replicate 19 0) 0 5) 17 1) 18 t) 0) (4 ∷ 5 ∷ 4294967294 ∷ 4294967295 ∷ []) ≡ false ∷ true ∷ true ∷ false ∷ []
unfolding due_ok due_flag due_time element_at flag_at now_of
due_ends = refl

-- ---- the next due time: three elements, of which some are due. Each of these stores is 1 for "is due" and the time, element by element
abbrev zeros : List ℕ
zeros = replicate 39 0

abbrev dues : ℕ → ℕ → ℕ → ℕ → ℕ → ℕ → List ℕ
dues f t g u h v = set_due 0 f t (set_due 1 g u (set_due 2 h v zeros))

abbrev found : List ℕ → NextDue
found s = earliest s 3

-- none; one; two; two at one time; one due at 0; one past the largest time; one whose flag is clear does not count, whatever its time
pub looking_finds : map found (dues 0 0 0 0 0 0 ∷ dues 0 0 1 7 0 0 ∷ dues 1 9 0 0 1 4 ∷ dues 1 4 0 0 1 9 ∷ dues 0 0 1 5 1 5 ∷ dues 1 3 1 0 0 0 ∷ dues 0 0 0 0 1 4294967294 ∷ dues 0 2 1 6 0 0 ∷ [])
    ≡ nothing_due ∷ due_then 7 ∷ due_then 4 ∷ due_then 4 ∷ due_then 5 ∷ due_then 0 ∷ due_then 4294967294 ∷ due_then 6 ∷ []
unfolding earliest sooner choose due_flag due_time set_due element_at
looking_finds = refl

-- ---- the writer of due words: first, sooner, later; then the earliest is cleared, one of two at one time, the last
pub writer_keeps : map next_due (
    put_due shape 1 1 50 zeros ∷ put_due shape 2 1 20 (put_due shape 1 1 50 zeros) ∷ put_due shape 2 1 70 (put_due shape 1 1 50 zeros) ∷
    put_due shape 2 0 0 (put_due shape 2 1 20 (put_due shape 1 1 50 zeros)) ∷ put_due shape 1 0 0 (put_due shape 2 1 20 (put_due shape 1 1 50 zeros)) ∷
    put_due shape 1 0 0 (put_due shape 2 1 50 (put_due shape 1 1 50 zeros)) ∷ put_due shape 1 0 0 (put_due shape 1 1 50 zeros) ∷ put_due shape 0 1 0 zeros ∷ [])
    ≡ due_then 50 ∷ due_then 20 ∷ due_then 50 ∷ due_then 50 ∷ due_then 20 ∷ due_then 50 ∷ nothing_due ∷ due_then 0 ∷ []
unfolding put_due next_due put_next earliest sooner choose due_flag due_time set_due element_at
writer_keeps = refl

-- "a store in which it is wrong is not well formed": element 1 due at 50, element 2 at 20
abbrev two : ℕ → ℕ → List ℕ
two w t = put_next (record { due = w; time = t }) (dues 0 0 1 50 1 20)

pub next_is_asked : map (next_ok shape) (two 1 20 ∷ two 0 0 ∷ two 1 50 ∷ two 1 19 ∷ two 2 20 ∷ two 0 20 ∷ two 1 0 ∷ []) ≡ true ∷ false ∷ false ∷ false ∷ false ∷ false ∷ false ∷ []
unfolding next_ok is_next next_due put_next earliest sooner choose due_flag due_time set_due element_at
next_is_asked = refl

-- and where none is due; and of one due at 0
pub none_is_asked : map (next_ok shape) (zeros ∷ put_next (due_then 0) zeros ∷ put_next (record { due = 0; time = 5 }) zeros ∷ put_next (due_then 0) (dues 1 0 0 0 0 0) ∷ dues 1 0 0 0 0 0 ∷ [])
    ≡ true ∷ false ∷ false ∷ true ∷ false ∷ []
unfolding next_ok is_next next_due put_next earliest sooner choose due_flag due_time set_due element_at
none_is_asked = refl

-- ---- the running block: "State changes, live ends, mode 2, step 0"
pub live_ends : entered 3 block ≡ record { birth = 13; mode = 2; live = 0; action = 3; step = 0 }
live_ends = refl

-- ---- "Load zeroes the need, then sets initial chart states, and start values in value and, for inputs, buffer": a basic element, an input variable and an
-- output variable, in a store of nines with one word past its need. "basic: b initial state"; "b, c start value, high and low half"
abbrev small : Shape
small =
    record {
      elements_end = 1;
      inputs_end = 1;
      outputs_end = 1;
      variables_end = 3;
      associations_end = 3;
      states_end = 3;
      transitions_end = 3;
      actions_end = 3;
      steps_end = 3;
      connections_end = 3;
      links_end = 3;
    }

abbrev table : List ℕ
table =
    1 ∷ 0 ∷ 0 ∷ 0 ∷ 0 ∷ 5 ∷ 0 ∷ 0 ∷ 0 ∷ 0 ∷ 0 ∷ 0 ∷
    4 ∷ 0 ∷ 0 ∷ 0 ∷ 0 ∷ 1 ∷ 0 ∷ 2 ∷ 0 ∷ 0 ∷ 0 ∷ 0 ∷
    4 ∷ 1 ∷ 0 ∷ 0 ∷ 0 ∷ 0 ∷ 0 ∷ 7 ∷ 0 ∷ 0 ∷ 0 ∷ 0 ∷ []

-- the start value of the variable at frame f
abbrev start_at : ℕ → ℕ
start_at f = field_at table f 1 * 65536 + field_at table f 2

pub load_small : loaded table small (replicate 24 9)
    ≡ 0 ∷ 0 ∷ 0 ∷ 0 ∷ 0 ∷ 0 ∷ 0 ∷ 0 ∷ 0 ∷ 0 ∷ 0 ∷ 0 ∷ 0 ∷ 0 ∷ 0 ∷ 0 ∷ field_at table 0 1 ∷ 0 ∷ 0 ∷ start_at 1 ∷ start_at 1 ∷ start_at 2 ∷ 0 ∷ 9 ∷ []
unfolding loaded start initial start_value up_to choose need element_at variable_at put_chart_state put_value put_buffer flag_at inputs variables
load_small = refl

-- ---- "step at most that action's steps": of an action's numbers it is the third, c
module _ (T : List ℕ) (S : Shape) (r : Running) (j : ℕ) where
  pub step_within : r.step ≤ field_at T (action_frame S j) 2 → step_ok T S r (one j) ≡ true
  unfolding step_ok
  step_within h = le-leb _ _ h

  pub step_past : field_at T (action_frame S j) 2 < r.step → step_ok T S r (one j) ≡ false
  unfolding step_ok
  step_past h = lt-leb _ _ h
