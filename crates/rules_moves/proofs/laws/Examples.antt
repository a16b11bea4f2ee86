-- Computed examples: what no law says of the rules of the moves, so that code and definition cannot change it together.
use Rattle.std.specs.Prelude.{◌≡◌, refl, Bool, true, false, List, [], ◌∷◌, ◌++◌, map, ℕ, ◌+◌, get_or, replicate}
use Rattle.rules_walks.specs.All.{any_to}
use Rattle.rules_walks.specs.Choose.{choose}
use Rattle.rules_walks.specs.Count.{count_if}
use Rattle.rules_walks.specs.First.{first_from}
use Rattle.rules_walks.specs.Walk.{up_to}
use Rattle.rules_numbers.specs.Bytes.{half_at, half_bytes, word_bytes}
use Rattle.rules_numbers.specs.Clip.{clip, quotient}
use Rattle.rules_numbers.specs.Operation.{operation}
use Rattle.rules_numbers.specs.Truth.{true_value, outcome}
use Rattle.rules_tables.specs.declared.Shape.{Shape}
use Rattle.rules_tables.specs.Kind.{of_output}
use Rattle.rules_tables.specs.Frame.{flag_at, field_at}
use Rattle.rules_tables.specs.Ids.{inputs, variables, associations, actions, connections, links}
use Rattle.rules_tables.specs.Owned.{belongs, is_nth}
use Rattle.rules_tables.specs.Actions.{action_of, action_number}
use Rattle.rules_store.specs.Layout.{element_at, input_at, variable_at}
use Rattle.rules_store.specs.Word.{counted, put_owner, running_of, put_running, overwritten, put_overwritten, untrue, put_untrue, due_flag, due_time, set_due, put_next, waiting, birth_of, last_update, put_input, value, put_value, buffer}
use Rattle.rules_store.specs.Due.{sooner, earliest, put_due}
use Rattle.rules_moves.specs.declared.Key.{Key}
use Rattle.rules_moves.specs.declared.Next.TheVariants.{Idle, Back}
use Rattle.rules_moves.specs.Act.{step_outcome, result_put, untrue_step, count_untrue, one_step, event_of, end_move}
use Rattle.rules_moves.specs.Carry.{voice, speaks, carried_by, carries}
use Rattle.rules_moves.specs.Chart.{heard, guard_holds, go_idle}
use Rattle.rules_moves.specs.Fire.{mark, connect, fire}
use Rattle.rules_moves.specs.Guard.{guard_of, guard_at, holds}
use Rattle.rules_moves.specs.Least.{beats}
use Rattle.rules_moves.specs.Next.{move_by}
use Rattle.rules_moves.specs.Record.{head, value_of, values, record_of, put_out}
use Rattle.rules_moves.specs.Take.{sample, fire_found, ticks_in, dt_of, is_start, started, start_stop, sampled, settle, settled, fired_by, taken}

abbrev key : ℕ → ℕ → ℕ → Key
key last priority local = record { last = last; priority = priority; local = local }

-- ---- "take the least by (last update, element priority, local priority)": each decides where those before it are equal, and the smaller wins
pub last_update_first : beats (key 5 9 9) (key 6 0 0) ≡ true
unfolding beats
last_update_first = refl

pub then_priority : beats (key 5 1 9) (key 5 2 0) ≡ true
unfolding beats
then_priority = refl

pub then_local_priority : beats (key 5 1 3) (key 5 1 4) ≡ true
unfolding beats
then_local_priority = refl

pub not_the_greater : beats (key 5 1 4) (key 5 1 3) ≡ false
unfolding beats
not_the_greater = refl

-- ---- "A record: element, event input (2 bytes each), birth, last update, now": of element 258, event input 3, born 7, updated 8, now 9
pub record_head : head 258 3 7 8 9 ≡ 1 ∷ 2 ∷ 0 ∷ 3 ∷ 0 ∷ 0 ∷ 0 ∷ 7 ∷ 0 ∷ 0 ∷ 0 ∷ 8 ∷ 0 ∷ 0 ∷ 0 ∷ 9 ∷ []
unfolding head half_bytes word_bytes
record_head = refl

-- ---- "whose event is none, or is the current event while live": event input 4 is current, and stands in the store plus 1
pub hears : map (λ (c : ℕ). heard c 5 1) (65535 ∷ 4 ∷ 5 ∷ []) ≡ true ∷ true ∷ false ∷ []
unfolding heard
hears = refl

pub hears_no_more : map (λ (c : ℕ). heard c 5 0) (65535 ∷ 4 ∷ []) ≡ true ∷ false ∷ []
unfolding heard
hears_no_more = refl

-- ---- a small network: how many frames of each kind
abbrev frames : (elements inputs outputs variables associations actions connections : ℕ) → Shape
frames e i o v a c n =
    record {
      elements_end = e;
      inputs_end = e + i;
      outputs_end = e + i + o;
      variables_end = e + i + o + v;
      associations_end = e + i + o + v + a;
      states_end = e + i + o + v + a;
      transitions_end = e + i + o + v + a;
      actions_end = e + i + o + v + a + c;
      steps_end = e + i + o + v + a + c;
      connections_end = e + i + o + v + a + c + n;
      links_end = e + i + o + v + a + c + n;
    }

-- a frame of small numbers a, b, c, d
abbrev frame : (kind flag a b c d : ℕ) → List ℕ
frame kind flag a b c d = kind ∷ flag ∷ 0 ∷ a ∷ 0 ∷ b ∷ 0 ∷ c ∷ 0 ∷ d ∷ 0 ∷ 0 ∷ []

-- the words of a store at these places
abbrev at : List ℕ → List ℕ → List ℕ
at ps s = map (λ (p : ℕ). get_or s p 0) ps

-- ---- what an event carries: event output 0 is associated with variable 0, event output 1 with variable 1
abbrev two : List ℕ
two = frame 5 1 0 0 0 0 ++ frame 5 1 1 1 0 0

pub carries_its_own : map (carries two (frames 0 0 0 0 2 0 0) (voice of_output 0)) (0 ∷ 1 ∷ []) ≡ true ∷ false ∷ []
unfolding carries carried_by speaks any_to associations flag_at field_at half_at
carries_its_own = refl

-- ---- a sink with one event input and one associated variable, of value 70 and buffer 42: the event, born 3 and last updated 5, is taken at 9
abbrev sinking : List ℕ
sinking = frame 1 4 0 0 0 0 ++ frame 2 0 0 0 0 0 ++ frame 4 0 0 0 0 0 ++ frame 5 0 0 0 0 0

abbrev waits : List ℕ
waits = 9 ∷ replicate 18 0 ++ (1 ∷ 3 ∷ 5 ∷ 70 ∷ 42 ∷ [])

-- "Sink: a record is written", with the values just sampled
pub sink_record : put_out sinking (frames 1 1 0 1 1 0 0) 0 3 9 waits ≡ head 0 0 3 5 9 ++ word_bytes 42
unfolding put_out record_of values value_of sampled sample speaks up_to choose put_input put_value value buffer last_update input_at variable_at inputs variables associations flag_at field_at half_at
sink_record = refl

-- "It stops waiting. Associated inputs get value from buffer."
pub sink_takes : at (19 ∷ 20 ∷ 21 ∷ 22 ∷ 23 ∷ []) (sampled sinking (frames 1 1 0 1 1 0 0) 0 waits) ≡ 0 ∷ 0 ∷ 0 ∷ 42 ∷ 42 ∷ []
unfolding sampled sample speaks up_to choose put_input put_value buffer input_at variable_at inputs associations flag_at field_at half_at
sink_takes = refl

-- ---- "Guards: 0 always; 1 to 4: d equals, differs from, is below, is at most e": a transition whose d is variable 1 and whose e is variable 0
abbrev guarding : ℕ → List ℕ
guarding n = frame 4 0 0 0 0 0 ++ frame 4 0 0 0 0 0 ++ frame 7 n 0 0 0 1

abbrev holding : ℕ → ℕ → List ℕ
holding e d = replicate 16 0 ++ (e ∷ 0 ∷ d ∷ 0 ∷ [])

-- with -2147483648 and 2147483647, with -1 twice, with 1 and -1
abbrev verdicts : ℕ → List Bool
verdicts n =
    map (λ (s : List ℕ). guard_holds (guarding n) (frames 0 0 0 2 0 0 0) s 0)
    (holding 2147483647 2147483648 ∷ holding 4294967295 4294967295 ∷ holding 4294967295 1 ∷ [])

pub guards_hold :
    map verdicts (0 ∷ 1 ∷ 2 ∷ 3 ∷ 4 ∷ [])
    ≡ (true ∷ true ∷ true ∷ [])
    ∷ (false ∷ true ∷ false ∷ [])
    ∷ (true ∷ false ∷ true ∷ [])
    ∷ (true ∷ false ∷ false ∷ [])
    ∷ (true ∷ true ∷ false ∷ [])
    ∷ []
unfolding guard_holds guard_at guard_of holds value variable_at inputs variables flag_at field_at half_at
guards_hold = refl

-- ---- "2 subtract c from b": the result is variable 0, b is variable 1 of value 9, c variable 2 of value 4
pub step_order : at (11 ∷ 16 ∷ []) (one_step (frame 9 2 0 1 2 0) (frames 0 0 0 3 0 0 0) 0 0 (replicate 18 0 ++ (9 ∷ 0 ∷ 4 ∷ 0 ∷ []))) ≡ 0 ∷ 5 ∷ []
unfolding one_step step_outcome result_put untrue_step count_untrue counted outcome true_value operation clip choose put_value value untrue put_untrue variable_at inputs variables flag_at field_at half_at
step_order = refl

-- ---- "Word 11 counts untrue steps since load and stops at 4,294,967,295.": 9 divided by 0, where so many were counted before
abbrev dividing : ℕ → List ℕ
dividing n = replicate 11 0 ++ (n ∷ 0 ∷ 0 ∷ 0 ∷ 0 ∷ 3 ∷ 0 ∷ 9 ∷ 0 ∷ 0 ∷ 0 ∷ [])

pub step_counts :
    map (λ (n : ℕ). at (11 ∷ 16 ∷ []) (one_step (frame 9 5 0 1 2 0) (frames 0 0 0 3 0 0 0) 0 0 (dividing n))) (0 ∷ 7 ∷ 4294967295 ∷ [])
    ≡ (1 ∷ 0 ∷ []) ∷ (8 ∷ 0 ∷ []) ∷ (4294967295 ∷ 0 ∷ []) ∷ []
unfolding one_step step_outcome result_put untrue_step count_untrue counted outcome true_value operation clip quotient choose put_value value untrue put_untrue variable_at inputs variables flag_at field_at half_at
step_counts = refl

-- it is one untrue step, and a true one is none
pub step_untrue : map (λ (op : ℕ). untrue_step (frame 9 op 0 1 2 0) (frames 0 0 0 3 0 0 0) 0 0 (dividing 7)) (0 ∷ 1 ∷ 5 ∷ []) ≡ 0 ∷ 0 ∷ 1 ∷ []
unfolding step_outcome untrue_step outcome true_value operation clip quotient choose value variable_at inputs variables flag_at field_at half_at
step_untrue = refl

-- a result that goes into its own operand is judged by the operands as they were: 1073741823 doubled is true, and doubled once more would not be
pub step_into_itself : at (11 ∷ 16 ∷ []) (one_step (frame 9 1 0 0 0 0) (frames 0 0 0 3 0 0 0) 0 0 (replicate 16 0 ++ (1073741823 ∷ 0 ∷ 0 ∷ 0 ∷ 0 ∷ 0 ∷ []))) ≡ 0 ∷ 2147483646 ∷ []
unfolding one_step step_outcome result_put untrue_step count_untrue counted outcome true_value operation clip choose put_value value untrue put_untrue variable_at inputs variables flag_at field_at half_at
step_into_itself = refl

-- ---- "Delay: START sets due to now + DT (a negative DT counts as 0), STOP clears it.": START is event input 0 and associated with DT, whose value is 30 and
-- whose buffer 50; now is 9
abbrev delaying : List ℕ
delaying = frame 1 2 0 0 0 0 ++ frame 2 0 0 0 0 0 ++ frame 2 1 0 0 0 0 ++ frame 4 0 0 0 0 0 ++ frame 5 0 0 0 0 0

abbrev clocked : (flag at : ℕ) → List ℕ
clocked flag at = 9 ∷ replicate 8 0 ++ (flag ∷ at ∷ replicate 6 0 ++ (flag ∷ at ∷ 1 ∷ 3 ∷ 5 ∷ 1 ∷ 4 ∷ 6 ∷ 30 ∷ 50 ∷ []))

-- the next due time, due flag and due time, and DT, once these events are taken
abbrev afterwards : List ℕ → List ℕ → List ℕ
afterwards [] s = at (9 ∷ 10 ∷ 17 ∷ 18 ∷ 25 ∷ []) s
afterwards (i ∷ is) s = afterwards is (taken delaying (frames 1 2 0 1 1 0 0) i 9 s)

-- START; STOP; STOP and then START: of a delay that is not due, of one due at 20, and of one due now. A START that finds it due leaves that, and "DT is still
-- sampled"; one after STOP counts
pub delay_takes :
    map (λ (is : List ℕ). map (afterwards is) (clocked 0 0 ∷ clocked 1 20 ∷ clocked 1 9 ∷ [])) ((0 ∷ []) ∷ (1 ∷ []) ∷ (1 ∷ 0 ∷ []) ∷ [])
    ≡ ((1 ∷ 59 ∷ 1 ∷ 59 ∷ 50 ∷ []) ∷ (1 ∷ 20 ∷ 1 ∷ 20 ∷ 50 ∷ []) ∷ (1 ∷ 9 ∷ 1 ∷ 9 ∷ 50 ∷ []) ∷ [])
    ∷ ((0 ∷ 0 ∷ 0 ∷ 0 ∷ 30 ∷ []) ∷ (0 ∷ 0 ∷ 0 ∷ 0 ∷ 30 ∷ []) ∷ (0 ∷ 0 ∷ 0 ∷ 0 ∷ 30 ∷ []) ∷ [])
    ∷ ((1 ∷ 59 ∷ 1 ∷ 59 ∷ 50 ∷ []) ∷ (1 ∷ 59 ∷ 1 ∷ 59 ∷ 50 ∷ []) ∷ (1 ∷ 59 ∷ 1 ∷ 59 ∷ 50 ∷ []) ∷ [])
    ∷ []
unfolding taken settled settle sampled sample speaks fire_found fired_by up_to start_stop started is_start dt_of ticks_in due_flag put_due set_due put_next earliest sooner due_time birth_of put_input element_at input_at value put_value buffer variable_at is_nth belongs first_from count_if choose inputs variables associations flag_at field_at half_at
delay_takes = refl

-- ---- "Mode 2, action's steps done: its event, if any, is fired with the current birth; next action, or 0 after the last, step 0": an action without steps fires
-- event output 0, which is connected to event input 0; the event being run was born at 5, and now is 9
abbrev acting : List ℕ
acting = frame 2 0 0 0 0 0 ++ frame 3 0 0 0 0 0 ++ frame 8 0 0 0 0 0 ++ frame 10 0 0 0 0 0

pub action_fires : at (3 ∷ 4 ∷ 5 ∷ 6 ∷ 7 ∷ 16 ∷ 17 ∷ 18 ∷ [])
    (end_move acting (frames 0 1 1 0 0 1 1) 9 0 (record { birth = 5; mode = 2; live = 0; action = 1; step = 0 }) 0 (replicate 19 0))
    ≡ 5 ∷ 2 ∷ 0 ∷ 0 ∷ 0 ∷ 1 ∷ 5 ∷ 9 ∷ []
unfolding end_move event_of fire_found fire connect mark counted up_to choose waiting overwritten put_input put_overwritten put_running input_at connections links actions action_number action_of is_nth belongs first_from count_if flag_at field_at half_at
action_fires = refl

-- ---- "Mode 1, no such transition: idle."; "Mode 2, action 0: mode 1, live stays 0"
abbrev busy : List ℕ
busy = 9 ∷ 1 ∷ 2 ∷ 3 ∷ 2 ∷ 0 ∷ 0 ∷ 0 ∷ 7 ∷ []

pub goes_idle : move_by [] (frames 0 0 0 0 0 0 0) 9 Idle busy ≡ 9 ∷ 0 ∷ 0 ∷ 0 ∷ 0 ∷ 0 ∷ 0 ∷ 0 ∷ 7 ∷ []
unfolding move_by go_idle put_running put_owner
goes_idle = refl

pub goes_back : move_by [] (frames 0 0 0 0 0 0 0) 9 Back busy ≡ 9 ∷ 1 ∷ 2 ∷ 3 ∷ 1 ∷ 0 ∷ 0 ∷ 0 ∷ 7 ∷ []
unfolding move_by running_of put_running
goes_back = refl
